use Rattle.std.proofs.Common.{ℕ, List, ◌+◌, ◌≤◌, length, Option, option_copied, option_map, refl, slice_get, subst, arith}
use Rattle.std.specs.Option.{option_flatten}
use Rattle.word_installs.specs.declared.rows.TextRow.{TextRow}
use Rattle.word_installs.specs.NewRows.{GetsWords}
use Rattle.word_installs.proofs.RowSteps.{all_made, made_more}
use Rattle.word_installs.proofs.rows.prepare_rows.Goals as goal

pub loop-n-preserved : goal.loop-n-preserved
loop-n-preserved c = λ names p q was is named are.
    let n = c.loop-n.n in
    let made = option_map (λ v. v.items) c.in_ok-words.words in
    let before : Option TextRow = option_flatten (slice_get c.args.old.now c.loop-n.n) in
    let after : Option TextRow = option_flatten (slice_get c.args.new.now c.loop-n.n) in
    made_more names p q c.args.old.now c.args.new.now was is c.args.shared.now c.loop-n.rows.items c.add_words.new.rows.items n (n + 1) made refl
    (c.loop-n.invariant names p q was is named are)
    (subst (λ (ws : List ℕ). GetsWords p q before after ws made) c.row.ensures
    (subst (λ (o : Option TextRow). GetsWords p q before o c.row.result.now made) c.row_at-in-loop-n.ensures
    (subst (λ (o : Option TextRow). GetsWords p q o (option_copied c.row_at-in-loop-n.result) c.row.result.now made) c.row_at.ensures
    (c.in_ok-words.ensures p q named are))))
    c.in_ok-add_words.ensures

pub returns : goal.returns
returns c = λ names p q was is named are.
    let all : length c.args.new.now ≤ c.loop-n.n = omega (arith, c.loop-n-test.false) in
    all_made names p q c.args.old.now c.args.new.now was is c.args.shared.now c.loop-n.rows.items c.loop-n.n all
    (c.loop-n.invariant names p q was is named are)
