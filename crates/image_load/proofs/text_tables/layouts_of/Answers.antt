use Rattle.std.proofs.Common.{◌∷◌, ◌++◌, [], List, map, take, sym, subst}
use Rattle.std.specs.Prelude.{string_bytes}
use Rattle.std.proofs.lemmas.Result.{err_from_is_err_and}
use Rattle.c_tree.specs.Bare.{bare_def}
use Rattle.c_tree.specs.BareExpr.{Bytes}
use Rattle.word_layouts.specs.TextLayouts.{IsLayoutOf}
use Rattle.image_load.specs.TextTables.{HaveRows}
use Rattle.image_load.proofs.NameNumbers.{next_item}
use Rattle.image_load.proofs.Rows.{more_rows}
use Rattle.image_load.proofs.text_tables.layouts_of.Goals as goal

pub loop-tag-preserved : goal.loop-tag-preserved
loop-tag-preserved c =
    let text = map bare_def c.args.known.now in
    let own = c.tag-item.result in
    let i = c.loop-tag.tag-index in
    let before = c.loop-tag.layouts.items in
    let listed = map string_bytes (take i c.args.tags.now) in
    let next = next_item string_bytes c.args.tags.now i own c.loop-tag-test.true c.tag-item.is in
    subst (λ (ns : List Bytes). HaveRows (IsLayoutOf text) ns c.push.new.self.items) (sym next)
    (subst (λ rs. HaveRows (IsLayoutOf text) (listed ++ string_bytes own ∷ []) rs) (sym c.in_ok-push.ensures.items)
    (more_rows (IsLayoutOf text) listed before c.loop-tag.invariant (string_bytes own) c.in_ok-made.made
    (subst (λ (n : Bytes). IsLayoutOf text n c.in_ok-made.made) c.as_str.ensures.value c.in_ok-made.ensures.layout)))

pub returns-in_err-made-clause-fault : goal.returns-in_err-made-clause-fault
returns-in_err-made-clause-fault c =
    let p = err_from_is_err_and c.from_residual-in_err-made.result c.from_residual-in_err-made.ensures.1 in
    rw (p.1, p.2) (λ small. c.in_err-made.ensures.fault (small c.as_str.result.now))
