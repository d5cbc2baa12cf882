use Rattle.std.proofs.Common.{length, refl, subst, sym, ◌∙◌, arith}
use Rattle.std.specs.Prelude.{All}
use Rattle.std.proofs.lemmas.List.Elements.{All-nil}
use Rattle.std.specs.Vec.{with_item}
use Rattle.code_machine.specs.Versions.{IsOfVersion}
use Rattle.code_machine.proofs.Keeping.{keeps_all, keeps_slot}
use Rattle.code_machine.proofs.ThreadSlots.{started_in, there_read}
use Rattle.code_machine.proofs.thread_stops.put.Goals as goal

pub returns-then-run-ge-MOST_THREADS-clause-keeps : goal.returns-then-run-ge-MOST_THREADS-clause-keeps
returns-then-run-ge-MOST_THREADS-clause-keeps c =
    keeps_all c.args.image.now c.args.run.now _ (record { versions = refl; in_force = refl; layouts = refl }) refl refl c.requires.kept refl refl refl

pub returns-clause-keeps : goal.returns-clause-keeps
returns-clause-keeps c =
    let image = c.args.image.now in
    let old = c.args.run.now in
    let kept = c.requires.kept in
    let before = c.index_mut.result.now in
    let there = there_read old.slots.items (length old.slots.items) c.args.place before refl c.requires.there c.index_mut.ensures.value in
    keeps_slot image old _ (record { versions = refl; in_force = refl; layouts = refl }) refl refl kept c.args.place c.start.new.self refl
    (c.start.ensures.fits image.functions.items (length image.callees.items) c.requires.inside (kept.slots.fit c.args.place before there).stacks)
    (λ all is. subst (All (IsOfVersion image.functions.items old.versions.items)) (sym c.start.ensures.none) (All-nil (IsOfVersion image.functions.items old.versions.items)))
    (λ n u. omega (arith, c.start.ensures.depth)) (omega (arith, c.if-run-ge-MOST_THREADS.false)) (omega arith) (λ n created. omega (arith, created))
    (λ e. c.start.ensures.leaves ∙ kept.leaves e c.args.place before there)

pub returns-clause-started : goal.returns-clause-started
returns-clause-started c =
    let old = c.args.run.now in
    started_in c.args.image.now old (with_item old.slots c.args.place c.start.new.self) c.args.version c.args.function c.args.argument c.args.place c.start.new.self
    refl (c.start.ensures.started c.args.image.now) c.requires.free c.thread_word.result c.thread_word.ensures
