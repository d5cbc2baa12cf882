use Rattle.std.proofs.Common.{◌≡◌, ◌<◌, ◌∙◌, length, Some, refl, arith}
use Rattle.std.specs.Prelude.{slice_get}
use Rattle.std.specs.Vec.{with_item}
use Rattle.code_machine.proofs.Lists.{inside}
use Rattle.code_machine.proofs.ThreadSlots.{there_read}
use Rattle.code_machine.proofs.Working.{same_run, slot_settled, slot_worked}
use Rattle.code_machine.proofs.state.RunState.run_on_due.Goals as goal

pub returns-then-slot-len-clause-same : goal.returns-then-slot-len-clause-same
returns-then-slot-len-clause-same c = same_run c.args.image.now c.args.self.now c.requires

pub returns-then-slot-len-clause-settled : goal.returns-then-slot-len-clause-settled
returns-then-slot-len-clause-settled c = λ d.
    let slots = c.args.self.now.slots in
    omega (arith, inside slots.items c.args.slot d.running d.there, c.if-slot-len.true, c.len.ensures, slots.ok.0)

pub run_on-requires : goal.run_on-requires
run_on-requires c =
    let old = c.args.self.now in
    let before = c.index_mut.result.now in
    let within : c.args.slot < length old.slots.items = omega (arith, c.if-slot-len.false, c.len.ensures, old.slots.ok.0) in
    c.requires.slots.fit c.args.slot before (there_read old.slots.items (length old.slots.items) c.args.slot before refl within c.index_mut.ensures.value)

pub returns-clause-same : goal.returns-clause-same
returns-clause-same c =
    let old = c.args.self.now in
    let before = c.index_mut.result.now in
    let within : c.args.slot < length old.slots.items = omega (arith, c.if-slot-len.false, c.len.ensures, old.slots.ok.0) in
    let there : slice_get old.slots.items c.args.slot ≡ Some before = there_read old.slots.items (length old.slots.items) c.args.slot before refl within c.index_mut.ensures.value in
    slot_worked c.args.image.now old (with_item old.slots c.args.slot c.run_on.new.self) c.args.slot before c.run_on.new.self there refl c.requires
    c.run_on.ensures.fits c.run_on.ensures.seen c.run_on.ensures.runs c.run_on.ensures.same.depth
    (λ e. c.run_on.ensures.same.leaves ∙ c.requires.leaves e c.args.slot before there)

pub returns-clause-settled : goal.returns-clause-settled
returns-clause-settled c =
    slot_settled c.args.self.now _ c.args.slot c.run_on.new.self refl c.run_on.ensures.settled
