use Rattle.std.proofs.Common.{◌≡◌, ◌<◌, ◌∙◌, length, Some, true, refl, arith}
use Rattle.std.specs.Prelude.{slice_get}
use Rattle.std.specs.Vec.{with_item}
use Rattle.std.proofs.lemmas.List.{length-set}
use Rattle.code_machine.proofs.Keeping.{not_both}
use Rattle.code_machine.proofs.PrivateWork.{fits_leaving, seen_leaving}
use Rattle.code_machine.proofs.ThreadSlots.{there_read}
use Rattle.code_machine.proofs.Working.{same_leaving, slot_worked, then_same}
use Rattle.code_machine.proofs.state.RunState.leave_work.Goals as goal

pub loop-slot-init : goal.loop-slot-init
loop-slot-init c = record {
  leaves = refl;
  long = refl;
  same = λ image kept. same_leaving image c.args.self.now true kept (λ e. absurd (not_both true refl e));
}

pub index_mut-requires : goal.index_mut-requires
index_mut-requires c = omega (arith, c.loop-slot-test.true, c.loop-slot.invariant.long, c.len-slot-end.ensures, c.args.self.now.slots.ok.0, c.loop-slot.self.slots.ok.0)

pub loop-slot-preserved : goal.loop-slot-preserved
loop-slot-preserved c = record {
  leaves = c.loop-slot.invariant.leaves;
  long = length-set c.loop-slot.self.slots.items c.loop-slot.slot _ ∙ c.loop-slot.invariant.long;
  same = λ image kept.
      let i = c.loop-slot.invariant in
      let old = c.loop-slot.self in
      let before = c.index_mut.result.now in
      let so = i.same image kept in
      let within : c.loop-slot.slot < length old.slots.items = omega (arith, c.loop-slot-test.true, i.long, c.len-slot-end.ensures, c.args.self.now.slots.ok.0) in
      let there : slice_get old.slots.items c.loop-slot.slot ≡ Some before = there_read old.slots.items (length old.slots.items) c.loop-slot.slot before refl within c.index_mut.ensures.value in
      then_same image c.args.self.now old _ so
      (slot_worked image old (with_item old.slots c.loop-slot.slot (record before { leaves_work = true })) c.loop-slot.slot before (record before { leaves_work = true }) there refl so.kept
      (fits_leaving _ _ before true (λ e. refl) (so.kept.slots.fit c.loop-slot.slot before there)) (seen_leaving image before true)
      (λ all versions code. record { image_is = code.image_is; frames = code.frames }) refl (λ e. absurd (not_both old.leaves_work i.leaves e)));
}
