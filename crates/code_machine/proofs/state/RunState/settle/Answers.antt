use Rattle.std.proofs.Common.{◌≡◌, ◌<◌, ◌∙◌, inl, inr, length, Some, false, refl, sym, subst, ap, arith}
use Rattle.std.specs.Prelude.{slice_get}
use Rattle.std.specs.Vec.{with_item}
use Rattle.std.proofs.lemmas.Bool.{cases_eq}
use Rattle.std.proofs.lemmas.List.{length-set}
use Rattle.code_machine.specs.declared.running.Running.{Running}
use Rattle.code_machine.proofs.Lists.{get_set_other, get_set_same, inside, one}
use Rattle.code_machine.proofs.ThreadSlots.{there_read}
use Rattle.code_machine.proofs.Working.{same_leaving, same_run, slot_worked, then_same}
use Rattle.code_machine.proofs.state.RunState.settle.Goals as goal

pub loop-slot-init : goal.loop-slot-init
loop-slot-init c = record {
  same = same_run c.args.image.now c.args.self.now c.requires;
  long = refl;
  done = λ n r h there. absurd (omega (arith, h));
}

pub index_mut-requires : goal.index_mut-requires
index_mut-requires c = omega (arith, c.loop-slot-test.true, c.loop-slot.invariant.long, c.len-slot-end.ensures, c.args.self.now.slots.ok.0, c.loop-slot.self.slots.ok.0)

pub settle-requires : goal.settle-requires
settle-requires c =
    let slots = c.loop-slot.self.slots in
    let before = c.index_mut.result.now in
    let within : c.loop-slot.slot < length slots.items = omega (arith, c.loop-slot-test.true, c.loop-slot.invariant.long, c.len-slot-end.ensures, c.args.self.now.slots.ok.0) in
    c.loop-slot.invariant.same.kept.slots.fit c.loop-slot.slot before (there_read slots.items (length slots.items) c.loop-slot.slot before refl within c.index_mut.ensures.value)

pub loop-slot-preserved : goal.loop-slot-preserved
loop-slot-preserved c =
    let i = c.loop-slot.invariant in
    let image = c.args.image.now in
    let old = c.loop-slot.self in
    let slot = c.loop-slot.slot in
    let before = c.index_mut.result.now in
    let after = c.settle.new.self in
    let within : slot < length old.slots.items = omega (arith, c.loop-slot-test.true, i.long, c.len-slot-end.ensures, c.args.self.now.slots.ok.0) in
    let there : slice_get old.slots.items slot ≡ Some before = there_read old.slots.items (length old.slots.items) slot before refl within c.index_mut.ensures.value in
    record {
      same =
          then_same image c.args.self.now old _ i.same
          (slot_worked image old (with_item old.slots slot after) slot before after there refl i.same.kept c.settle.ensures.fits c.settle.ensures.seen c.settle.ensures.runs
          c.settle.ensures.depth (λ e. c.settle.ensures.leaves));
      long = length-set old.slots.items slot after ∙ i.long;
      done = λ n r h is. elim (cases_eq n slot) [
        | inl same ↦
            let here : slice_get (with_item old.slots slot after).items n ≡ Some after =
            ap (slice_get (with_item old.slots slot after).items) same ∙ get_set_same old.slots.items slot after within in
            ap (λ (x : Running). x.leaves_work) (one (slice_get (with_item old.slots slot after).items n) r after is here) ∙ c.settle.ensures.leaves
        | inr differs ↦ i.done n r (omega (arith, h, differs)) (sym (get_set_other old.slots.items slot n after differs) ∙ is)
      ];
    }

pub returns-clause-same : goal.returns-clause-same
returns-clause-same c =
    let i = c.loop-slot.invariant in
    let now = c.loop-slot.self in
    then_same c.args.image.now c.args.self.now now _ i.same
    (same_leaving c.args.image.now now false i.same.kept
    (λ e n r there. i.done n r (let within = inside now.slots.items n r there in omega (arith, within, i.long, c.len-slot-end.ensures, c.args.self.now.slots.ok.0)) there))
