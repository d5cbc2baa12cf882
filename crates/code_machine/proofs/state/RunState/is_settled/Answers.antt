use Rattle.std.proofs.Common.{inl, inr, arith, sym, subst, ap, ◌∙◌}
use Rattle.std.proofs.lemmas.Bool.{cases_eq}
use Rattle.code_machine.specs.declared.running.Running.{Running}
use Rattle.code_machine.specs.Kept.{IsDueAt}
use Rattle.code_machine.proofs.Lists.{inside, same_read}
use Rattle.code_machine.proofs.state.RunState.is_settled.Goals as goal

pub loop-slot-init : goal.loop-slot-init
loop-slot-init c = λ n h. absurd (omega (arith, h))

pub loop-slot-preserved : goal.loop-slot-preserved
loop-slot-preserved c = λ n h d. elim (cases_eq n c.loop-slot.slot) [
  | inl same ↦
      let slots = c.args.self.now.slots.items in
      let here = subst (IsDueAt c.args.self.now) same d in
      let read = same_read slots c.loop-slot.slot here.running c.index.result.now here.there (inside slots c.loop-slot.slot here.running here.there) c.index.ensures in
      c.is_due.ensures c.if-is_due.false (sym (ap (λ (r : Running). r.next) read) ∙ here.due)
  | inr differs ↦ c.loop-slot.invariant n (omega (arith, h, differs)) d
]

pub returns : goal.returns
returns c = λ yes n d.
    let within = inside c.args.self.now.slots.items n d.running d.there in
    c.loop-slot.invariant n (omega (arith, within, c.len-slot-end.ensures, c.args.self.now.slots.ok.0)) d
