use Rattle.std.proofs.Common.{◌∙◌, ap, subst, sym}
use Rattle.pass_lock.specs.Histories.{Adds}
use Rattle.pass_lock.specs.Passes.{opened}
use Rattle.threaded_vm.specs.Locked.{log_of}
use Rattle.threaded_vm.proofs.seat.Seat.open_due.Goals as goal

pub give-requires-clause-turn : goal.give-requires-clause-turn
give-requires-clause-turn g c =
    let log = log_of c.take-turn.result.value.shared.value in
    let own = c.open_due-opened.ensures in
    let number = sym (ap (λ k. k.number) c.take-turn.ensures.pass ∙ c.self.invariant) in (
      opened log,
      own.0,
      ap (λ k. k.turn) c.take-turn.ensures.pass,
      subst (λ n. Adds n log own.0 (log_of c.open_due-opened.new.self)) number
          (subst (λ l. Adds c.self.inside.slot l own.0 (log_of c.open_due-opened.new.self)) (ap log_of c.deref_mut.ensures.value) own.1),
    )
