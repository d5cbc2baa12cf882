use Rattle.std.proofs.Common.{◌∙◌, ◌++◌, ap, subst, sym}
use Rattle.pass_lock.specs.Histories.{Adds}
use Rattle.pass_lock.specs.Passes.{opened}
use Rattle.threaded_vm.specs.Locked.{log_of}
use Rattle.threaded_vm.proofs.looks.look.Goals as goal

pub give-requires-clause-turn : goal.give-requires-clause-turn
give-requires-clause-turn g c =
    let log = log_of c.take-turn.result.value.shared.value in
    let own = c.turn-look.ensures.own in
    let number = sym (ap (λ k. k.number) c.take-turn.ensures.pass ∙ c.requires.number) in (
      opened log,
      own.0,
      ap (λ k. k.turn) c.take-turn.ensures.pass,
      subst (λ n. Adds n log own.0 (log_of c.turn-look.new.self)) number
          (subst (λ l. Adds c.args.slot l own.0 (log_of c.turn-look.new.self)) (ap log_of c.deref_mut.ensures.value) own.1),
    )

pub returns-clause-own : goal.returns-clause-own
returns-clause-own g c =
    let log = log_of c.take-turn.result.value.shared.value in
    let own = c.turn-look.ensures.own in
    let number = sym (ap (λ k. k.number) c.take-turn.ensures.pass ∙ c.requires.number) in (
      own.0,
      own.2,
      c.give.ensures.own (opened log) own.0 (ap (λ k. k.turn) c.take-turn.ensures.pass)
          (subst (λ n. Adds n log own.0 (log_of c.turn-look.new.self)) number
          (subst (λ l. Adds c.args.slot l own.0 (log_of c.turn-look.new.self)) (ap log_of c.deref_mut.ensures.value) own.1))
          ∙ ap (λ k. k.own ++ own.0) c.take-turn.ensures.pass,
    )
