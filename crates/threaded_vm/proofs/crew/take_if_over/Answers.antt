use Rattle.std.proofs.Common.{[], ap}
use Rattle.pass_lock.specs.Passes.{opened}
use Rattle.threaded_vm.specs.Locked.{log_of}
use Rattle.threaded_vm.proofs.Logs.{none_added}
use Rattle.threaded_vm.proofs.crew.take_if_over.Goals as goal

pub give-requires-clause-turn : goal.give-requires-clause-turn
give-requires-clause-turn g c =
    let log = log_of c.take-turn.result.value.shared.value in
    (opened log, [], ap (λ k. k.turn) c.take-turn.ensures.pass, none_added c.take-turn.new.pass.number log)
