use Rattle.std.proofs.Common.{subst, sym, arith}
use Rattle.threaded_vm.specs.Crews.{AreFresh}
use Rattle.threaded_vm.proofs.Crews.{fresh_ready}
use Rattle.threaded_vm.proofs.workers.run_opened.Goals as goal

pub run_crew-value-requires-clause-passes : goal.run_crew-value-requires-clause-passes
run_crew-value-requires-clause-passes g c κs within =
    let passes = c.in-Ok-lock.passes.items in
    let fresh = fresh_ready c.in-Ok-lock.lock.table _ passes c.in-Ok-lock.ensures.ok.1 in (
      subst (λ l. AreFresh l.table passes) (sym c.new-crew.ensures) fresh.0,
      (let count = fresh.1 in let few = c.if-slots-ge-MOST_PASSES.false in let slots = c.from-2.ensures in omega (arith, count, few, slots)),
    )

pub run_crew-value-requires-clause-loads : goal.run_crew-value-requires-clause-loads
run_crew-value-requires-clause-loads g c κs within =
    let fresh = fresh_ready c.in-Ok-lock.lock.table _ c.in-Ok-lock.passes.items c.in-Ok-lock.ensures.ok.1 in
    (let count = fresh.1 in let loads = c.in-Ok.ensures.loads in let slots = c.from-2.ensures in omega (arith, count, loads, slots))

pub run_crew-value-requires-clause-room : goal.run_crew-value-requires-clause-room
run_crew-value-requires-clause-room g c κs within = λ k d below.
    let worker = c.in-Ok.ensures.workers.1 k d below in
    (worker.0, (let room = worker.1 in let loads = c.in-Ok.ensures.loads in omega (arith, room, loads)))
