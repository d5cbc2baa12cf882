use Rattle.plain_engine.proofs.Threads.{SoFar}
use Rattle.plain_engine.proofs.seats.Seats.of.Given as goal

abbrev pub invariant-loop-slot : goal.invariant-loop-slot
invariant-loop-slot l = SoFar l.seats l.slot l.live
