use Rattle.std.proofs.Common.{◌≡◌, ◌==◌, List, Some, length}
use Rattle.std.specs.Prelude.{slice_get}
use Rattle.c_tree.specs.BareDef.{BareDef}
use Rattle.source_model.specs.Runs.{SourceMove as Made}
use Rattle.source_model.specs.Worlds.{Limits, World, in_slot, is_over}
use Rattle.source_runner.specs.SourceRuns.{world_after}
use Rattle.offer_decision.proofs.Filled.{AreFilled}
use Rattle.plain_engine.specs.declared.seat.Seat.{Seat}
use Rattle.plain_engine.specs.Kept.{IsAfter}
use Rattle.plain_engine.proofs.moves.follow_move.Given as goal

abbrev pub invariant-loop-slot : goal.invariant-loop-slot
invariant-loop-slot g l =
    (length l.seats ≡ 16)
    × ((texts : List (List BareDef)) (limits : Limits) (moves : List Made) (w : World) → (g.M.Machine.shown l.run).is_run texts limits moves
    → world_after texts limits moves ≡ Some w
    → AreFilled (λ n new. (old : Seat) × (slice_get l.initial.seats n ≡ Some old)
    × IsAfter (g.M.Machine.shown l.run).words (is_over w) (in_slot w n) (n == l.mover) l.leads old new) l.slot l.seats)
