use Rattle.std.proofs.Common.{◌≡◌, List, Some, length}
use Rattle.std.specs.Prelude.{slice_get}
use Rattle.c_tree.specs.BareDef.{BareDef}
use Rattle.source_model.specs.Guards.{in_transaction}
use Rattle.source_model.specs.Runs.{SourceMove as Made}
use Rattle.source_model.specs.Worlds.{Limits, World, in_slot}
use Rattle.source_runner.specs.SourceRuns.{world_after}
use Rattle.offer_decision.proofs.Filled.{AreFilled}
use Rattle.plain_engine.specs.declared.seat.Seat.{Seat}
use Rattle.plain_engine.specs.Seen.{IsSeen}
use Rattle.plain_engine.proofs.seen.seats_seen.Given as goal

abbrev pub invariant-loop-slot : goal.invariant-loop-slot
invariant-loop-slot g l =
    (length l.all ≡ 16)
    × AreFilled (λ n seen. (kept : Seat) × (slice_get l.seats n ≡ Some kept) × IsSeen (g.M.Machine.shown l.run).words l.names l.versions kept seen) l.slot l.all
    × ((texts : List (List BareDef)) (limits : Limits) (moves : List Made) (w : World) → (g.M.Machine.shown l.run).is_run texts limits moves
    → world_after texts limits moves ≡ Some w
    → AreFilled (λ n seen. in_transaction (in_slot w n) ≡ seen.in_transaction) l.slot l.all)
