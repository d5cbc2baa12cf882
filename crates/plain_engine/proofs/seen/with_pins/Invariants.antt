use Rattle.std.proofs.Common.{◌≡◌, Some, length}
use Rattle.std.specs.Prelude.{slice_get}
use Rattle.offer_decision.proofs.Filled.{AreFilled}
use Rattle.plain_engine.specs.declared.seat.Seat.{Seat}
use Rattle.plain_engine.proofs.seen.with_pins.Given as goal

abbrev pub invariant-loop-slot : goal.invariant-loop-slot
invariant-loop-slot l =
    (length l.all ≡ 16)
    × AreFilled (λ n new. (old : Seat) × (slice_get l.seats n ≡ Some old) × (new.kept ≡ old.kept)
    × (new.at_check_in ≡ old.at_check_in) × (slice_get l.pins n ≡ Some new.pinned)) l.slot l.all
