use Rattle.std.proofs.Common.{◌≡◌, ◌+◌, drop}
use Rattle.std.specs.List.{position_or_len}
use Rattle.source_runner.specs.Joins.{is_free_slot}
use Rattle.source_runner.proofs.thread_stops.free_slot.Given as goal

abbrev pub invariant-loop-place : goal.invariant-loop-place
invariant-loop-place l =
    l.place + position_or_len is_free_slot (drop l.place l.slots) ≡ position_or_len is_free_slot l.slots
