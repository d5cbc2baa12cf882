use Rattle.std.proofs.Common.{◌≡◌, drop, map}
use Rattle.std.specs.List.{position_from}
use Rattle.code_runs.specs.CodeMoves.{is_free}
use Rattle.code_image.specs.declared.image.CodeImage.{CodeImage}
use Rattle.code_machine.specs.Seen.{slot_of}
use Rattle.code_machine.proofs.thread_stops.free_slot.Given as goal

abbrev pub invariant-loop-place : goal.invariant-loop-place
invariant-loop-place l =
    (image : CodeImage) → position_from is_free 0 (map (slot_of image) l.slots) ≡ position_from is_free l.place (drop l.place (map (slot_of image) l.slots))
