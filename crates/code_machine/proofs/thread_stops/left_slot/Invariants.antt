use Rattle.std.proofs.Common.{◌≡◌, drop, map}
use Rattle.code_runs.specs.CodeMoves.{left_from}
use Rattle.code_image.specs.declared.image.CodeImage.{CodeImage}
use Rattle.code_machine.specs.Seen.{slot_of}
use Rattle.code_machine.proofs.thread_stops.left_slot.Given as goal

abbrev pub invariant-loop-place : goal.invariant-loop-place
invariant-loop-place l =
    (image : CodeImage) → left_from l.word 0 (map (slot_of image) l.slots) ≡ left_from l.word l.place (drop l.place (map (slot_of image) l.slots))
