use Rattle.fault_notes.specs.Notes.{AreNotes}
use Rattle.thread_notes.proofs.ending.live_notes.Given as goal

-- what there is so far is notes
abbrev pub invariant-loop-slot : goal.invariant-loop-slot
invariant-loop-slot g l = AreNotes l.mark l.notes.items
