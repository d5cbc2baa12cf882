use Rattle.std.proofs.Common.{All}
use Rattle.fault_notes.specs.Notes.{AreNotes}
use Rattle.thread_notes.proofs.ending.waits_notes.Given as goal

-- each so far is notes
abbrev pub invariant-loop-slot : goal.invariant-loop-slot
invariant-loop-slot g l = All (λ notes. AreNotes l.mark notes.items) l.all.items
