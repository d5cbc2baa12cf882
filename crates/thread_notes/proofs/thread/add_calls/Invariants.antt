use Rattle.fault_notes.specs.Notes.{AreNotes}
use Rattle.thread_notes.proofs.thread.add_calls.Given as goal

-- what was notes still is
abbrev pub invariant-loop-call : goal.invariant-loop-call
invariant-loop-call l = AreNotes l.mark l.initial.text.items → AreNotes l.mark l.text.items
