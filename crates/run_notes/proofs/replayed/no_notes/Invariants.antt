use Rattle.std.proofs.Common.{All}
use Rattle.fault_notes.specs.Notes.{AreNotes}
use Rattle.run_notes.proofs.replayed.no_notes.Given as goal

-- each so far is notes
abbrev pub invariant-loop : goal.invariant-loop
invariant-loop l = All (λ notes. AreNotes l.mark notes.items) l.all.items
