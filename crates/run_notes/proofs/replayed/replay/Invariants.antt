use Rattle.std.proofs.Common.{All}
use Rattle.fault_notes.specs.Notes.{AreNotes}
use Rattle.run_notes.proofs.replayed.replay.Given as goal

-- each is notes, where each was before
abbrev pub invariant-loop-event : goal.invariant-loop-event
invariant-loop-event g l =
    All (λ one. AreNotes l.mark one.items) l.initial.notes.items → All (λ one. AreNotes l.mark one.items) l.notes.items
