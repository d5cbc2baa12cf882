use Rattle.fault_notes.specs.Notes.{AreNotes}
use Rattle.offer_drafts.proofs.lines.add_lines.Given as goal

-- where there were notes, there are
abbrev pub invariant-loop-line : goal.invariant-loop-line
invariant-loop-line l = AreNotes l.mark l.initial.notes.items → AreNotes l.mark l.notes.items
