use Rattle.std.proofs.Common.{ℕ, List, ◌++◌, length}
use Rattle.std.specs.Prelude.{All}
use Rattle.fault_notes.specs.Notes.{AreNotes}
use Rattle.noted_reports.specs.NotedReports.{WithNotes, run_mark}
use Rattle.noted_reports.proofs.lines.interleave.Given as goal

-- what is left are notes, and whatever text has notes in the rest, the text so far before it has notes in the report
abbrev pub invariant-loop-line : goal.invariant-loop-line
invariant-loop-line l = record {
  left : All (λ n. AreNotes run_mark n.items) l.fn.notes → All (λ n. AreNotes run_mark n.items) l.left;
  so_far : All (λ n. AreNotes run_mark n.items) l.fn.notes → (more : List ℕ) → WithNotes run_mark l.rest more
      → WithNotes run_mark l.fn.report (l.text.items ++ more);
}

abbrev pub decreases-loop-line : goal.decreases-loop-line
decreases-loop-line l = length l.rest
