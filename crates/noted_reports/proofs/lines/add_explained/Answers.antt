use Rattle.std.proofs.Common.{Vec, ℕ, Global}
use Rattle.fault_notes.specs.Notes.{AreNotes}
use Rattle.noted_reports.specs.NotedReports.{run_mark}
use Rattle.noted_reports.proofs.Adding.{first_of_all, line_and_notes, others_of_all}
use Rattle.noted_reports.proofs.lines.add_explained.Goals as goal

pub returns-in_ok-extend_from_slice-in-Some-clause-line : goal.returns-in_ok-extend_from_slice-in-Some-clause-line
returns-in_ok-extend_from_slice-in-Some-clause-line c = λ each.
    let first = c.in-Some.first.now in
    let are = first_of_all (λ (n : Vec ℕ Global). AreNotes run_mark n.items) first c.in-Some.left.now _ c.in-Some.ensures.cases.0 each in
    line_and_notes run_mark c.args.line.now first.items c.deref.result.now _ _ _ are c.in_ok-extend_from_slice.ensures.items
    c.deref.ensures.value c.in_ok-extend_from_slice-in-Some.ensures.items

pub returns-in_ok-extend_from_slice-in-Some-clause-left : goal.returns-in_ok-extend_from_slice-in-Some-clause-left
returns-in_ok-extend_from_slice-in-Some-clause-left c = λ each.
    others_of_all (λ (n : Vec ℕ Global). AreNotes run_mark n.items) c.in-Some.first.now c.in-Some.left.now _ c.in-Some.ensures.cases.0
    each
