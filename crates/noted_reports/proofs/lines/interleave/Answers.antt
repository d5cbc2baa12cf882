use Rattle.std.proofs.Common.{List, ℕ, ◌++◌, subst, sym}
use Rattle.noted_reports.specs.NotedReports.{WithNotes, rest, run_mark}
use Rattle.noted_reports.proofs.Adding.{noted_more}
use Rattle.noted_reports.proofs.lines.interleave.Goals as goal

pub loop-line-preserved : goal.loop-line-preserved
loop-line-preserved c =
    let at = c.loop-line in
    let line = c.in-Some.ensures in
    let added = c.in_ok-left.ensures in
    record {
      left = λ each. added.left (at.invariant.left each);
      so_far = λ each. noted_more run_mark c.args.report.now at.rest.now c.in-Some.line.now c.in-Some.after.now at.text.items
          c.add_explained.new.text.items (at.invariant.so_far each) line.0 line.1 (added.line (at.invariant.left each));
    }

pub returns : goal.returns
returns c = λ each.
    let at = c.loop-line in
    subst {A = List ℕ} (WithNotes run_mark c.args.report.now) (sym c.in_ok-extend_from_slice.ensures.items)
    (at.invariant.so_far each at.rest.now (rest at.rest.now))
