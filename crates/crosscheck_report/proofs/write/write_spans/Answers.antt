use Rattle.std.proofs.Common.{rules}
use Rattle.version_spans.specs.Kept.{span_of}
use Rattle.crosscheck_report.specs.CrosscheckLines.{span_line}
use Rattle.dsu_journal.proofs.Pieces.{Appends-nothing}
use Rattle.effects_report.proofs.Putting.{mapped_all, read_front, read_more}
use Rattle.crosscheck_report.proofs.write.write_spans.Goals as goal

pub returns-in-Err-clause-bytes : goal.returns-in-Err-clause-bytes
returns-in-Err-clause-bytes g c =
    read_front span_line span_of _ _ _ c.args.spans.now c.loop-span.span-index _ c.loop-span-test.true c.loop-span.invariant.1 c.in-Err.ensures.bytes

pub loop-span-init : goal.loop-span-init
loop-span-init g c = (search rules, Appends-nothing _)

pub loop-span-preserved : goal.loop-span-preserved
loop-span-preserved g c = (
  search rules,
  read_more span_line span_of _ _ _ c.args.spans.now c.loop-span.span-index _ c.loop-span-test.true c.loop-span.invariant.1 c.in-Ok.ensures.bytes,
)

pub returns-clause-bytes : goal.returns-clause-bytes
returns-clause-bytes g c =
    mapped_all span_line span_of _ _ c.args.spans.now c.loop-span.span-index c.loop-span-test.false c.loop-span.invariant.1
