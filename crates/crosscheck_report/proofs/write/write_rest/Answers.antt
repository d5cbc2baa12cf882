use Rattle.std.proofs.Common.{map}
use Rattle.version_spans.specs.Kept.{span_of}
use Rattle.dsu_journal.proofs.Pieces.{PutAppends-then}
use Rattle.crosscheck_report.specs.CrosscheckLines.{spans_text}
use Rattle.crosscheck_report.proofs.write.write_rest.Goals as goal

pub returns-clause-bytes : goal.returns-clause-bytes
returns-clause-bytes g c =
    PutAppends-then _ _ _ c.write_spans.result c.args.ending.now (spans_text (map span_of c.args.spans.now)) c.in_ok-put.ensures.bytes
    c.write_spans.ensures.bytes
