use Rattle.std.proofs.Common.{rules}
use Rattle.std.proofs.lemmas.Result.{err_from_is_err_and}
use Rattle.journal_versions.specs.Journals.{event_lines}
use Rattle.journal_versions.proofs.Pages.{page_front, page_printed}
use Rattle.journal_versions.proofs.print.put_events.Goals as goal

pub returns-in_err-put-clause-bytes : goal.returns-in_err-put-clause-bytes
returns-in_err-put-clause-bytes g c =
    let p = err_from_is_err_and c.from_residual.result c.from_residual.ensures.1 in
    rw p.1 (page_front _ _ _ (event_lines c.args.events.now) (event_lines c.loop-rest.rest.now) _ (event_lines c.write_events-len.result.1.now)
    c.loop-rest.invariant.1 c.write_events-len.ensures.lines c.in_err-put.ensures.bytes)

pub loop-rest-preserved : goal.loop-rest-preserved
loop-rest-preserved g c = (
  search rules,
  page_printed _ _ _ (event_lines c.args.events.now) (event_lines c.loop-rest.rest.now) _ (event_lines c.write_events-len.result.1.now)
      c.loop-rest.invariant.1 c.write_events-len.ensures.lines c.in_ok-put.ensures.bytes,
)
