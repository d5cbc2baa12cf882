use Rattle.noted_reports.specs.NotedReports.{rest}
use Rattle.top_call.proofs.notes.with_run_notes.Goals as goal

pub returns-in-None : goal.returns-in-None
returns-in-None g c = rest c.args.report.items
