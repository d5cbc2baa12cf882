use Rattle.noted_reports.specs.NotedReports.{rest}
use Rattle.top_call.proofs.notes.with_notes_between.Goals as goal

pub returns-in-Err : goal.returns-in-Err
returns-in-Err c = rest c.args.report.items
