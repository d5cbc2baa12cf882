use Rattle.std.proofs.Common.{sym, subst}
use Rattle.run_types.specs.declared.run.Ending.{Ending}
use Rattle.dsu_io.specs.Sinks.{PutAppends}
use Rattle.job_answers.specs.Reports.{ending_text}
use Rattle.reported_runs.proofs.report.write_end.Goals as goal

pub returns-in-Deadlock-clause-bytes : goal.returns-in-Deadlock-clause-bytes
returns-in-Deadlock-clause-bytes g c = λ asks setup x at same.
    subst {A = Ending}
    (λ end. PutAppends (g.S.Sink.told c.args.sink.now) (g.S.Sink.told c.write_deadlock.new.sink) c.write_deadlock.result (ending_text end x.world))
    (sym c.in-Deadlock.is) (c.write_deadlock.ensures.bytes asks setup x at same)
