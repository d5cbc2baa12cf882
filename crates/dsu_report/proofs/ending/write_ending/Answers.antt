use Rattle.std.proofs.Common.{subst, sym}
use Rattle.run_types.specs.declared.run.Ending.{Ending}
use Rattle.dsu_io.specs.Sinks.{PutAppends}
use Rattle.dsu_report.specs.Endings.{report_text}
use Rattle.dsu_report.proofs.ending.write_ending.Goals as goal

pub returns-in-Deadlock-clause-bytes : goal.returns-in-Deadlock-clause-bytes
returns-in-Deadlock-clause-bytes g c =
    subst
    (λ (e : Ending). PutAppends (g.S.Sink.told c.args.sink.now) (g.S.Sink.told c.put.new.sink) c.put.result (report_text e))
    (sym c.in-Deadlock.is) c.put.ensures.bytes
