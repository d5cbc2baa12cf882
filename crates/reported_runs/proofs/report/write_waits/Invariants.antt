use Rattle.std.proofs.Common.{◌≤◌}
use Rattle.std.specs.Io.KnownBytes.{Appends}
use Rattle.source_model.specs.Guards.{Guard, Setup}
use Rattle.dsu_report.proofs.Lines.{lines_before}
use Rattle.job_answers.specs.Reports.{wait_in}
use Rattle.reported_runs.proofs.report.write_waits.Given as goal

-- the lines of the slots so far were appended
abbrev pub invariant-loop-slot : goal.invariant-loop-slot
invariant-loop-slot g l =
    record {
      lines : g.T.Engine.asks l.engine → (setup : Setup) (x : Guard) → g.T.Engine.is_at setup x l.engine
          → Appends (g.S.Sink.told l.initial.sink) (g.S.Sink.told l.sink) (lines_before (wait_in x.world) l.slot);
      later : g.S.Sink.faults l.initial.sink ≤ g.S.Sink.faults l.sink;
    }
