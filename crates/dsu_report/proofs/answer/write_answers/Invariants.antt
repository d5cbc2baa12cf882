use Rattle.std.proofs.Common.{◌≤◌}
use Rattle.std.specs.Prelude.{map}
use Rattle.std.specs.Io.KnownBytes.{Appends}
use Rattle.source_model.specs.Answers.{answer_seen}
use Rattle.dsu_report.specs.Answers.{line_of_offer}
use Rattle.dsu_report.proofs.Lines.{lines_before}
use Rattle.dsu_report.proofs.answer.write_answers.Given as goal

-- the lines of the offers so far were appended
abbrev pub invariant-loop-at : goal.invariant-loop-at
invariant-loop-at g l =
    record {
      lines : Appends (g.S.Sink.told l.initial.sink) (g.S.Sink.told l.sink)
          (lines_before (line_of_offer (map (answer_seen l.names) l.answers) l.texts) l.at);
      later : g.S.Sink.faults l.initial.sink ≤ g.S.Sink.faults l.sink;
    }
