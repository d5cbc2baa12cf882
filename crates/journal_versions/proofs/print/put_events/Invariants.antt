use Rattle.std.proofs.Common.{◌≤◌, length}
use Rattle.journal_versions.specs.Journals.{event_lines}
use Rattle.journal_versions.proofs.Pages.{Printed}
use Rattle.journal_versions.proofs.print.put_events.Given as goal

-- the faults haven't fallen, and the lines before those of the rest were appended
abbrev pub invariant-loop-rest : goal.invariant-loop-rest
invariant-loop-rest g l =
    (g.S.Sink.faults l.initial.sink ≤ g.S.Sink.faults l.sink)
    × Printed (g.S.Sink.told l.initial.sink) (g.S.Sink.told l.sink) (event_lines l.events) (event_lines l.rest)

abbrev pub decreases-loop-rest : goal.decreases-loop-rest
decreases-loop-rest g l = length l.rest
