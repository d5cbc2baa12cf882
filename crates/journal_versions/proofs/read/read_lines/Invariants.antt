use Rattle.std.proofs.Common.{◌≡◌, ◌≤◌, ◌+◌, length}
use Rattle.journal_versions.specs.Journals.{events_from, events_then, lines, most_events}
use Rattle.journal_versions.proofs.read.read_lines.Given as goal

-- there are no more lines than bytes, and no more events than a journal has; those so far come before what the rest is read as
abbrev pub invariant-loop-rest : goal.invariant-loop-rest
invariant-loop-rest l = record {
  counted : l.number + length l.rest ≤ length l.text + 2;
  few : length l.events.items ≤ most_events;
  so_far : events_from l.form 2 0 (lines l.text) ≡ events_then l.events.items (events_from l.form l.number (length l.events.items) (lines l.rest));
}

abbrev pub decreases-loop-rest : goal.decreases-loop-rest
decreases-loop-rest l = length l.rest
