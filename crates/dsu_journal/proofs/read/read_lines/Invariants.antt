use Rattle.std.proofs.Common.{◌≡◌, ◌≤◌, ◌+◌, length}
use Rattle.dsu_journal.specs.Journals.{events_from, lines}
use Rattle.dsu_journal.proofs.Found.{found}
use Rattle.dsu_journal.proofs.read.read_lines.Given as goal

-- there are no more lines than bytes, and the events so far come before what the rest is read as
abbrev pub invariant-loop-rest : goal.invariant-loop-rest
invariant-loop-rest l = record {
  counted : l.number + length l.rest ≤ length l.text + 2;
  so_far : events_from 2 (lines l.text) ≡ found l.events.items (events_from l.number (lines l.rest));
}

abbrev pub decreases-loop-rest : goal.decreases-loop-rest
decreases-loop-rest l = length l.rest
