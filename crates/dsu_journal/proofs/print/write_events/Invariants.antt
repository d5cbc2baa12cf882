use Rattle.std.proofs.Common.{◌≡◌, ◌≤◌, ◌*◌, take}
use Rattle.dsu_journal.specs.Journals.{event_lines}
use Rattle.dsu_journal.proofs.print.write_events.Given as goal

-- the lines of the events so far are at the start of the page, and each has at most six bytes
abbrev pub invariant-loop-event : goal.invariant-loop-event
invariant-loop-event l = (l.at ≤ 6 * l.event-index) × (take l.at l.page ≡ event_lines (take l.event-index l.events))
