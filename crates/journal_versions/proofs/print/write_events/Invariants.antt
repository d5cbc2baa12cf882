use Rattle.std.proofs.Common.{◌≡◌, ◌<◌, ◌≤◌, ◌++◌, length, take}
use Rattle.journal_versions.specs.Journals.{event_lines}
use Rattle.journal_versions.proofs.print.write_events.Given as goal

-- the lines before those of the rest are at the start of the page; once there are some, fewer events are left
abbrev pub invariant-loop-rest : goal.invariant-loop-rest
invariant-loop-rest l = record {
  within : l.at ≤ length l.page;
  lines : event_lines l.events ≡ take l.at l.page ++ event_lines l.rest;
  left : length l.rest ≤ length l.events;
  fewer : 0 < l.at → length l.rest < length l.events;
}

abbrev pub decreases-loop-rest : goal.decreases-loop-rest
decreases-loop-rest l = length l.rest
