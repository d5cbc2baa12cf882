use Rattle.std.proofs.Common.{◌≡◌, ◌-◌, ◌<◌, ◌≤◌, length, drop, true}
use Rattle.journal_versions.specs.Journals.{groups, is_same_move}
use Rattle.journal_versions.proofs.Groups.{repeated}
use Rattle.journal_versions.proofs.print.split_group.Given as goal

-- the events so far are the first one so many times, more than once only if it is a move
abbrev pub invariant-loop-times : goal.invariant-loop-times
invariant-loop-times l = record {
  some : 1 ≤ l.times;
  within : l.times ≤ length l.events;
  so_far : groups l.events ≡ repeated l.times l.first (groups (drop l.times l.events));
  move : 1 < l.times → is_same_move l.first l.first ≡ true;
}

abbrev pub decreases-loop-times : goal.decreases-loop-times
decreases-loop-times l = length l.events - l.times
