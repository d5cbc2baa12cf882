use Rattle.std.proofs.Common.{◌-◌, ◌+◌, ◌≤◌, length}
use Rattle.dsu_io.proofs.std_files.read_up_to.Given as goal

-- never more than one byte past the limit is read
abbrev pub invariant-loop-piece : goal.invariant-loop-piece
invariant-loop-piece g l = length l.into.items ≤ l.limit + 1

-- what may still be read
abbrev pub decreases-loop-piece : goal.decreases-loop-piece
decreases-loop-piece g l = l.limit + 1 - length l.into.items
