use Rattle.std.proofs.Common.{◌≡◌, ◌≤◌, ◌++◌, drop, length, reverse}
use Rattle.bytecode_gen.proofs.tail.precede.Given as goal

abbrev pub invariant-loop-left : goal.invariant-loop-left
invariant-loop-left l = record {
  within : l.left ≤ length l.made;
  put : reverse l.tail.items ≡ drop l.left l.made ++ reverse l.initial.tail.items;
}

abbrev pub decreases-loop-left : goal.decreases-loop-left
decreases-loop-left l = l.left
