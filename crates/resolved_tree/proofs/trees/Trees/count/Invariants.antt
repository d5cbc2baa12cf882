use Rattle.std.proofs.Common.{◌≡◌, ◌+◌}
use Rattle.c_semantics.specs.Evaluation.{count}
use Rattle.resolved_tree.specs.Nodes.{arguments_at}
use Rattle.resolved_tree.specs.Trees.{table}
use Rattle.resolved_tree.proofs.trees.Trees.count.Given as goal

abbrev pub invariant-loop-next : goal.invariant-loop-next
invariant-loop-next l = l.so_far + count (arguments_at (table l.self) l.rest) ≡ count (arguments_at (table l.self) l.fn.arguments)

abbrev pub decreases-loop-next : goal.decreases-loop-next
decreases-loop-next l = count (arguments_at (table l.self) l.rest)
