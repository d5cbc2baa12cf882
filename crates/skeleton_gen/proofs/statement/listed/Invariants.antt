use Rattle.std.proofs.Common.{◌≡◌, map}
use Rattle.name_resolution.specs.Found.{before}
use Rattle.resolved_tree.specs.Nodes.{statement_at, statements_at}
use Rattle.resolved_tree.specs.Trees.{table}
use Rattle.skeleton_gen.specs.Weights.{of_statements}
use Rattle.skeleton_gen.proofs.statement.listed.Given as goal

abbrev pub invariant-loop-s : goal.invariant-loop-s
invariant-loop-s l = let t = table l.trees in
    before (map (statement_at t) l.list.items) (statements_at t l.rest) ≡ statements_at t l.fn.ss

abbrev pub decreases-loop-s : goal.decreases-loop-s
decreases-loop-s l = of_statements (statements_at (table l.trees) l.rest)
