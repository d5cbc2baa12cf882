use Rattle.std.proofs.Common.{ap}
use Rattle.resolved_tree.specs.declared.node.Node.TheVariants.{Expression as ExpressionIs}
use Rattle.resolved_tree.specs.Nodes.{as_expression}
use Rattle.resolved_tree.specs.Trees.{table}
use Rattle.name_resolution.proofs.Kept.{pushed}
use Rattle.name_resolution.proofs.found.expression.Goals as goal

pub returns-clause-tree : goal.returns-clause-tree
returns-clause-tree c = λ u g.
    ap as_expression
    (pushed (table c.args.trees.now) (table c.push.new.self) u (ExpressionIs c.args.node) c.in_ok-id.id c.requires c.in_ok-id.ensures.tree
    c.in_ok-id.ensures.id g)
