use Rattle.std.proofs.Common.{ap}
use Rattle.resolved_tree.specs.declared.node.Node.TheVariants.{Statement as StatementIs}
use Rattle.resolved_tree.specs.Nodes.{as_statement}
use Rattle.resolved_tree.specs.Trees.{table}
use Rattle.name_resolution.proofs.Kept.{pushed}
use Rattle.name_resolution.proofs.block.statement.Goals as goal

pub returns-clause-tree : goal.returns-clause-tree
returns-clause-tree c = λ u g.
    ap as_statement
    (pushed (table c.args.trees.now) (table c.push.new.self) u (StatementIs c.args.node) c.in_ok-id.id c.requires c.in_ok-id.ensures.tree
    c.in_ok-id.ensures.id g)
