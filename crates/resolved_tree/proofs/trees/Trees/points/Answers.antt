use Rattle.std.proofs.Common.{sym, ap, arith}
use Rattle.resolved_tree.specs.Nodes.{points_of}
use Rattle.resolved_tree.proofs.Growing.{no_tree}
use Rattle.resolved_tree.proofs.trees.Trees.points.Goals as goal

pub returns-in-None : goal.returns-in-None
returns-in-None c =
    sym (ap points_of (no_tree c.args.self.now.words c.args.self.now.entries.items c.args.id (omega (arith, c.in-None.ensures.lookup))))
