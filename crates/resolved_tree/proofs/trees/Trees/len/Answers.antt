use Rattle.std.proofs.Common.{[], arith}
use Rattle.resolved_tree.proofs.Growing.{grown_count}
use Rattle.resolved_tree.proofs.trees.Trees.len.Goals as goal

pub returns : goal.returns
returns c =
    omega (arith, grown_count c.args.self.now.words [] c.args.self.now.entries.items)
