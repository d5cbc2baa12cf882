use Rattle.std.proofs.Common.{sym, arith}
use Rattle.resolved_tree.proofs.Growing.{tree_of_read, no_tree}
use Rattle.resolved_tree.proofs.trees.Trees.node.Goals as goal

pub returns-in-Some : goal.returns-in-Some
returns-in-Some c =
    let h = c.in-Some.ensures.lookup in
    tree_of_read c.args.self.now.words c.args.self.now.entries.items c.deref.result.now c.args.id c.in-Some.entry.now
    c.args.self.now.sound c.deref.ensures.value h.3.0 (h.4 (omega arith) c.in-Some.entry.now)

pub returns-in-None : goal.returns-in-None
returns-in-None c =
    sym (no_tree c.args.self.now.words c.args.self.now.entries.items c.args.id (omega (arith, c.in-None.ensures.lookup)))
