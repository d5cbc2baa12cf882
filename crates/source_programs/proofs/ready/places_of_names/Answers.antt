use Rattle.std.proofs.Common.{bytes_eq, arith}
use Rattle.resolved_tree.specs.Nodes.{word}
use Rattle.resolved_tree.specs.Trees.{table}
use Rattle.source_programs.proofs.Placed.{placed_all}
use Rattle.source_programs.proofs.ready.places_of_names.Goals as goal

pub returns : goal.returns
returns c =
    let t = table c.args.trees.now in
    placed_all (λ name d. bytes_eq name (word t d.name)) c.loop-left.places c.loop-left.left c.args.definitions.now (omega (arith, c.loop-left-test.false)) c.loop-left.invariant.placed
