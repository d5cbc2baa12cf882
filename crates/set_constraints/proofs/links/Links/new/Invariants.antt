use Rattle.std.proofs.Common.{◌≡◌, length}
use Rattle.set_constraints.specs.Chains.{AreLinked}
use Rattle.set_constraints.proofs.links.Links.new.Given as goal

abbrev pub invariant-loop-index : goal.invariant-loop-index
invariant-loop-index l = record {
  linked : AreLinked l.edges.items l.last.items l.previous.items l.index;
  nodes : length l.last.items ≡ l.nodes;
}
