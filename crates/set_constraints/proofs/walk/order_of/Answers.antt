use Rattle.std.proofs.Common.{length, ◌∙◌, arith}
use Rattle.set_constraints.proofs.WaitLemmas.{listed_upto, order_at_last}
use Rattle.set_constraints.proofs.walk.order_of.Goals as goal

pub loop-node-preserved : goal.loop-node-preserved
loop-node-preserved c =
    let adds = c.in_ok-add-2.ensures in
    record {
      many = adds.same ∙ c.loop-node.invariant.many;
      listed = listed_upto c.loop-node.all.nodes.items c.add-in-loop-node.new.self.nodes.items c.loop-node.node c.loop-node.invariant.listed adds.kept
          (adds.there (omega (arith, c.loop-node.invariant.many)));
    }

pub returns : goal.returns
returns c =
    order_at_last (length c.args.links.now.last.items) c.loop-node.all.nodes.items c.loop-node.all.is_in.items
    (c.loop-node.invariant.many ∙ c.nodes-count.ensures) c.loop-node.all.known
    (λ n below. c.loop-node.invariant.listed n (omega (arith, c.nodes-count.ensures)))
