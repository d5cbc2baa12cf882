use Rattle.std.proofs.Common.{◌≡◌, ◌+◌, ◌<◌, get_or, sym, subst, length, ◌∙◌, ap, arith}
use Rattle.std.proofs.lemmas.List.{get_or-map, get_or_read, length-set}
use Rattle.set_constraints.specs.declared.constraint.Edge.{Edge}
use Rattle.set_constraints.specs.Chains.{AreLinked, source}
use Rattle.set_constraints.proofs.ChainLemmas.{linked_more}
use Rattle.set_constraints.proofs.links.Links.new.Goals as goal

pub loop-index-preserved : goal.loop-index-preserved
loop-index-preserved c =
    let edges = c.args.edges.items in
    let last = c.loop-index.last.items in
    let edge = c.index.result.now in
    let index = c.loop-index.index in
    let read = c.index-in-loop-index.result.now in
    let inside : index < length edges = omega arith in
    let from : source edges index ≡ edge.from = get_or-map (λ (e : Edge). e.from) edges index edge 0 inside ∙ ap (λ (e : Edge). e.from) (sym c.index.ensures) in
    let ends = subst (λ (e : Edge). e.from < c.args.nodes) (sym c.index.ensures) (c.requires index edge inside).0 in
    let within : edge.from < length last = omega (arith, ends, c.loop-index.invariant.nodes) in
    let old : read ≡ get_or last edge.from 0 = get_or_read last edge.from read within c.index-in-loop-index.ensures 0 in
    record {
      linked = rw (c.in_ok-push.ensures.items, old) (linked_more edges last c.loop-index.previous.items index edge.from c.loop-index.invariant.linked from within);
      nodes = omega (arith, length-set c.loop-index.last.items c.index.result.now.from (c.loop-index.index + 1));
    }

pub invariant_of-result : goal.invariant_of-result
invariant_of-result c = record {
  linked = subst (AreLinked c.args.edges.items c.loop-index.last.items c.loop-index.previous.items) (omega arith) c.loop-index.invariant.linked;
}
