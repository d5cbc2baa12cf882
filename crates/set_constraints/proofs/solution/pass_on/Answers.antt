use Rattle.std.proofs.Common.{◌≡◌, ℕ, zero, suc, ◌+◌, ◌-◌, ◌<◌, length, get_or, subst, arith}
use Rattle.std.proofs.lemmas.List.{get_or_read}
use Rattle.set_constraints.specs.Chains.{target}
use Rattle.set_constraints.specs.Passing.{Adds}
use Rattle.set_constraints.proofs.PassLemmas.{Passing, passing_more, target_fits}
use Rattle.set_constraints.proofs.solution.pass_on.Goals as goal

pub target-requires : goal.target-requires
target-requires c = (c.loop-place.invariant.passing.own (c.loop-place.place - 1) (omega arith)).0

pub add_to-requires-clause-node : goal.add_to-requires-clause-node
add_to-requires-clause-node c =
    let below = (c.loop-place.invariant.passing.own (c.loop-place.place - 1) (omega arith)).0 in
    let fits = target_fits (length c.args.sets.now) c.args.links.now.edges.items (c.loop-place.place - 1) c.requires.fit below in
    omega (arith, c.target.ensures)

pub previous_of-place-requires : goal.previous_of-place-requires
previous_of-place-requires c = (c.loop-place.invariant.passing.own (c.loop-place.place - 1) (omega arith)).0

pub loop-place-smaller : goal.loop-place-smaller
loop-place-smaller c = before_place c.loop-place.place c.previous_of-place.result (omega arith) (λ k place. (c.previous_of-place.ensures.own k place).0)
  where
    before_place : (place next : ℕ) → 0 < place → ((k : ℕ) → next ≡ k + 1 → k < place - 1) → next < place
    before_place place zero some own = some
    before_place place (suc k) some own = omega (arith, own k (omega arith))

pub loop-place-preserved : goal.loop-place-preserved
loop-place-preserved c =
    let edge = c.loop-place.place - 1 in
    let edges = c.args.links.now.edges.items in
    let node = c.args.node in
    let old = c.args.sets.now in
    let waited = c.args.queue.now.waits.items in
    let mid = c.loop-place.sets in
    let mid_waits = c.loop-place.queue.waits.items in
    let new = c.add_to.new.sets in
    let waits = c.add_to.new.queue.waits.items in
    let from : c.loop-place.place ≡ edge + 1 = omega arith in
    let set : c.index-sets-node.result ≡ get_or old node 0 = get_or_read old node c.index-sets-node.result c.requires.node c.index-sets-node.is 0 in
    let before = subst (λ (place : ℕ). Passing edges node old waited place mid mid_waits) from c.loop-place.invariant.passing in
    let aimed = subst (λ (n : ℕ). Adds c.index-sets-node.result n mid mid_waits new waits) c.target.ensures c.add_to.ensures.adds in
    let adds = subst (λ (s : ℕ). Adds s (target edges edge) mid mid_waits new waits) set aimed in
    record {
      passing = passing_more edges node old waited edge c.previous_of-place.result mid mid_waits new waits before adds c.previous_of-place.ensures.own c.previous_of-place.ensures.skips;
      falls = omega (arith, c.add_to.ensures.falls, c.loop-place.invariant.falls);
    }
