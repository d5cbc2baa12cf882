use Rattle.std.proofs.Common.{◌≡◌, ℕ, List, length, replicate, false, true, refl, drop, subst, sym, ap, ◌∙◌, arith}
use Rattle.std.proofs.lemmas.List.{take_at, length-replicate, length-set}
use Rattle.set_constraints.specs.Passing.{PassesOn}
use Rattle.set_constraints.specs.Waiting.{IsOrder}
use Rattle.set_constraints.proofs.SolveLemmas.{under_way_first, under_way_more, least_at_last}
use Rattle.set_constraints.proofs.solution.solve.Goals as goal

pub loop-node-init : goal.loop-node-init
loop-node-init c =
    let nodes : c.len.result ≡ length c.args.seeds.items = omega arith in
    let waits : c.in_ok-queue.queue.waits.items ≡ replicate (length c.args.seeds.items) true = c.in_ok-queue.ensures ∙ ap (λ n. replicate n true) nodes in
    record {
      under_way = rw waits (under_way_first c.args.seeds.items c.args.links.now.edges.items c.requires.fit);
      sets = refl;
      waits = ap length waits ∙ length-replicate (length c.args.seeds.items) true;
    }

pub take-requires : goal.take-requires
take-requires c = subst (λ (n : ℕ). IsOrder n c.args.order.now) (sym c.loop-node.invariant.waits) c.requires.order

pub loop-node-preserved : goal.loop-node-preserved
loop-node-preserved c =
    let old = c.loop-node.sets.items in
    let new = c.pass_on.new.sets in
    let taken = c.take.new.self.waits.items in
    let waits = c.pass_on.new.queue.waits.items in
    let edges = c.args.links.now.edges.items in
    let takes = c.in-Some.ensures.node in
    let many : length new ≡ length old = c.pass_on.auto.sets ∙ ap length c.deref_mut.ensures.value in
    let same = take_at new (drop (length new) old) c.loop-node.sets.len (omega arith) in
    let passes = subst (λ (sets : List ℕ). PassesOn edges c.in-Some.node sets taken new waits) c.deref_mut.ensures.value c.pass_on.ensures.passes in
    record {
      under_way = rw same (under_way_more c.args.seeds.items edges c.in-Some.node old c.loop-node.queue.waits.items taken new waits c.loop-node.invariant.under_way takes passes);
      sets = ap length same ∙ many ∙ c.loop-node.invariant.sets;
      waits = passes.same_nodes ∙ ap length takes.waits ∙ length-set c.loop-node.queue.waits.items c.in-Some.node false ∙ c.loop-node.invariant.waits;
    }

pub returns-clause-least : goal.returns-clause-least
returns-clause-least c = least_at_last c.args.seeds.items c.args.links.now.edges.items c.loop-node.sets.items c.loop-node.queue.waits.items c.loop-node.invariant.under_way c.in_default.ensures.none
