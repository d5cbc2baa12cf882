use Rattle.std.proofs.Common.{◌≡◌, ◌-◌, ◌<◌, suc, length, get_or, map, sym, ◌∙◌, arith}
use Rattle.std.proofs.lemmas.List.{get_or-map, length-map}
use Rattle.resolved_tree.specs.declared.node.NodeId.{NodeId}
use Rattle.resolved_tree.specs.Nodes.{statement_at, statements_at}
use Rattle.resolved_tree.specs.Parts.{a_node}
use Rattle.name_resolution.proofs.Kept.{grows_trans, in_later, both_in, each_in}
use Rattle.name_resolution.proofs.Resolving.{before_more}
use Rattle.name_resolution.proofs.block.linked.Goals as goal

pub statements-requires-in-loop-i : goal.statements-requires-in-loop-i
statements-requires-in-loop-i c =
    let first : NodeId = record { 0 = 0 } in
    let within : c.loop-i.i - 1 < length c.args.ids.now = omega (arith, c.loop-i-test.true, c.loop-i.invariant.short) in
    both_in _ (a_node (get_or c.args.ids.now (c.loop-i.i - 1) first)) (a_node c.loop-i.list)
    (in_later _ _ _ c.loop-i.invariant.grows (each_in _ c.args.ids.now (c.loop-i.i - 1) first c.requires within)) c.loop-i.invariant.within

pub loop-i-preserved : goal.loop-i-preserved
loop-i-preserved c =
    let first : NodeId = record { 0 = 0 } in
    let k = c.loop-i.i - 1 in
    let ids = c.args.ids.now in
    let within : k < length ids = omega (arith, c.loop-i-test.true, c.loop-i.invariant.short) in
    let next : c.loop-i.i ≡ suc k = omega (arith, c.loop-i-test.true) in
    record {
      short = omega (arith, c.loop-i.invariant.short);
      within = c.in_ok-list-2.ensures.within;
      grows = grows_trans _ _ _ c.loop-i.invariant.grows c.statements-in-loop-i.ensures.grows;
      tree = λ u g.
          let s = statement_at u (get_or ids k first) in
          c.in_ok-list-2.ensures.tree u g
          ∙ before_more (map (statement_at u) ids) k c.loop-i.i s (statements_at u c.loop-i.list) next
          (let long = length-map ids (statement_at u) in omega (arith, within, long)) (sym (get_or-map (statement_at u) ids k first s within))
          (c.loop-i.invariant.tree u (grows_trans _ _ u c.statements-in-loop-i.ensures.grows g));
    }

pub returns-in_err-list-clause-grows : goal.returns-in_err-list-clause-grows
returns-in_err-list-clause-grows c = c.in_err-list.ensures.grows

pub returns-in_err-list-2-clause-grows : goal.returns-in_err-list-2-clause-grows
returns-in_err-list-2-clause-grows c = grows_trans _ _ _ c.loop-i.invariant.grows c.in_err-list-2.ensures.grows

pub returns-clause-grows : goal.returns-clause-grows
returns-clause-grows c = c.loop-i.invariant.grows

pub returns-clause-within : goal.returns-clause-within
returns-clause-within c = c.loop-i.invariant.within
