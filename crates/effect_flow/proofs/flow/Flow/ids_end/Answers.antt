use Rattle.std.proofs.Common.{◌≡◌, ◌∙◌, take, subst, sym, ap, arith}
use Rattle.std.proofs.lemmas.List.{take_all}
use Rattle.std.proofs.lemmas.List.Elements.{All-more, All-same, All-get_or}
use Rattle.effect_flow.specs.Parts.{HasIdsBelow}
use Rattle.effect_flow.proofs.Ids.{ids_below_larger, all_below_larger}
use Rattle.effect_flow.proofs.flow.Flow.ids_end.Goals as goal

pub loop-point-preserved : goal.loop-point-preserved
loop-point-preserved c = record {
  above = let items = c.deref-point-items.result.now in
      let at = c.loop-point.point-index in
      let one : HasIdsBelow c.max-end.result c.point-item.result =
      ids_below_larger c.ids_end.result c.max-end.result c.point-item.result (omega arith) c.ids_end.ensures.above in
      All-more (HasIdsBelow c.max-end.result) items at c.point-item.result (omega arith)
      (all_below_larger c.loop-point.end c.max-end.result (take at items) (omega arith) c.loop-point.invariant.above)
      (subst (HasIdsBelow c.max-end.result) c.point-item.is one);
  least = λ n all.
      let items = c.deref-point-items.result.now in
      let here = All-get_or (HasIdsBelow n) items c.loop-point.point-index c.point-item.result (omega arith) all in
      let one = c.ids_end.ensures.least n (subst (HasIdsBelow n) (sym c.point-item.is) here) in
      let rest = c.loop-point.invariant.least n all in
      omega arith;
  bound = omega arith;
}

pub returns-clause-above : goal.returns-clause-above
returns-clause-above c =
    let items = c.deref-point-items.result.now in
    let fields : c.self.inside.points.items ≡ c.args.self.now.points = ap (λ v. v.points) c.self.view_is in
    All-same (HasIdsBelow c.loop-point.end) c.args.self.now.points (take c.loop-point.point-index items)
    (sym (take_all c.loop-point.point-index items (omega arith) ∙ c.deref-point-items.ensures.value ∙ fields)) c.loop-point.invariant.above
