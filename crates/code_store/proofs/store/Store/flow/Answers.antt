use Rattle.std.proofs.Common.{◌≡◌, ◌+◌, [], ◌∷◌, ◌++◌, All, map, take, sym, ap, subst, ◌∙◌, arith}
use Rattle.std.proofs.lemmas.List.{map_more, take_all}
use Rattle.std.proofs.lemmas.List.Elements.{All-get_or, All-same}
use Rattle.effect_flow.specs.Flows.{IsFlowOf}
use Rattle.code_store.specs.Stored.{meant_body, IsNamed}
use Rattle.code_store.proofs.FlowCheckIns.{flow_check_ins_more}
use Rattle.code_store.proofs.store.Store.flow.Goals as goal

pub loop-body-preserved : goal.loop-body-preserved
loop-body-preserved c =
    let items = c.deref-body-items.result.now in
    let i = c.loop-body.body-index in
    let body = c.body-item.result in
    record {
      flow = λ names table all.
          let before = map (meant_body names) (take i items) in
          let named : IsNamed names body =
          subst (IsNamed names) (sym c.body-item.is) (All-get_or (IsNamed names) items i body (omega arith) all) in
          let more : map (meant_body names) (take (i + 1) items) ≡ before ++ meant_body names body ∷ [] =
          map_more (meant_body names) items i body (omega arith) ∙ ap (λ b. before ++ meant_body names b ∷ []) (sym c.body-item.is) in
          subst (λ bodies. IsFlowOf names bodies c.add.new.self) (sym more)
          (c.in_ok-add.ensures.body names before body.tokens (c.loop-body.invariant.flow names table all) named);
      check_ins = flow_check_ins_more items i body c.loop-body.flow.points c.add.new.self.points (omega arith) c.body-item.is
          c.in_ok-add.ensures.points c.loop-body.invariant.check_ins;
    }

pub returns-clause-flow : goal.returns-clause-flow
returns-clause-flow c = λ names bodies store.
    let items = c.deref-body-items.result.now in
    let same : items ≡ c.args.self.now = c.deref-body-items.ensures.value ∙ c.self.view_is in
    let named : All (IsNamed names) items = All-same (IsNamed names) items c.args.self.now same store.named in
    let whole : map (meant_body names) (take c.loop-body.body-index items) ≡ bodies =
    ap (map (meant_body names)) (take_all c.loop-body.body-index items (omega arith) ∙ same) ∙ store.meaning in
    subst (λ bodies. IsFlowOf names bodies c.loop-body.flow) whole (c.loop-body.invariant.flow names store.table named)
