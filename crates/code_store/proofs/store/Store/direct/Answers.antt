use Rattle.std.proofs.Common.{◌≡◌, ◌+◌, [], ◌++◌, take, sym, ap, subst, ◌∙◌, arith}
use Rattle.std.proofs.lemmas.List.{take_all}
use Rattle.code_store.specs.Uses.{used_ids, ids_used_if, ids_used_by}
use Rattle.code_store.proofs.UsedIds.{GrownBy, IsSetOf, grown_by_none, set_of_both, ids_used_by_more, ids_if_of, ids_if_other}
use Rattle.code_store.proofs.store.Store.direct.Goals as goal
use Rattle.code_store.proofs.store.Store.direct.Goals.{then-index, else-index}

pub loop-body-preserved : goal.loop-body-preserved
loop-body-preserved c =
    let bodies = c.deref-body-items.result.now in
    let i = c.loop-body.body-index in
    let body = c.body-item.result in
    let name = c.args.name in
    let mid = c.loop-body.uses in
    let new = c.if-index.uses in
    let before = ids_used_by name (take i bodies) in
    let function : c.index.result ≡ body.function = c.index.ensures.value in
    let wanted : c.index-in-loop-body.result ≡ name = c.index-in-loop-body.ensures.value in
    let ids = ids_used_by_more name bodies i body (omega arith) c.body-item.is in
    elim c.if-index.branch [
      | then-index w ↦
          let points = w.deref.result.now in
          let own : ids_used_if name body ≡ used_ids points =
          ids_if_of name body (omega arith) ∙ ap used_ids (sym w.deref.ensures.value) in
          let grown : GrownBy mid (used_ids points) new = subst (GrownBy mid (used_ids points)) (sym w.uses-is) w.add_uses.ensures in
          set_of_both mid new before (used_ids points) (ids_used_by name (take (i + 1) bodies))
          (ids ∙ ap (λ own. before ++ own) own) c.loop-body.invariant grown
      | else-index w ↦
          let none : ids_used_if name body ≡ [] = ids_if_other name body (λ same. w.if-index.false (function ∙ same ∙ sym wanted)) in
          let grown : GrownBy mid [] new = subst (GrownBy mid []) (sym w.uses-is) (grown_by_none mid) in
          set_of_both mid new before [] (ids_used_by name (take (i + 1) bodies)) (ids ∙ ap (λ own. before ++ own) none)
          c.loop-body.invariant grown
    ]

pub returns : goal.returns
returns c =
    let all = take_all c.loop-body.body-index c.deref-body-items.result.now (omega arith) ∙ c.deref-body-items.ensures.value ∙ c.self.view_is in
    subst (λ bodies. IsSetOf (ids_used_by c.args.name bodies) c.loop-body.uses) all c.loop-body.invariant
