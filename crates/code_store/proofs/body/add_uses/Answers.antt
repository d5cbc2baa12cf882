use Rattle.std.proofs.Common.{◌+◌, [], ◌∷◌, ◌++◌, take, sym, ap, subst, ◌∙◌, arith}
use Rattle.std.specs.List.{cons_option}
use Rattle.std.proofs.lemmas.List.{take_all}
use Rattle.code_store.specs.Uses.{used_ids}
use Rattle.code_store.proofs.UsedIds.{GrownBy, grown_by_none, grown_by_one, grown_by_both, used_ids_more}
use Rattle.code_store.proofs.body.add_uses.Goals as goal
use Rattle.code_store.proofs.body.add_uses.Goals.{in-Some, in_default}

pub loop-point-preserved : goal.loop-point-preserved
loop-point-preserved c =
    let ps = c.args.points.now in
    let i = c.loop-point.point-index in
    let old = c.args.set.now in
    let mid = c.loop-point.set in
    let before = used_ids (take i ps) in
    let ids = used_ids_more ps i c.point-item.result (omega arith) c.point-item.is in
    elim c.match-used.branch [
      | in-Some w ↦
          let name = w.in-Some.name in
          let one : GrownBy mid (name ∷ []) c.match-used.set =
          subst (GrownBy mid (name ∷ [])) (sym w.set-is) (grown_by_one mid w.add.new.self name w.add.ensures.members) in
          grown_by_both old mid c.match-used.set before (name ∷ []) (used_ids (take (i + 1) ps))
          (ids ∙ ap (λ o. before ++ cons_option o []) (sym w.in-Some.ensures.kind)) c.loop-point.invariant one
      | in_default w ↦
          let none : GrownBy mid [] c.match-used.set = subst (GrownBy mid []) (sym w.set-is) (grown_by_none mid) in
          grown_by_both old mid c.match-used.set before [] (used_ids (take (i + 1) ps))
          (ids ∙ ap (λ o. before ++ cons_option o []) (sym w.in_default.ensures.kind)) c.loop-point.invariant none
    ]

pub returns : goal.returns
returns c =
    let ps = c.args.points.now in
    subst (λ points. GrownBy c.args.set.now (used_ids points) c.loop-point.set) (take_all c.loop-point.point-index ps (omega arith))
    c.loop-point.invariant
