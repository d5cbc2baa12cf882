use Rattle.std.proofs.Common.{◌+◌, ◌<◌, true≢false, sym, subst, ◌∙◌, arith}
use Rattle.name_sets.specs.IdSet.{Holds, IsCommon}
use Rattle.name_sets.specs.Search.{IsLesser}
use Rattle.con_freeness.proofs.PlainSearch.{TellsBelow, passed, met}
use Rattle.con_freeness.proofs.plain.least_common.Goals as goal
use Rattle.con_freeness.proofs.plain.least_common.Goals.{in-Some+then-holds+then-holds-2, in-Some+else-holds, else-holds-via-then-holds+else-holds-2, else-holds-via-else-holds, in_default}

pub loop-index-preserved : goal.loop-index-preserved
loop-index-preserved c =
    let names = c.args.names.now in
    let a = c.args.set.now in
    let b = c.args.other.now in
    let i = c.loop-index.index in
    let before = c.loop-index.least in
    elim c.match-new.branch [
      | in-Some+then-holds+then-holds-2 w ↦
          let same = w.in-Some.ensures.1 in
          let first : Holds a i = subst (Holds a) same (w.holds.ensures.answer.0 w.if-holds.true) in
          let second : Holds b i = subst (Holds b) same (w.holds-then-holds.ensures.answer.0 w.if-holds-2.true) in
          let is : IsLesser names before i w.lesser.result = subst (λ id. IsLesser names before id w.lesser.result) same w.lesser.ensures in
          subst (TellsBelow names (IsCommon a b) (i + 1)) (sym w.least-is)
          (met names (IsCommon a b) i w.lesser.result before (first, second) c.loop-index.invariant is)
      | in-Some+else-holds w ↦
          let same = w.in-Some.ensures.1 in
          let absent : IsCommon a b i → ⊥ = λ both.
          elim w.else-holds.branch [
            | else-holds-via-then-holds+else-holds-2 v ↦
                true≢false (sym (v.holds-then-holds.ensures.answer.1 (subst (Holds b) (sym same) both.1)) ∙ v.if-holds-2.false)
            | else-holds-via-else-holds v ↦
                true≢false (sym (w.holds.ensures.answer.1 (subst (Holds a) (sym same) both.0)) ∙ v.if-holds.false)
          ] in
          subst (TellsBelow names (IsCommon a b) (i + 1)) (sym w.least-is)
          (passed names (IsCommon a b) i before absent c.loop-index.invariant)
      | in_default w ↦
          let few = c.len-index-end.ensures.table.few in
          let l : i < 2048 = omega (arith, few, c.len-index-end.ensures.value, c.loop-index-test.true) in
          absurd (w.in_default.ensures l)
    ]
