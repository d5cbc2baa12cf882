-- Chains of edges, one edge more at a time.
use Rattle.std.proofs.Common.{◌≡◌, ◌≢◌, ℕ, ◌+◌, ◌<◌, ◌≤◌, ◌⊎◌, List, [], ◌∷◌, ◌++◌, length, get_or, slice_set, sym, ap, ◌∙◌, inl, inr, arith}
use Rattle.std.proofs.lemmas.List.{length_push, length-set, get_or_push, get_or_append_left, get_or-set_same, get_or-set_other}
use Rattle.std.proofs.lemmas.Bool.{cases_eq, cases_lt}
use Rattle.set_constraints.specs.declared.constraint.Edge.{Edge}
use Rattle.set_constraints.specs.Chains.{source, IsUpTo, SkipsNone, AreLinked}

-- the next edge goes before the others of its node
pub linked_more : (edges : List Edge) (last previous : List ℕ) (count from : ℕ)
    → AreLinked edges last previous count → source edges count ≡ from → from < length last
    → AreLinked edges (slice_set last from (count + 1)) (previous ++ get_or last from 0 ∷ []) (count + 1)
linked_more edges last previous count from linked is within = record {
  many = omega (arith, linked.many, length_push previous (get_or last from 0));
  last_own = λ n inside. last_own n (omega (arith, inside, length-set last from (count + 1))) (cases_eq n from);
  last_skips = λ n inside. last_skips n (omega (arith, inside, length-set last from (count + 1))) (cases_eq n from);
  previous_own = λ k below. previous_own k (cases_lt k count) below;
  previous_skips = λ k below. previous_skips k (cases_lt k count) below;
}
  where
    new : List ℕ
    new = slice_set last from (count + 1)

    added : List ℕ
    added = previous ++ get_or last from 0 ∷ []

    newest : (n : ℕ) → n ≡ from → get_or new n 0 ≡ count + 1
    newest n here = ap (λ m. get_or new m 0) here ∙ get_or-set_same last from (count + 1) 0 within

    others : (n : ℕ) → n ≢ from → get_or new n 0 ≡ get_or last n 0
    others n apart = get_or-set_other last from n (count + 1) 0 apart

    last_own : (n : ℕ) → n < length last → (n ≡ from) ⊎ (n ≡ from → ⊥) → IsUpTo edges n (count + 1) (get_or new n 0)
    last_own n inside (inl here) = λ k place.
        let same : k ≡ count = omega (arith, place, newest n here) in
        (omega arith, ap (source edges) same ∙ is ∙ sym here)
    last_own n inside (inr apart) = λ k place.
        let h = linked.last_own n inside k (sym (others n apart) ∙ place) in
        (omega (arith, h.0), h.1)

    last_skips : (n : ℕ) → n < length last → (n ≡ from) ⊎ (n ≡ from → ⊥) → SkipsNone edges n (count + 1) (get_or new n 0)
    last_skips n inside (inl here) = λ k from_here below. absurd (omega (arith, newest n here, from_here))
    last_skips n inside (inr apart) = λ k from_here below leaves. by k (omega (arith, others n apart, from_here)) leaves (cases_lt k count) below
      where
        by : (k : ℕ) → get_or last n 0 ≤ k → source edges k ≡ n → (k < count) ⊎ (count ≤ k) → k < count + 1 → ⊥
        by k from_here leaves (inl earlier) below = linked.last_skips n inside k from_here earlier leaves
        by k from_here leaves (inr late) below =
            let same : k ≡ count = omega arith in
            apart (sym leaves ∙ ap (source edges) same ∙ is)

    older : (k : ℕ) → k < count → get_or added k 0 ≡ get_or previous k 0
    older k below = get_or_append_left previous (get_or last from 0 ∷ []) 0 k (omega (arith, linked.many))

    youngest : (k : ℕ) → k ≡ count → get_or added k 0 ≡ get_or last from 0
    youngest k same = get_or_push previous (get_or last from 0) 0 k (linked.many ∙ sym same)

    previous_own : (k : ℕ) → (k < count) ⊎ (count ≤ k) → k < count + 1 → IsUpTo edges (source edges k) k (get_or added k 0)
    previous_own k (inl earlier) below = λ j place. linked.previous_own k earlier j (sym (older k earlier) ∙ place)
    previous_own k (inr late) below = λ j place.
        let same : k ≡ count = omega arith in
        let h = linked.last_own from within j (sym (youngest k same) ∙ place) in
        (omega (arith, h.0, same), h.1 ∙ sym is ∙ sym (ap (source edges) same))

    previous_skips : (k : ℕ) → (k < count) ⊎ (count ≤ k) → k < count + 1 → SkipsNone edges (source edges k) k (get_or added k 0)
    previous_skips k (inl earlier) below = λ j from_here under. linked.previous_skips k earlier j (omega (arith, older k earlier, from_here)) under
    previous_skips k (inr late) below = λ j from_here under leaves.
        let same : k ≡ count = omega arith in
        linked.last_skips from within j (omega (arith, youngest k same, from_here)) (omega (arith, under, same)) (leaves ∙ ap (source edges) same ∙ is)
