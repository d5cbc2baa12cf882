-- Rows of numbers of functions, by the numbers of their names.
use Rattle.std.proofs.Common.{◌≡◌, ◌≤◌, ◌<◌, ◌+◌, inl, inr, ℕ, zero, suc, List, [], ◌∷◌, length, replicate, set, Option, Some, None, refl, sym, ap, subst, ◌∙◌, arith}
use Rattle.std.specs.Prelude.{slice_get}
use Rattle.std.proofs.lemmas.Bool.{cases_eq}
use Rattle.std.proofs.lemmas.List.{length-map, length-replicate, length-set}
use Rattle.std.proofs.lemmas.Option.{same_Some, slice_get_within}
use Rattle.resolved_tree.specs.Nodes.{word}
use Rattle.code_runs.specs.CodeData.{number_of}
use Rattle.code_image.specs.declared.function.CodeFunction.{CodeFunction}
use Rattle.image_load.specs.declared.names.Run.{Run}
use Rattle.image_load.specs.MadeTexts.{HasBodies, IsBodyAt}
use Rattle.image_load.specs.Numbering.{IsNumber, callees_of, words_of}
use Rattle.image_load.proofs.Lists.{nothing}

-- ---- a place of a list is written

at_same : {X : Type 0} (xs : List X) (i : ℕ) (x : X) → i < length xs → slice_get (set xs i x) i ≡ Some x
at_same [] i x l = absurd (omega (arith, l))
at_same (y ∷ ys) zero x l = refl
at_same (y ∷ ys) (suc i) x l = at_same ys i x (omega (arith, l))

at_other : {X : Type 0} (xs : List X) (i j : ℕ) (x : X) → (j ≡ i → ⊥) → slice_get (set xs i x) j ≡ slice_get xs j
at_other [] i j x apart = refl
at_other (y ∷ ys) zero zero x apart = absurd (apart refl)
at_other (y ∷ ys) zero (suc j) x apart = refl
at_other (y ∷ ys) (suc i) zero x apart = refl
at_other (y ∷ ys) (suc i) (suc j) x apart = at_other ys i j x (λ e. apart (ap suc e))

none_there : (m n k : ℕ) → slice_get (replicate m None) n ≡ Some (Some k) → ⊥
none_there zero n k e = nothing (Some k) e
none_there (suc m) zero k e = nothing k (same_Some None (Some k) e)
none_there (suc m) (suc n) k e = none_there m n k e

-- ---- rows

module _ (r : Run) (functions : List CodeFunction) (first : ℕ) where
  -- no functions yet
  pub no_bodies_yet : (row : List (Option ℕ)) → row ≡ replicate (length r.callees.now) None → HasBodies r functions first first row
  no_bodies_yet row is = record {
    many = ap length is ∙ length-replicate (length r.callees.now) None ∙ sym (length-map r.callees.now (word (words_of r)));
    own = λ n k e. absurd (none_there (length r.callees.now) n k (ap (λ xs. slice_get xs n) (sym is) ∙ e));
    each = λ k f l m. absurd (omega (arith, l, m));
  }

  module _ (place n : ℕ) (row : List (Option ℕ)) (f : CodeFunction) (there : slice_get functions place ≡ Some f) (l : first ≤ place)
      (number : IsNumber (callees_of r) (word (words_of r) f.name) n) (has : HasBodies r functions first place row) where
    within : n < length row
    within = subst (λ m. n < m) (sym has.many) (slice_get_within (callees_of r) n _ number.there)

    later : (m k : ℕ) → IsBodyAt r functions m first place k → IsBodyAt r functions m first (place + 1) k
    later m k b = record {
      from = b.from;
      to = let to = b.to in omega (arith, to);
      function = b.function;
      there = b.there;
      named = b.named;
    }

    -- one more
    pub one_body_more : HasBodies r functions first (place + 1) (set row n (Some place))
    one_body_more = record {
      many = length-set row n (Some place) ∙ has.many;
      own = λ m k e.
          elim (cases_eq m n) [
            | inl same ↦
                let is : place ≡ k =
                same_Some place k (same_Some _ _ (sym (at_same row n (Some place) within) ∙ ap (slice_get (set row n (Some place))) (sym same) ∙ e)) in
                record {
                  from = omega (arith, l, is);
                  to = omega (arith, is);
                  function = f;
                  there = ap (slice_get functions) (sym is) ∙ there;
                  named = ap (slice_get (callees_of r)) same ∙ number.there;
                }
            | inr differs ↦ later m k (has.own m k (sym (at_other row n m (Some place) differs) ∙ e))
          ];
      each = λ k g from to at.
          let own = number_of (callees_of r) (word (words_of r) g.name) in
          let mine : own ≡ n → (j : ℕ) × (slice_get (set row n (Some place)) own ≡ Some (Some j)) =
          λ same. (place, ap (slice_get (set row n (Some place))) same ∙ at_same row n (Some place) within) in
          elim (cases_eq k place) [
            | inl here ↦
                let is : f ≡ g = same_Some f g (sym there ∙ ap (slice_get functions) (sym here) ∙ at) in
                mine (ap (λ (h : CodeFunction). number_of (callees_of r) (word (words_of r) h.name)) (sym is) ∙ sym number.first)
            | inr before ↦
                elim (cases_eq own n) [
                  | inl same ↦ mine same
                  | inr differs ↦
                      let old = has.each k g from (omega (arith, to, before)) at in
                      (old.0, at_other row n own (Some place) differs ∙ old.1)
                ]
          ];
    }
