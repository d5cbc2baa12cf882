-- A row of places, changed in one place.
use Rattle.std.proofs.Common.{◌≡◌, ◌≢◌, ◌⊎◌, inl, inr, ℕ, zero, suc, ◌<◌, nat_eq, Bool, true, false, ◌&&◌, List, [], ◌∷◌, length, slice_get, slice_set, Option, Some, None, unwrap_or, if◌then◌else◌, refl, sym, ap, ◌∙◌, subst, arith, eqb-true, eq-eqb, true≢false}
use Rattle.verified_code.specs.Places.{place_at, place_in}

truth : (b : Bool) → (b ≡ true) ⊎ (b ≡ false)
truth true = inl refl
truth false = inr refl

get_set_same : {X : Type 0} (xs : List X) (i : ℕ) (y : X) → i < length xs → slice_get (slice_set xs i y) i ≡ Some y
get_set_same [] i y h = absurd (omega (arith, h))
get_set_same (x ∷ xs) zero y h = refl
get_set_same (x ∷ xs) (suc i) y h = get_set_same xs i y (omega (arith, h))

get_set_other : {X : Type 0} (xs : List X) (i j : ℕ) (y : X) → j ≢ i → slice_get (slice_set xs i y) j ≡ slice_get xs j
get_set_other [] i j y h = refl
get_set_other (x ∷ xs) zero zero y h = absurd (h refl)
get_set_other (x ∷ xs) zero (suc j) y h = refl
get_set_other (x ∷ xs) (suc i) zero y h = refl
get_set_other (x ∷ xs) (suc i) (suc j) y h = get_set_other xs i j y (λ e. h (ap suc e))

-- where one function's row gets a place for a generation
pub put_row : (rows : List (List (Option ℕ))) (i generation place : ℕ) (row new : List (Option ℕ)) → i < length rows → slice_get rows i ≡ Some row
    → ((g : ℕ) → place_at new g ≡ (if nat_eq g generation then Some place else place_at row g))
    → (f g : ℕ) → place_in (slice_set rows i new) f g ≡ (if nat_eq f i && nat_eq g generation then Some place else place_in rows f g)
put_row rows i generation place row new h there put f g =
    elim (truth (nat_eq f i)) [
      | inl t ↦
          let same : f ≡ i = eqb-true f i t in
          ap (λ x. place_in (slice_set rows i new) x g) same
          ∙ ap (λ o. place_at (unwrap_or o []) g) (get_set_same rows i new h)
          ∙ put g
          ∙ ap (λ o. if nat_eq g generation then Some place else place_at (unwrap_or o []) g) (sym there)
          ∙ ap (λ x. if nat_eq g generation then Some place else place_in rows x g) (sym same)
          ∙ ap (λ b. if b && nat_eq g generation then Some place else place_in rows f g) (sym t)
      | inr t ↦
          let away : f ≢ i = λ e. true≢false (sym (eq-eqb f i e) ∙ t) in
          ap (λ o. place_at (unwrap_or o []) g) (get_set_other rows i f new away)
          ∙ ap (λ b. if b && nat_eq g generation then Some place else place_in rows f g) (sym t)
    ]
