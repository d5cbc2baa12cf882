-- What inserting a key in a list of keys keeps, where equal keys are the same.
use Rattle.std.proofs.Common.{◌≡◌, ℕ, zero, suc, ◌+◌, ◌≤◌, ◌⊎◌, inl, inr, Bool, true, false, true≢false, ◌||◌, List, [], ◌∷◌, ◌++◌, Some, length, get_or, position, refl, sym, ap, subst, ◌∙◌, arith, if◌then◌else◌}
use Rattle.std.specs.Prelude.{slice_get}
use Rattle.std.specs.List.{list_any}
use Rattle.std.proofs.lemmas.List.{length-append}
use Rattle.std.proofs.lemmas.List.Quantifiers.{position-Some}
use Rattle.std.proofs.lemmas.Option.{same_Some, none-some, slice_get-get_or}
use Rattle.checkin_rows.specs.Rows.{AreDifferent}
use Rattle.checkin_rows.proofs.Lists.{pushed, at_front}

-- equal keys are the same
pub record IsSameness {A : Type 0} (eq : A → A → Bool) : Type 0 where
  pub same : (x y : A) → eq x y ≡ true → x ≡ y
  pub itself : (x : A) → eq x x ≡ true

-- the keys after one is inserted
abbrev pub inserted : {A : Type 0} → (A → A → Bool) → List A → A → List A
inserted eq ks k = if list_any (eq k) ks then ks else ks ++ k ∷ []

pub any_at : {A : Type 0} (test : A → Bool) (ks : List A) (i : ℕ) (x : A) → slice_get ks i ≡ Some x → test x ≡ true → list_any test ks ≡ true
any_at test [] i x at e = absurd (none-some x at)
any_at test (y ∷ ys) zero x at e = ap (λ b. b || list_any test ys) (ap test (same_Some y x at) ∙ e)
any_at test (y ∷ ys) (suc i) x at e = or_true (test y) (list_any test ys) (any_at test ys i x at e)
  where
    or_true : (a b : Bool) → b ≡ true → (a || b) ≡ true
    or_true true b e = refl
    or_true false b e = e

pub inserted_different : {A : Type 0} (eq : A → A → Bool) (ks new : List A) (k : A) → IsSameness eq → new ≡ inserted eq ks k
    → AreDifferent ks → AreDifferent new
inserted_different {A} eq ks new k s is different = subst (λ ks. AreDifferent ks) (sym is) (by (list_any (eq k) ks) refl)
  where
    new_key : list_any (eq k) ks ≡ false → (i : ℕ) → slice_get ks i ≡ Some k → ⊥
    new_key absent i at = true≢false (sym (any_at (eq k) ks i k at (s.itself k)) ∙ absent)

    by : (b : Bool) → list_any (eq k) ks ≡ b → AreDifferent (if b then ks else ks ++ k ∷ [])
    by true e = different
    by false e = λ i j x at_i at_j. cases i j x (pushed ks k x i at_i) (pushed ks k x j at_j)
      where
        cases : (i j : ℕ) (x : A) → (slice_get ks i ≡ Some x) ⊎ ((i ≡ length ks) × (k ≡ x)) → (slice_get ks j ≡ Some x) ⊎ ((j ≡ length ks) × (k ≡ x)) → i ≡ j
        cases i j x (inl a) (inl b) = different i j x a b
        cases i j x (inl a) (inr b) = absurd (new_key e i (a ∙ ap Some (sym b.1)))
        cases i j x (inr a) (inl b) = absurd (new_key e j (b ∙ ap Some (sym a.1)))
        cases i j x (inr a) (inr b) = a.0 ∙ sym b.0

pub inserted_stay : {A : Type 0} (eq : A → A → Bool) (ks new : List A) (k : A) → new ≡ inserted eq ks k
    → (i : ℕ) (x : A) → slice_get ks i ≡ Some x → slice_get new i ≡ Some x
inserted_stay eq ks new k is i x at = ap (λ ks. slice_get ks i) is ∙ by (list_any (eq k) ks)
  where
    by : (b : Bool) → slice_get (if b then ks else ks ++ k ∷ []) i ≡ Some x
    by true = at
    by false = at_front ks (k ∷ []) i x at

pub inserted_few : {A : Type 0} (eq : A → A → Bool) (ks new : List A) (k : A) → new ≡ inserted eq ks k → length new ≤ length ks + 1
inserted_few eq ks new k is = subst (λ ks2. length ks2 ≤ length ks + 1) (sym is) (by (list_any (eq k) ks))
  where
    by : (b : Bool) → length (if b then ks else ks ++ k ∷ []) ≤ length ks + 1
    by true = omega arith
    by false = omega (arith, length-append ks (k ∷ []))

-- the place that a look-up finds has the key
pub at_position : {A : Type 0} (eq : A → A → Bool) (ks : List A) (k : A) (i : ℕ) → IsSameness eq → position (eq k) ks ≡ Some i → slice_get ks i ≡ Some k
at_position eq ks k i s e =
    let p = position-Some (eq k) ks i k e in
    slice_get-get_or ks i k p.0 ∙ ap Some (sym (s.same k (get_or ks i k) p.1))

-- a key that it doesn't find is at no place
pub at_no_place : {A : Type 0} (eq : A → A → Bool) (ks : List A) (k : A) → IsSameness eq → list_any (eq k) ks ≡ false → (i : ℕ) → slice_get ks i ≡ Some k → ⊥
at_no_place eq ks k s absent i at = true≢false (sym (any_at (eq k) ks i k at (s.itself k)) ∙ absent)
