-- Sets of the ids that points and bodies use, point by point and body by body.
use Rattle.std.proofs.Common.{◌≡◌, ℕ, ◌+◌, ◌<◌, ◌↔◌, ◌⊎◌, inl, inr, List, [], ◌∷◌, ◌++◌, true, false, length, take, get_or, sym, ap, subst, ◌∙◌, arith, rules}
use Rattle.std.specs.Prelude.{Contains, ◌==◌, if◌then◌else◌}
use Rattle.std.specs.List.{cons_option}
use Rattle.std.proofs.lemmas.List.{take_more, append-nil}
use Rattle.std.proofs.lemmas.List.Elements.{Contains-push, Contains-push_cases, Contains-append_left, Contains-append_right, Contains-append_cases, filter_map-append}
use Rattle.std.proofs.lemmas.List.Concat.{flat_map-append}
use Rattle.std.proofs.lemmas.Bool.Decides.{nat_tests}
use Rattle.name_sets.specs.IdSet.{Holds}
use Rattle.skeletons.specs.declared.point.Point.{Point}
use Rattle.skeletons.specs.Meaning.{used_at}
use Rattle.code_store.specs.declared.body.StoredBody.{StoredBody}
use Rattle.code_store.specs.Uses.{used_ids, ids_used_if, ids_used_by}

-- a set has the ids of a list
abbrev pub IsSetOf : List ℕ → ℕ → Type 0
IsSetOf ids set = (id : ℕ) → Holds set id ↔ Contains ids id

-- a set has grown by the ids of a list
abbrev pub GrownBy : ℕ → List ℕ → ℕ → Type 0
GrownBy old ids new = (id : ℕ) → Holds new id ↔ (Holds old id ⊎ Contains ids id)

no_ids : (id : ℕ) → Contains [] id → ⊥
no_ids id h = let l : h.0 < 0 = h.1 in omega arith

pub set_of_none : (set : ℕ) → ((id : ℕ) → Holds set id → ⊥) → IsSetOf [] set
set_of_none set none id = (λ h. absurd (none id h), λ h. absurd (no_ids id h))

pub grown_by_none : (set : ℕ) → GrownBy set [] set
grown_by_none set id = (λ h. inl h, λ h. elim h [ inl old ↦ old | inr x ↦ absurd (no_ids id x) ])

pub grown_by_one : (old new name : ℕ) → ((id : ℕ) → Holds new id ↔ (Holds old id ⊎ (id ≡ name))) → GrownBy old (name ∷ []) new
grown_by_one old new name members id = (
  λ h. elim ((members id).0 h) [ inl o ↦ inl o | inr e ↦ inr (subst (λ n. Contains (name ∷ []) n) (sym e) (Contains-push [] name)) ],
  λ h. elim h [ inl o ↦ (members id).1 (inl o) | inr x ↦ (members id).1 (inr (same x)) ],
)
  where
    same : Contains (name ∷ []) id → id ≡ name
    same x = elim (Contains-push_cases [] name id x) [ inl none ↦ absurd (no_ids id none) | inr e ↦ sym e ]

pub grown_by_both : (old mid new : ℕ) (xs ys zs : List ℕ) → zs ≡ xs ++ ys → GrownBy old xs mid → GrownBy mid ys new → GrownBy old zs new
grown_by_both old mid new xs ys zs e a b id = (
  λ h. elim ((b id).0 h) [ inl m ↦ first ((a id).0 m) | inr y ↦ inr (back (Contains-append_right xs ys id y)) ],
  λ h. elim h [ inl o ↦ (b id).1 (inl ((a id).1 (inl o))) | inr z ↦ among (Contains-append_cases xs ys id (subst (λ l. Contains l id) e z)) ],
)
  where
    back : Contains (xs ++ ys) id → Contains zs id
    back h = subst (λ l. Contains l id) (sym e) h

    first : Holds old id ⊎ Contains xs id → Holds old id ⊎ Contains zs id
    first (inl o) = inl o
    first (inr x) = inr (back (Contains-append_left xs ys id x))

    among : Contains xs id ⊎ Contains ys id → Holds new id
    among (inl x) = (b id).1 (inl ((a id).1 (inr x)))
    among (inr y) = (b id).1 (inr y)

pub set_of_both : (mid new : ℕ) (xs ys zs : List ℕ) → zs ≡ xs ++ ys → IsSetOf xs mid → GrownBy mid ys new → IsSetOf zs new
set_of_both mid new xs ys zs e a b id = (
  λ h. elim ((b id).0 h) [ inl m ↦ back (Contains-append_left xs ys id ((a id).0 m)) | inr y ↦ back (Contains-append_right xs ys id y) ],
  λ h. among (Contains-append_cases xs ys id (subst (λ l. Contains l id) e h)),
)
  where
    back : Contains (xs ++ ys) id → Contains zs id
    back h = subst (λ l. Contains l id) (sym e) h

    among : Contains xs id ⊎ Contains ys id → Holds new id
    among (inl x) = (b id).1 (inl ((a id).1 x))
    among (inr y) = (b id).1 (inr y)

-- the ids of one point more, and of one body more
pub used_ids_more : (ps : List Point) (i : ℕ) (p : Point) → i < length ps → p ≡ get_or ps i p
    → used_ids (take (i + 1) ps) ≡ used_ids (take i ps) ++ cons_option (used_at p.kind) []
used_ids_more ps i p l is =
    ap used_ids (take_more ps i p l)
    ∙ filter_map-append (λ p. used_at p.kind) (take i ps) (get_or ps i p ∷ [])
    ∙ ap (λ q. used_ids (take i ps) ++ used_ids (q ∷ [])) (sym is)

pub ids_used_by_more : (function : ℕ) (bs : List StoredBody) (i : ℕ) (b : StoredBody) → i < length bs → b ≡ get_or bs i b
    → ids_used_by function (take (i + 1) bs) ≡ ids_used_by function (take i bs) ++ ids_used_if function b
ids_used_by_more function bs i b l is =
    ap (ids_used_by function) (take_more bs i b l)
    ∙ flat_map-append (ids_used_if function) (take i bs) (get_or bs i b ∷ [])
    ∙ ap (λ ids. ids_used_by function (take i bs) ++ ids) (append-nil (ids_used_if function (get_or bs i b)))
    ∙ ap (λ b. ids_used_by function (take i bs) ++ ids_used_if function b) (sym is)

-- a body of the function gives the ids of its points, and another none
pub ids_if_of : (function : ℕ) (b : StoredBody) → b.function ≡ function → ids_used_if function b ≡ used_ids b.skeleton.points.items
ids_if_of function b e = ap (λ t. if t then used_ids b.skeleton.points.items else []) (same_number b.function function e)
  where
    same_number : (m n : ℕ) → m ≡ n → (m == n) ≡ true
    same_number m n e = search (rules, nat_tests)

pub ids_if_other : (function : ℕ) (b : StoredBody) → (b.function ≡ function → ⊥) → ids_used_if function b ≡ []
ids_if_other function b other = ap (λ t. if t then used_ids b.skeleton.points.items else []) (other_number b.function function other)
  where
    other_number : (m n : ℕ) → (m ≡ n → ⊥) → (m == n) ≡ false
    other_number m n other = search (rules, nat_tests)
