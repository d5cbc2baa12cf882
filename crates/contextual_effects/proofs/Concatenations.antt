-- What is in a list that is made part by part, from the items of another list and their places.
use Rattle.std.proofs.Common.{◌≡◌, ℕ, zero, suc, ◌+◌, ◌<◌, List, [], ◌∷◌, ◌++◌, Some, Contains, length, take, inl, inr, refl, subst, ap, sym, ◌∙◌, arith}
use Rattle.std.specs.Prelude.{slice_get}
use Rattle.std.proofs.lemmas.List.{append_assoc, append-nil}
use Rattle.contextual_effects.specs.Parts.{parts}
use Rattle.std.proofs.lemmas.List.Elements.{Contains-append_left, Contains-append_right, Contains-append_cases}

-- an item, its place, and what is made of it
pub record OfItem {X A : Type 0} (make : ℕ → X → List A) (first : ℕ) (xs : List X) (a : A) : Type 0 where
  pub place : ℕ
  pub item : X
  pub at : slice_get xs place ≡ Some item
  pub contains : Contains (make (first + place) item) a

nothing : {A : Type 0} (a : A) → Contains [] a → ⊥
nothing a c = by c.0 c.1
  where
    by : (k : ℕ) → k < 0 → ⊥
    by k l = omega arith

-- what is in the parts is made of some item
pub contained_in_parts : {X A : Type 0} (make : ℕ → X → List A) (first : ℕ) (xs : List X) (a : A)
    → Contains (parts make first xs) a → OfItem make first xs a
contained_in_parts make first [] a c = absurd (nothing a c)
contained_in_parts make first (x ∷ xs) a c =
    elim (Contains-append_cases (make first x) (parts make (suc first) xs) a c) [
      | inl h ↦ record {
        place = zero;
        item = x;
        at = refl;
        contains = subst (λ i. Contains (make i x) a) (omega arith) h;
      }
      | inr t ↦
          let y = contained_in_parts make (suc first) xs a t in
          record {
            place = suc y.place;
            item = y.item;
            at = y.at;
            contains = subst (λ i. Contains (make i y.item) a) (omega arith) y.contains;
          }
    ]

item : {X : Type 0} (u v : X) → Some u ≡ Some v → u ≡ v
item u v e = cc

-- what is made of an item is in the parts
pub parts_contain : {X A : Type 0} (make : ℕ → X → List A) (first : ℕ) (xs : List X) (a : A)
    → OfItem make first xs a → Contains (parts make first xs) a
parts_contain make first xs a y = go make first xs a y.place y.item y.at y.contains
  where
    go : {X A : Type 0} (make : ℕ → X → List A) (first : ℕ) (xs : List X) (a : A) (k : ℕ) (x : X)
        → slice_get xs k ≡ Some x → Contains (make (first + k) x) a → Contains (parts make first xs) a
    go make first [] a k x at c = cc
    go make first (y ∷ ys) a zero x at c =
        Contains-append_left (make first y) (parts make (suc first) ys) a
        (subst (λ z. Contains (make first z) a) (sym (item y x at)) (subst (λ i. Contains (make i x) a) (omega arith) c))
    go make first (y ∷ ys) a (suc k) x at c =
        Contains-append_right (make first y) (parts make (suc first) ys) a
        (go make (suc first) ys a k x at (subst (λ i. Contains (make i x) a) (omega arith) c))

-- the parts for the items of two lists
pub parts-append : {X A : Type 0} (make : ℕ → X → List A) (first : ℕ) (xs ys : List X)
    → parts make first (xs ++ ys) ≡ parts make first xs ++ parts make (first + length xs) ys
parts-append make first [] ys = ap (λ i. parts make i ys) (omega arith)
parts-append make first (x ∷ xs) ys =
    ap (λ rest. make first x ++ rest) (parts-append make (suc first) xs ys)
    ∙ sym (append_assoc (make first x) (parts make (suc first) xs) (parts make (suc first + length xs) ys))
    ∙ ap (λ i. (make first x ++ parts make (suc first) xs) ++ parts make i ys) (omega arith)

-- the parts for one item more
pub parts_take : {X A : Type 0} (make : ℕ → X → List A) (first : ℕ) (xs : List X) (k : ℕ) (x : X)
    → slice_get xs k ≡ Some x → parts make first (take (k + 1) xs) ≡ parts make first (take k xs) ++ make (first + k) x
parts_take make first [] k x at = cc
parts_take make first (y ∷ ys) zero x at =
    append-nil (make first y) ∙ ap (make first) (item y x at) ∙ ap (λ i. make i x) (omega arith)
parts_take make first (y ∷ ys) (suc k) x at =
    let further : suc k + 1 ≡ suc (k + 1) = omega arith in
    ap (λ n. parts make first (take n (y ∷ ys))) further
    ∙ ap (λ rest. make first y ++ rest) (parts_take make (suc first) ys k x at)
    ∙ sym (append_assoc (make first y) (parts make (suc first) (take k ys)) (make (suc first + k) x))
    ∙ ap (λ i. (make first y ++ parts make (suc first) (take k ys)) ++ make i x) (omega arith)
