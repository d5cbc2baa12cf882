-- Lists of names, each once, and the numbers that names have in them.
use Rattle.std.proofs.Common.{◌≡◌, ◌≤◌, ◌<◌, ◌+◌, ◌⊎◌, inl, inr, ℕ, zero, suc, Bool, true, false, not, ◌||◌, cond, if◌then◌else◌, List, [], ◌∷◌, ◌++◌, Contains, length, Some, None, is_some, bytes_eq, slice_get, refl, sym, ap, subst, ◌∙◌, arith}
use Rattle.std.specs.Prelude.{flat_map}
use Rattle.std.specs.List.{list_any, position, position_from, position_or_len}
use Rattle.std.proofs.lemmas.Iterator.Adapters.{position_from-zero}
use Rattle.std.proofs.lemmas.List.{length-append}
use Rattle.std.proofs.lemmas.List.Elements.{Contains-append_left, Contains-append_right, Contains-push}
use Rattle.std.proofs.lemmas.Option.{get_or_from_slice_get, same_Some, slice_get_within}
use Rattle.std.proofs.lemmas.Slice.Eq.{bytes_eq-Decides}
use Rattle.name_sets.specs.NameLists.{is_among}
use Rattle.c_tree.specs.BareExpr.{Bytes}
use Rattle.code_runs.specs.CodeData.{number_of}
use Rattle.code_image.specs.Images.{each_once, with_more, with_new}
use Rattle.image_load.specs.Numbering.{AreDistinct}

-- ---- a name is among some

clash : true ≡ false → ⊥
clash e = cc

same_name : (a b : Bytes) → bytes_eq a b ≡ true → a ≡ b
same_name a b e = (bytes_eq-Decides a b).0 e

itself : (a : Bytes) → bytes_eq a a ≡ true
itself a = (bytes_eq-Decides a a).1 refl

-- what is found at a place is contained
pub found_contained : {X : Type 0} (xs : List X) (k : ℕ) (x : X) → slice_get xs k ≡ Some x → Contains xs x
found_contained xs k x e = (k, slice_get_within xs k x e, get_or_from_slice_get xs k x x e)

first_contained : {X : Type 0} (x : X) (xs : List X) → Contains (x ∷ xs) x
first_contained x xs = found_contained (x ∷ xs) 0 x refl

later_contained : {X : Type 0} (x y : X) (xs : List X) → Contains xs y → Contains (x ∷ xs) y
later_contained x y xs h = Contains-append_right (x ∷ []) xs y h

-- it is the first, or among the others
contained_cases : {X : Type 0} (x y : X) (xs : List X) → Contains (x ∷ xs) y → (x ≡ y) ⊎ Contains xs y
contained_cases x y xs (zero, within, is) = inl is
contained_cases x y xs (suc k, within, is) = inr (k, omega (arith, within), is)

pub among_contained : (names : List Bytes) (name : Bytes) → is_among names name ≡ true → Contains names name
among_contained [] name e = absurd (clash (sym e))
among_contained (n ∷ ns) name e = by (bytes_eq name n) refl (among_contained ns name) e
  where
    by : (b : Bool) → bytes_eq name n ≡ b → (is_among ns name ≡ true → Contains ns name) → (b || is_among ns name) ≡ true
        → Contains (n ∷ ns) name
    by true is rest e = subst (λ (x : Bytes). Contains (x ∷ ns) name) (same_name name n is) (first_contained name ns)
    by false is rest e = later_contained n name ns (rest e)

pub contained_among : (names : List Bytes) (name : Bytes) → Contains names name → is_among names name ≡ true
contained_among [] name h = absurd (omega (arith, h.1))
contained_among (n ∷ ns) name h = elim (contained_cases n name ns h) [
  | inl same ↦ ap (λ b. b || is_among ns name) (ap (bytes_eq name) same ∙ itself name)
  | inr later ↦ by (bytes_eq name n) (contained_among ns name later)
]
  where
    by : (b : Bool) → is_among ns name ≡ true → (b || is_among ns name) ≡ true
    by true e = refl
    by false e = e

-- ---- positions

any_from : {X : Type 0} (p : X → Bool) (n : ℕ) (xs : List X) → is_some (position_from p n xs) ≡ list_any p xs
any_from p n [] = refl
any_from p n (x ∷ xs) = by (p x) (any_from p (n + 1) xs)
  where
    by : (b : Bool) → is_some (position_from p (n + 1) xs) ≡ list_any p xs → is_some (cond b (Some n) (position_from p (n + 1) xs)) ≡ (b || list_any p xs)
    by true h = refl
    by false h = h

pub placed_among : (names : List Bytes) (name : Bytes) → is_some (position (λ n. bytes_eq name n) names) ≡ is_among names name
placed_among names name =
    ap is_some (position_from-zero (λ n. bytes_eq name n) names) ∙ any_from (λ n. bytes_eq name n) 0 names

-- a name that has no position isn't contained
pub unplaced : (names : List Bytes) (name : Bytes) → position (λ n. bytes_eq name n) names ≡ None → Contains names name → ⊥
unplaced names name none h =
    clash (sym (contained_among names name h) ∙ sym (placed_among names name) ∙ ap is_some none)

pub placed_contained : (names : List Bytes) (name : Bytes) (i : ℕ) → position (λ n. bytes_eq name n) names ≡ Some i → Contains names name
placed_contained names name i at = among_contained names name (sym (placed_among names name) ∙ ap is_some at)

-- a name is at its number
pub at_number : (names : List Bytes) (name : Bytes) → Contains names name → slice_get names (number_of names name) ≡ Some name
at_number [] name h = absurd (omega (arith, h.1))
at_number (n ∷ ns) name h = by (bytes_eq name n) refl (at_number ns name) (contained_cases n name ns h)
  where
    next : ℕ
    next = number_of ns name

    by : (b : Bool) → bytes_eq name n ≡ b → (Contains ns name → slice_get ns next ≡ Some name) → (n ≡ name) ⊎ Contains ns name
        → slice_get (n ∷ ns) (cond (not b) (1 + next) 0) ≡ Some name
    by true is rest h = ap Some (sym (same_name name n is))
    by false is rest (inl same) = absurd (clash (sym (ap (bytes_eq name) same ∙ itself name) ∙ is))
    by false is rest (inr later) =
        let one : 1 + next ≡ suc next = omega arith in ap (slice_get (n ∷ ns)) one ∙ rest later

pub number_within : (names : List Bytes) (name : Bytes) → Contains names name → number_of names name < length names
number_within names name h = slice_get_within names (number_of names name) name (at_number names name h)

-- ---- names that are added

pub new_keeps : (names : List Bytes) (name other : Bytes) → Contains names other → Contains (with_new names name) other
new_keeps names name other h = by (is_among names name)
  where
    by : (b : Bool) → Contains (if b then names else names ++ name ∷ []) other
    by true = h
    by false = Contains-append_left names (name ∷ []) other h

pub new_has : (names : List Bytes) (name : Bytes) → Contains (with_new names name) name
new_has names name = by (is_among names name) refl
  where
    by : (b : Bool) → is_among names name ≡ b → Contains (if b then names else names ++ name ∷ []) name
    by true e = among_contained names name e
    by false e = Contains-push names name

pub more_keeps : (names more : List Bytes) (name : Bytes) → Contains names name → Contains (with_more names more) name
more_keeps names [] name h = h
more_keeps names (n ∷ more) name h = more_keeps (with_new names n) more name (new_keeps names n name h)

pub more_has : (names more : List Bytes) (name : Bytes) → Contains more name → Contains (with_more names more) name
more_has names [] name h = absurd (omega (arith, h.1))
more_has names (n ∷ more) name h = elim (contained_cases n name more h) [
  | inl same ↦
      more_keeps (with_new names n) more name (subst (λ (x : Bytes). Contains (with_new names n) x) same (new_has names n))
  | inr later ↦ more_has (with_new names n) more name later
]

pub once_has : (names : List Bytes) (name : Bytes) → Contains names name → Contains (each_once names) name
once_has names name h = more_has [] names name h

pub more_append : (names more most : List Bytes) → with_more names (more ++ most) ≡ with_more (with_more names more) most
more_append names [] most = refl
more_append names (n ∷ more) most = more_append (with_new names n) more most

-- no more names than there were
pub more_long : (names more : List Bytes) → length (with_more names more) ≤ length names + length more
more_long names [] = omega arith
more_long names (n ∷ more) =
    let rest = more_long (with_new names n) more in
    let one = by (is_among names n) in
    omega (arith, rest, one)
  where
    by : (b : Bool) → length (if b then names else names ++ n ∷ []) ≤ length names + 1
    by true = omega arith
    by false = omega (arith, length-append names (n ∷ []))

-- ---- each name is there once

number_kept : {X : Type 0} (p : X → Bool) (xs ys : List X) → position_or_len p xs < length xs → position_or_len p (xs ++ ys) ≡ position_or_len p xs
number_kept p [] ys l = absurd (omega (arith, l))
number_kept p (x ∷ xs) ys l = by (p x) l (λ m. number_kept p xs ys m)
  where
    by : (b : Bool) → cond (not b) (1 + position_or_len p xs) 0 < length (x ∷ xs)
        → (position_or_len p xs < length xs → position_or_len p (xs ++ ys) ≡ position_or_len p xs)
        → cond (not b) (1 + position_or_len p (xs ++ ys)) 0 ≡ cond (not b) (1 + position_or_len p xs) 0
    by true l rest = refl
    by false l rest = ap (λ n. 1 + n) (rest (omega (arith, l)))

number_new : {X : Type 0} (p : X → Bool) (xs : List X) (y : X) → list_any p xs ≡ false → p y ≡ true → position_or_len p (xs ++ y ∷ []) ≡ length xs
number_new p [] y none own = ap (λ b. cond (not b) (1 + 0) 0) own
number_new p (x ∷ xs) y none own = by (p x) (λ e. number_new p xs y e own) none
  where
    by : (b : Bool) → (list_any p xs ≡ false → position_or_len p (xs ++ y ∷ []) ≡ length xs) → (b || list_any p xs) ≡ false
        → cond (not b) (1 + position_or_len p (xs ++ y ∷ [])) 0 ≡ length (x ∷ xs)
    by true before none = absurd (clash none)
    by false before none = let rest = before none in omega (arith, rest)

-- what is at a place of a list with one item more
pub at_cases : {X : Type 0} (xs : List X) (y z : X) (n : ℕ) → slice_get (xs ++ y ∷ []) n ≡ Some z
    → (slice_get xs n ≡ Some z) ⊎ ((n ≡ length xs) × (y ≡ z))
at_cases [] y z zero e = inr (refl, same_Some y z e)
at_cases [] y z (suc n) e = absurd (nothing e)
  where
    nothing : None ≡ Some z → ⊥
    nothing e = cc
at_cases (x ∷ xs) y z zero e = inl e
at_cases (x ∷ xs) y z (suc n) e = elim (at_cases xs y z n e) [
  | inl before ↦ inl before
  | inr last ↦ inr (ap suc last.0, last.1)
]

distinct_new : (names : List Bytes) (name : Bytes) → AreDistinct names → AreDistinct (with_new names name)
distinct_new names name h = by (is_among names name) refl
  where
    by : (b : Bool) → is_among names name ≡ b → AreDistinct (if b then names else names ++ name ∷ [])
    by true e = h
    by false e = λ n other at.
        elim (at_cases names name other n at) [
          | inl before ↦
              let own = h n other before in
              let within = slice_get_within names n other before in
              number_kept (λ m. bytes_eq other m) names (name ∷ []) (omega (arith, own, within)) ∙ own
          | inr last ↦
              subst (λ (x : Bytes). number_of (names ++ name ∷ []) x ≡ n) last.1
              (number_new (λ m. bytes_eq name m) names name e (itself name) ∙ sym last.0)
        ]

distinct_more : (names more : List Bytes) → AreDistinct names → AreDistinct (with_more names more)
distinct_more names [] h = h
distinct_more names (n ∷ more) h = distinct_more (with_new names n) more (distinct_new names n h)

pub distinct_once : (names : List Bytes) → AreDistinct (each_once names)
distinct_once names = distinct_more [] names (λ n name e. absurd (nothing e))
  where
    nothing : {x : Bytes} → None ≡ Some x → ⊥
    nothing e = cc

-- ---- lists of lists

pub in_each : {X Y : Type 0} (f : X → List Y) (xs : List X) (x : X) (y : Y) → Contains xs x → Contains (f x) y → Contains (flat_map f xs) y
in_each f [] x y h own = absurd (omega (arith, h.1))
in_each {X} f (z ∷ zs) x y h own = elim (contained_cases z x zs h) [
  | inl same ↦
      let first : Contains (f z) y = subst (λ (w : X). Contains (f w) y) (sym same) own in
      Contains-append_left (f z) (flat_map f zs) y first
  | inr later ↦ Contains-append_right (f z) (flat_map f zs) y (in_each f zs x y later own)
]
