-- The numbers of names, added one by one.
use Rattle.std.proofs.Common.{◌≡◌, ℕ, zero, suc, ◌+◌, ◌<◌, Bool, true, false, cond, if◌then◌else◌, List, [], ◌∷◌, ◌++◌, length, map, take, get_or, Option, Some, None, bytes_eq, slice_get, refl, sym, ap, subst, ◌∙◌, arith}
use Rattle.std.specs.List.{position, position_from}
use Rattle.std.specs.Option.{is_some}
use Rattle.std.proofs.lemmas.Iterator.Adapters.{position_from-zero}
use Rattle.std.proofs.lemmas.List.{map-append, take_more}
use Rattle.std.proofs.lemmas.List.Quantifiers.{position-Some}
use Rattle.std.proofs.lemmas.Option.{same_Some, slice_get-get_or}
use Rattle.std.proofs.lemmas.Slice.Eq.{bytes_eq-Decides}
use Rattle.c_tree.specs.BareExpr.{Bytes}
use Rattle.source_programs.specs.declared.places.Places.{Places}
use Rattle.source_programs.specs.Places.{place_in}
use Rattle.source_programs.proofs.Placed.{found_at}
use Rattle.image_load.specs.Numbering.{HasNumbers, IsNumber}

-- ---- the position in a list with one more item

-- the first of two answers
abbrev earlier : Option ℕ → Option ℕ → Option ℕ
earlier None b = b
earlier (Some n) b = Some n

earlier_nothing : (a : Option ℕ) → earlier a None ≡ a
earlier_nothing None = refl
earlier_nothing (Some n) = refl

more_from : {X : Type 0} (p : X → Bool) (n : ℕ) (xs : List X) (y : X)
    → position_from p n (xs ++ y ∷ []) ≡ earlier (position_from p n xs) (cond (p y) (Some (n + length xs)) None)
more_from p n [] y = ap (λ m. cond (p y) (Some m) None) (omega arith)
more_from p n (x ∷ xs) y = by (p x) (more_from p (n + 1) xs y ∙ ap (λ m. earlier (position_from p (n + 1) xs) (cond (p y) (Some m) None)) (omega arith))
  where
    last : Option ℕ
    last = cond (p y) (Some (n + length (x ∷ xs))) None

    by : (b : Bool) → position_from p (n + 1) (xs ++ y ∷ []) ≡ earlier (position_from p (n + 1) xs) last
        → cond b (Some n) (position_from p (n + 1) (xs ++ y ∷ [])) ≡ earlier (cond b (Some n) (position_from p (n + 1) xs)) last
    by true h = refl
    by false h = h

position_more : {X : Type 0} (p : X → Bool) (xs : List X) (y : X)
    → position p (xs ++ y ∷ []) ≡ earlier (position p xs) (cond (p y) (Some (length xs)) None)
position_more p xs y =
    let start : 0 + length xs ≡ length xs = omega arith in
    position_from-zero p (xs ++ y ∷ []) ∙ more_from p 0 xs y ∙ ap (λ k. earlier (position_from p 0 xs) (cond (p y) (Some k) None)) start
    ∙ ap (λ o. earlier o (cond (p y) (Some (length xs)) None)) (sym (position_from-zero p xs))

-- ---- tables

-- one that is put there
pub numbers_more : (old new : Places) (names : List Bytes) (name : Bytes) (k : ℕ) → HasNumbers old names → k ≡ length names → place_in old name ≡ None
    → ((other : Bytes) → place_in new other ≡ (if bytes_eq other name then Some k else place_in old other))
    → HasNumbers new (names ++ name ∷ [])
numbers_more old new names name k has many none put = λ other. put other ∙ by other (bytes_eq other name) refl
  where
    by : (other : Bytes) (b : Bool) → bytes_eq other name ≡ b
        → cond (bytes_eq other name) (Some k) (place_in old other) ≡ position (λ n. bytes_eq other n) (names ++ name ∷ [])
    by other true e =
        let same = (bytes_eq-Decides other name).0 e in
        let first : position (λ n. bytes_eq other n) names ≡ None = sym (has other) ∙ ap (place_in old) same ∙ none in
        ap (λ b. cond b (Some k) (place_in old other)) e ∙ ap Some many
        ∙ sym (position_more (λ n. bytes_eq other n) names name
        ∙ ap (λ o. earlier o (cond (bytes_eq other name) (Some (length names)) None)) first
        ∙ ap (λ b. cond b (Some (length names)) None) e)
    by other false e =
        ap (λ b. cond b (Some k) (place_in old other)) e ∙ has other
        ∙ sym (position_more (λ n. bytes_eq other n) names name
        ∙ ap (λ b. earlier (position (λ n. bytes_eq other n) names) (cond b (Some (length names)) None)) e
        ∙ earlier_nothing (position (λ n. bytes_eq other n) names))

pub is_none : (o : Option ℕ) → is_some o ≡ false → o ≡ None
is_none None e = refl
is_none (Some i) e = absurd (clash e)
  where
    clash : true ≡ false → ⊥
    clash h = cc

-- ---- a name's number

pub is_number : (places : Places) (names : List Bytes) (name : Bytes) (i : ℕ) → HasNumbers places names → place_in places name ≡ Some i
    → IsNumber names name i
is_number places names name i has found =
    let at : position (λ n. bytes_eq name n) names ≡ Some i = sym (has name) ∙ found in
    let first = position-Some (λ n. bytes_eq name n) names i [] at in
    record {
      first = sym (found_at (λ n. bytes_eq name n) names i at).first;
      there = slice_get-get_or names i [] first.0 ∙ ap Some (sym ((bytes_eq-Decides name (get_or names i [])).0 first.1));
    }

-- ---- lists by their first items

pub next_item : {A B : Type 0} (f : A → B) (xs : List A) (i : ℕ) (x : A) → i < length xs → x ≡ get_or xs i x
    → map f (take (i + 1) xs) ≡ map f (take i xs) ++ f x ∷ []
next_item f xs i x l is = ap (map f) (take_more xs i x l ∙ ap (λ z. take i xs ++ z ∷ []) (sym is)) ∙ map-append f (take i xs) (x ∷ [])

pub next_place : {A : Type 0} (xs : List A) (i : ℕ) (x : A) → i < length xs → x ≡ get_or xs i x → take (i + 1) xs ≡ take i xs ++ x ∷ []
next_place xs i x l is = take_more xs i x l ∙ ap (λ z. take i xs ++ z ∷ []) (sym is)

-- ---- lists that grow

pub listed_read : {A B D : Type 0} (g : B → D) (h : A → B) (xs more : List D) (x : D) (ys : List A) (i : ℕ) (d : A)
    → more ≡ xs ++ x ∷ [] → i < length ys → xs ≡ map g (map h (take i ys)) → x ≡ g (h (get_or ys i d))
    → more ≡ map g (map h (take (i + 1) ys))
listed_read g h xs more x ys i d e l before here =
    e ∙ ap (λ zs. zs ++ x ∷ []) before ∙ ap (λ z. map g (map h (take i ys)) ++ z ∷ []) here
    ∙ sym (ap (map g) (ap (map h) (take_more ys i d l) ∙ map-append h (take i ys) (get_or ys i d ∷ []))
    ∙ map-append g (map h (take i ys)) (h (get_or ys i d) ∷ []))

-- what holds of each item with its place, and of one more at the end
pub placed_push : {X : Type 0} (P : ℕ → X → Type 0) (xs : List X) (x : X) → ((k : ℕ) (y : X) → slice_get xs k ≡ Some y → P k y) → P (length xs) x
    → (k : ℕ) (y : X) → slice_get (xs ++ x ∷ []) k ≡ Some y → P k y
placed_push P [] x old here zero y e = subst (P zero) (same_Some x y e) here
placed_push P [] x old here (suc k) y e = absurd (nothing y e)
  where
    nothing : {X : Type 0} (y : X) → None ≡ Some y → ⊥
    nothing y e = cc
placed_push P (z ∷ zs) x old here zero y e = old zero y e
placed_push P (z ∷ zs) x old here (suc k) y e = placed_push (λ n. P (suc n)) zs x (λ n w h. old (suc n) w h) here k y e
