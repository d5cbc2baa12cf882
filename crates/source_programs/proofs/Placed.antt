-- Places by name of the items of a list, given from the last item to the first.
use Rattle.std.proofs.Common.{◌≡◌, ℕ, ◌+◌, ◌<◌, ◌≤◌, Bool, true, false, cond, if◌then◌else◌, List, [], ◌∷◌, length, map, drop, get_or, Some, None, find, nat_lt, slice_get, refl, sym, ap, ◌∙◌, arith}
use Rattle.std.specs.List.{position, position_or_len, position_from}
use Rattle.std.proofs.lemmas.Bool.{ltb-true, ltb-false}
use Rattle.std.proofs.lemmas.Iterator.Adapters.{position_from-zero}
use Rattle.std.proofs.lemmas.List.{drop_more, drop_all}
use Rattle.std.proofs.lemmas.List.Folds.{find_at}
use Rattle.std.proofs.lemmas.Option.{cond_some, slice_get_past}
use Rattle.c_tree.specs.BareExpr.{Bytes}
use Rattle.source_programs.specs.declared.places.Places.{Places}
use Rattle.source_programs.specs.Places.{place_in}

-- where a position was found, and where none was
pub record At {X : Type 0} (p : X → Bool) (xs : List X) (i : ℕ) : Type 0 where
  pub first : position_or_len p xs ≡ i
  pub within : i < length xs

pub found_at : {X : Type 0} (p : X → Bool) (xs : List X) (i : ℕ) → position p xs ≡ Some i → At p xs i
found_at p xs i h =
    let found = cond_some (nat_lt (position_or_len p xs) (length xs)) (position_or_len p xs) i h in
    let within : position_or_len p xs < length xs = ltb-true (position_or_len p xs) (length xs) found.0 in
    record { first = found.1; within = omega (arith, found.1) }

pub nowhere : {X : Type 0} (p : X → Bool) (xs : List X) → position p xs ≡ None → length xs ≤ position_or_len p xs
nowhere p xs h = by (nat_lt (position_or_len p xs) (length xs)) refl h
  where
    by : (b : Bool) → nat_lt (position_or_len p xs) (length xs) ≡ b → cond b (Some (position_or_len p xs)) None ≡ None → length xs ≤ position_or_len p xs
    by true e h = cc
    by false e h = ltb-false (position_or_len p xs) (length xs) e

-- the first that passes is at its position
pub find_there : {X : Type 0} (p : X → Bool) (xs : List X) (i : ℕ) → position p xs ≡ Some i → slice_get xs i ≡ find p xs
find_there p xs i h = sym (find_at p xs ∙ ap (slice_get xs) (found_at p xs i h).first)

pub find_nowhere : {X : Type 0} (p : X → Bool) (xs : List X) → position p xs ≡ None → None ≡ find p xs
find_nowhere p xs h = sym (find_at p xs ∙ slice_get_past xs (position_or_len p xs) (nowhere p xs h))

-- names have the places of their first items among those from the n-th on
abbrev pub ArePlaced : {X : Type 0} → (Bytes → X → Bool) → Places → ℕ → List X → Type 0
ArePlaced p places n xs = (name : Bytes) → place_in places name ≡ position_from (p name) n (drop n xs)

-- none
pub placed_none : {X : Type 0} (p : Bytes → X → Bool) (places : Places) (n : ℕ) (xs : List X) → length xs ≤ n
    → ((name : Bytes) → place_in places name ≡ None) → ArePlaced p places n xs
placed_none p places n xs past none name = none name ∙ sym (ap (position_from (p name) n) (drop_all n xs past))

-- one more
pub placed_more : {X : Type 0} (p : Bytes → X → Bool) (old new : Places) (n k : ℕ) (xs : List X) (x : X) → k + 1 ≡ n → k < length xs → get_or xs k x ≡ x
    → ((name : Bytes) → place_in new name ≡ (if p name x then Some k else place_in old name))
    → ArePlaced p old n xs → ArePlaced p new k xs
placed_more p old new n k xs x next within is put before name =
    put name
    ∙ ap (λ o. cond (p name x) (Some k) o) (before name ∙ ap (λ m. position_from (p name) m (drop m xs)) (sym next))
    ∙ sym (ap (position_from (p name) k) (drop_more xs k x within ∙ ap (λ y. y ∷ drop (k + 1) xs) is))

-- all
pub placed_all : {X : Type 0} (p : Bytes → X → Bool) (places : Places) (n : ℕ) (xs : List X) → n ≡ 0 → ArePlaced p places n xs
    → (name : Bytes) → place_in places name ≡ position (p name) xs
placed_all p places n xs zero h name = h name ∙ ap (λ m. position_from (p name) m (drop m xs)) zero ∙ sym (position_from-zero (p name) xs)

-- ---- positions by names

-- the position of a name among definitions is its position among their names
position_of_name : {X : Type 0} (p : Bytes → Bool) (f : X → Bytes) (n : ℕ) (xs : List X) → position_from (λ x. p (f x)) n xs ≡ position_from p n (map f xs)
position_of_name p f n [] = refl
position_of_name p f n (x ∷ xs) = ap (cond (p (f x)) (Some n)) (position_of_name p f (n + 1) xs)

-- so it is the same where the names are
pub same_position : {X : Type 0} (p : Bytes → Bool) (f g : X → Bytes) (xs : List X) → map f xs ≡ map g xs → position (λ x. p (f x)) xs ≡ position (λ x. p (g x)) xs
same_position p f g xs e =
    position_from-zero (λ x. p (f x)) xs ∙ position_of_name p f 0 xs ∙ ap (position_from p 0) e
    ∙ sym (position_from-zero (λ x. p (g x)) xs ∙ position_of_name p g 0 xs)
