-- Bodies by function and generation, given their places from the last one to the first.
use Rattle.std.proofs.Common.{◌≡◌, ℕ, ◌+◌, ◌<◌, ◌≤◌, Bool, cond, if◌then◌else◌, List, [], ◌∷◌, length, drop, get_or, Option, Some, None, sym, ap, ◌∙◌}
use Rattle.std.specs.List.{position, position_from}
use Rattle.std.proofs.lemmas.Iterator.Adapters.{position_from-zero}
use Rattle.std.proofs.lemmas.List.{drop_more, drop_all}
use Rattle.verified_code.specs.declared.unit.CodeUnit.{CodeUnit}
use Rattle.verified_code.specs.Places.{is_of, place_in}

-- bodies from the n-th on have their places
abbrev pub ArePlaced : List (List (Option ℕ)) → ℕ → List CodeUnit → Type 0
ArePlaced places n units = (f g : ℕ) → place_in places f g ≡ position_from (is_of f g) n (drop n units)

-- none
pub placed_none : (places : List (List (Option ℕ))) (n : ℕ) (units : List CodeUnit) → length units ≤ n
    → ((f g : ℕ) → place_in places f g ≡ None) → ArePlaced places n units
placed_none places n units past none f g = none f g ∙ sym (ap (position_from (is_of f g) n) (drop_all n units past))

-- one more
pub placed_more : (old new : List (List (Option ℕ))) (n k : ℕ) (units : List CodeUnit) (unit : CodeUnit) → k + 1 ≡ n → k < length units → get_or units k unit ≡ unit
    → ((f g : ℕ) → place_in new f g ≡ (if is_of f g unit then Some k else place_in old f g))
    → ArePlaced old n units → ArePlaced new k units
placed_more old new n k units unit next within is put before f g =
    put f g
    ∙ ap (λ o. cond (is_of f g unit) (Some k) o) (before f g ∙ ap (λ m. position_from (is_of f g) m (drop m units)) (sym next))
    ∙ sym (ap (position_from (is_of f g) k) (drop_more units k unit within ∙ ap (λ y. y ∷ drop (k + 1) units) is))

-- all
pub placed_all : (places : List (List (Option ℕ))) (n : ℕ) (units : List CodeUnit) → n ≡ 0 → ArePlaced places n units
    → (f g : ℕ) → place_in places f g ≡ position (is_of f g) units
placed_all places n units zero h f g =
    h f g ∙ ap (λ m. position_from (is_of f g) m (drop m units)) zero ∙ sym (position_from-zero (is_of f g) units)
