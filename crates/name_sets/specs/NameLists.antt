-- Sets of names as lists of their texts: a set has its names in the order of their bytes, and each once.
use Rattle.std.specs.Prelude.{ℕ, Bool, true, false, ◌||◌, ◌&&◌, ◌==◌, nat_lt, List, [], ◌∷◌, bytes_eq, if◌then◌else◌}
use Rattle.std.specs.List.{list_any}

-- a comes before b in the order of their bytes
abbrev pub precedes : List ℕ → List ℕ → Bool
precedes [] [] = false
precedes [] (_ ∷ _) = true
precedes (_ ∷ _) [] = false
precedes (a ∷ rest_a) (b ∷ rest_b) = nat_lt a b || (a == b && precedes rest_a rest_b)

-- whether a name is among some
abbrev pub is_among : List (List ℕ) → List ℕ → Bool
is_among names name = list_any (bytes_eq name) names

-- a set with one name more
abbrev pub with_name : List ℕ → List (List ℕ) → List (List ℕ)
with_name name [] = name ∷ []
with_name name (first ∷ names) =
    if bytes_eq name first
    then first ∷ names
    else (if precedes name first then name ∷ first ∷ names else first ∷ with_name name names)

-- the set of some names
abbrev pub name_set : List (List ℕ) → List (List ℕ)
name_set [] = []
name_set (name ∷ names) = with_name name (name_set names)
