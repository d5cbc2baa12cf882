-- Lists that are made part by part, from the items of another list and their places.
use Rattle.std.specs.Prelude.{ℕ, suc, List, [], ◌∷◌, ◌++◌}

-- the parts for items that have the places from a number on
abbrev pub parts : {X A : Type 0} → (ℕ → X → List A) → ℕ → List X → List A
parts make i [] = []
parts make i (x ∷ xs) = make i x ++ parts make (suc i) xs
