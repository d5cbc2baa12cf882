-- Where two lists of bytes differ.
use Rattle.std.specs.Prelude.{ℕ, suc, ◌==◌, List, [], ◌∷◌, Option, Some, None, option_map, if◌then◌else◌}
use Rattle.run_crosscheck.specs.declared.comparison.Comparison.{Comparison}
use Rattle.run_crosscheck.specs.declared.comparison.Comparison.TheVariants.{Agrees, DiffersAt}

-- the first place at which two lists of bytes differ, counted from 0; where one is a prefix of the other, the shorter length
abbrev pub first_difference : List ℕ → List ℕ → Option ℕ
first_difference [] [] = None
first_difference [] (y ∷ ys) = Some 0
first_difference (x ∷ xs) [] = Some 0
first_difference (x ∷ xs) (y ∷ ys) = if x == y then option_map suc (first_difference xs ys) else Some 0

-- what is answered by it
abbrev pub comparison_of : Option ℕ → Comparison
comparison_of None = Agrees
comparison_of (Some place) = DiffersAt place
