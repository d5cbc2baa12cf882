-- What is known at a place to which several ways lead.
use Rattle.std.specs.Prelude.{ℕ, ◌==◌, nat_le, Bool, true, false, ◌&&◌, List, [], ◌∷◌, take, length, Option, Some, None, if◌then◌else◌}
use Rattle.std.specs.Option.{option_and_then}
use Rattle.code_kinds.specs.WordKinds.{same_kind}
use Rattle.code_kinds.specs.StopKinds.{Words}
use Rattle.code_kinds.specs.Shapes.{Due, Shape, same_check_in}

-- the words with which two lists both begin
abbrev pub common : Words → Words → Words
common (a ∷ xs) (b ∷ ys) = if same_kind a b then a ∷ common xs ys else []
common _ _ = []

-- whether two lists of words are one
abbrev pub same_words : Words → Words → Bool
same_words [] [] = true
same_words (a ∷ xs) (b ∷ ys) = same_kind a b && same_words xs ys
same_words _ _ = false

-- whether the same check-in comes next, or none
abbrev pub same_due : Option Due → Option Due → Bool
same_due None None = true
same_due (Some a) (Some b) = same_check_in a.kind b.kind && (a.number == b.number)
same_due _ _ = false

-- whether two shapes differ in their variables at most
abbrev pub alike : Shape → Shape → Bool
alike a b = same_words a.stack b.stack && ((a.transactions == b.transactions) && same_due a.due b.due)

-- a shape with other variables
abbrev pub with_variables : Words → Shape → Shape
with_variables w s = record s { variables = w }

-- what is known where a shape was known, or none, and a way brings another
abbrev pub meet : Option Shape → Shape → Option Shape
meet None s = Some s
meet (Some old) s = if alike old s then Some (with_variables (common old.variables s.variables) s) else None

-- a shape where a loop begins that keeps so many variables, if one does; nothing where there are fewer
abbrev pub cut : Option ℕ → Shape → Option Shape
cut None s = Some s
cut (Some v) s = if nat_le v (length s.variables) then Some (with_variables (take v s.variables) s) else None

abbrev pub met : Option ℕ → Option Shape → Shape → Option Shape
met v there s = option_and_then (cut v) (meet there s)

-- the same at a place where something was known already
abbrev pub met_again : Option ℕ → Option Shape → Shape → Option Shape
met_again v there s = option_and_then (λ old. met v (Some old) s) there
