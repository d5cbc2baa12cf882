-- How the steps stand for tables. Here the steps are listed from the last to the first.
use Rattle.std.specs.Prelude.{◌≡◌, ℕ, suc, ◌<◌, List, [], ◌∷◌, length, Option, None, Some, ⊤, if◌then◌else◌, nat_eq, slice_index_or}
use Rattle.c_scope.specs.declared.step.Step.{Step}
use Rattle.c_scope.specs.declared.step.Step.TheVariants.{Enter, Declare}
use Rattle.c_scope.specs.Names.{AreDistinct}
use Rattle.c_scope.specs.Tables.{declared}

-- the place isn't in the table that begins at `start`
abbrev pub IsBefore : ℕ → Option ℕ → Type 0
IsBefore start None = ⊤
IsBefore start (Some place) = place < start

module _ {T : Type 0} where
  -- the place of the innermost table's first step
  abbrev pub start_of : List (Step T) → ℕ
  start_of [] = 0
  start_of (Enter outer ∷ steps) = suc (length steps)
  start_of (Declare declaration ∷ steps) = start_of steps

  -- the place of the last declaration of the name with a number
  abbrev pub last_place : List (Step T) → ℕ → Option ℕ
  last_place [] name = None
  last_place (Enter outer ∷ steps) name = last_place steps name
  last_place (Declare declaration ∷ steps) name = if nat_eq declaration.name name then Some (length steps) else last_place steps name

  -- the tables
  abbrev pub tables_of : List (List ℕ) → List (Step T) → List (List (List ℕ × T))
  tables_of texts [] = [] ∷ []
  tables_of texts (Enter outer ∷ steps) = [] ∷ tables_of texts steps
  tables_of texts (Declare declaration ∷ steps) = declared (tables_of texts steps) (slice_index_or texts declaration.name []) declaration.value

  -- each step keeps what it hides, and a declaration hides none in its own table
  abbrev pub IsHistory : ℕ → List (Step T) → Type 0
  IsHistory names [] = ⊤
  IsHistory names (Enter outer ∷ steps) = (outer ≡ start_of steps) × IsHistory names steps
  IsHistory names (Declare declaration ∷ steps) = (declaration.name < names) × (declaration.hides ≡ last_place steps declaration.name)
      × IsBefore (start_of steps) (last_place steps declaration.name) × IsHistory names steps

  -- the map of names knows the last declaration of each
  pub record AreKept (texts : List (List ℕ)) (places : List (Option ℕ)) (steps : List (Step T)) : Type 0 where
    pub distinct : AreDistinct texts
    pub history : IsHistory (length texts) steps
    pub long : length places ≡ length texts
    pub latest : (name : ℕ) → name < length texts → slice_index_or places name None ≡ last_place steps name
