-- Tables of declarations, as blocks lie in blocks (C11 6.2.1). A table is the list of its declarations, each a name's
-- bytes and a value, in order; the tables are listed from the innermost to the outermost.
use Rattle.std.specs.Prelude.{ℕ, List, [], ◌∷◌, ◌++◌, Option, None, Some, if◌then◌else◌, bytes_eq}
use Rattle.std.specs.Option.{option_or}

module _ {T : Type 0} where
  -- what a table declares a name as
  abbrev pub look_up : List (List ℕ × T) → List ℕ → Option T
  look_up [] name = None
  look_up (declaration ∷ table) name = if bytes_eq name declaration.0 then Some declaration.1 else look_up table name

  -- what the innermost table declares a name as
  abbrev pub look_up_first : List (List (List ℕ × T)) → List ℕ → Option T
  look_up_first [] name = None
  look_up_first (table ∷ tables) name = look_up table name

  -- what the innermost table that has a name declares it as
  abbrev pub innermost : List (List (List ℕ × T)) → List ℕ → Option T
  innermost [] name = None
  innermost (table ∷ tables) name = option_or (look_up table name) (innermost tables name)

  -- the tables once the innermost has one more declaration
  abbrev pub declared : List (List (List ℕ × T)) → List ℕ → T → List (List (List ℕ × T))
  declared [] name value = []
  declared (table ∷ tables) name value = (table ++ (name, value) ∷ []) ∷ tables
