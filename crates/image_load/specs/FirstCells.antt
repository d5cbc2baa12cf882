-- The first cells of globals and arrays: their words, and values that name no object and no thread.
use Rattle.std.specs.Prelude.{◌≡◌, ℕ, List, [], All, Some, find, map, length, slice_get, slice_index_or, bytes_eq}
use Rattle.std.specs.Option.{option_map_or}
use Rattle.c_tree.specs.BareExpr.{Bytes}
use Rattle.c_semantics.specs.Values.{Value, Reference, Started}
use Rattle.source_model.specs.Worlds.{Cells}
use Rattle.bytecode.specs.Words.{Naming, word_of}

abbrev pub IsPlain : Value → Type 0
IsPlain (Reference (Some object)) = ⊥
IsPlain (Started (Some thread)) = ⊥
IsPlain v = Unit {0}

-- each cell of a global or an array has one
abbrev pub ArePlain : Cells → Type 0
ArePlain c = All IsPlain c.cells

-- the cells of the first of a name
abbrev pub cells_in : List Cells → Bytes → List Value
cells_in gs name = option_map_or (λ g. g.cells) (find (λ g. bytes_eq name g.name) gs) []

-- the words of the cells of each of some names
pub record HaveFirst (gs : List Cells) (names : List Bytes) (rows : List (List ℕ)) : Type 0 where
  pub many : length rows ≡ length names
  pub each : (naming : Naming) (k : ℕ) (name : Bytes) → slice_get names k ≡ Some name
      → slice_index_or rows k [] ≡ map (word_of naming) (cells_in gs name)
