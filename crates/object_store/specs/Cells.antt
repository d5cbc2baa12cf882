-- Cells of globals, as words.
use Rattle.std.specs.Prelude.{ℕ, List}

-- the word of each cell, in order, and for how many further ones there is room
pub record CellRows : Type 0 where
  pub words : List ℕ
  pub spare : ℕ
