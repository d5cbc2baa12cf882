-- Tables of names in the order of their bytes.
use Rattle.std.specs.Prelude.{ℕ, ◌<◌, List, length}
use Rattle.std.specs.List.Sorted.{IsStrictlySortedBy}
use Rattle.std.specs.Cmp.Lexicographic.{slice_cmp}
use Rattle.std.specs.Ordering.{nat_cmp}
use Rattle.name_sets.specs.Texts.{IsTable, IsBefore}
use Rattle.c_tree.specs.BareExpr.{Bytes}

-- texts are in the order of their bytes, each once
abbrev pub Ascend : List Bytes → Type 0
Ascend = IsStrictlySortedBy (slice_cmp nat_cmp)

-- the ids of a table go as its texts
pub record IsOrdered (names : List Bytes) : Type 0 where
  pub table : IsTable names
  pub before : (a b : ℕ) → a < b → b < length names → IsBefore names a b
