-- What the three lists of a newer text keep.
use Rattle.std.specs.Prelude.{◌≡◌, List, []}
use Rattle.std.specs.List.Sorted.{IsStrictlySortedBy}
use Rattle.std.specs.Cmp.Lexicographic.{slice_cmp}
use Rattle.std.specs.Ordering.{nat_cmp}
use Rattle.c_tree.specs.BareExpr.{Bytes}
use Rattle.c_tree.specs.BareDef.{BareDef}
use Rattle.c_semantics.specs.Changes.{changed, interface, added}

-- each name is before those after it, in the order of bytes
abbrev pub IsOrdered : List Bytes → Type 0
IsOrdered = IsStrictlySortedBy (slice_cmp nat_cmp)

-- so no name is in a list twice
abbrev pub ListsAreOrdered : Type 0
ListsAreOrdered =
    (p q : List BareDef) → IsOrdered (changed p q) × IsOrdered (interface p q) × IsOrdered (added p q)

-- a text that is compared with itself changes nothing
abbrev pub SameChangesNothing : Type 0
SameChangesNothing = (p : List BareDef) → (changed p p ≡ []) × (interface p p ≡ []) × (added p p ≡ [])
