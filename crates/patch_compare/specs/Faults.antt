-- What is answered when two texts are compared.
use Rattle.std.specs.Prelude.{◌≡◌, List, Option, Some, None, Result, Ok, Err}
use Rattle.c_tree.specs.BareExpr.{Bytes}
use Rattle.c_tree.specs.BareDef.{BareDef}
use Rattle.c_semantics.specs.Changes.{changed, interface, added}
use Rattle.patch_faults.specs.Sorts.{other_kind}
use Rattle.patch_compare.specs.declared.answer.Changes.{Changes}
use Rattle.patch_compare.specs.declared.answer.CompareFault.{CompareFault}
use Rattle.patch_compare.specs.declared.answer.CompareFault.TheVariants.{Kind, Memory}

-- a fault names the name that is of another sort in the newer text, or is lack of memory
abbrev pub IsFault : Option Bytes → CompareFault → Type 0
IsFault found (Kind name) = found ≡ Some name
IsFault found Memory = Unit {0}

-- the three lists, where no name is of another sort, or a fault
abbrev pub IsAnswer : List BareDef → List BareDef → Result Changes CompareFault → Type 0
IsAnswer p q (Ok c) =
    (c.changed ≡ changed p q) × (c.interface ≡ interface p q) × (c.added ≡ added p q) × (other_kind p q ≡ None)
IsAnswer p q (Err fault) = IsFault (other_kind p q) fault
