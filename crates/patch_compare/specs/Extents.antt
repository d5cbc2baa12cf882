-- What of two definitions is compared.
use Rattle.std.specs.Prelude.{Bool, List}
use Rattle.c_tree.specs.BareExpr.{Bytes}
use Rattle.c_tree.specs.BareDef.{BareDef}
use Rattle.c_semantics.specs.Changes.{changed, interface, same_definition, same_interface}
use Rattle.patch_compare.specs.declared.lookup.Extent.{Extent}
use Rattle.patch_compare.specs.declared.lookup.Extent.TheVariants.{Whole, Interface}

-- the test of two definitions by what of them is compared
abbrev pub same_by : Extent → BareDef → BareDef → Bool
same_by Whole = same_definition
same_by Interface = same_interface

-- the names of p on which q doesn't agree, by what is compared
abbrev pub differing : Extent → List BareDef → List BareDef → List Bytes
differing Whole = changed
differing Interface = interface
