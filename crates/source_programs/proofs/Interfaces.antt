-- The interface that a name has in its own text.
use Rattle.std.proofs.Common.{Bor, ◌≡◌, List, Option, None, Some, IfSome, option_copied, refl, sym}
use Rattle.std.specs.Option.{is_some}
use Rattle.c_tree.specs.BareDef.{BareDef}
use Rattle.c_tree.specs.BareExpr.{Bytes}
use Rattle.c_semantics.specs.Changes.{agree, same_interface}
use Rattle.c_semantics.specs.Texts.{defined, definition}
use Rattle.patch_compare.proofs.Found.{found_name}
use Rattle.patch_compare.proofs.Lists.{own_interface}

-- a text agrees with itself on a name exactly if it defines the name
pub agrees_with_itself : (text : List BareDef) (name : Bytes)
    → is_some (definition text name) ≡ agree same_interface (definition text name) (definition text name)
agrees_with_itself text name = by (definition text name) (found_name text name)
  where
    by : (o : Option BareDef) → IfSome o (λ d. defined d ≡ Some name) → is_some o ≡ agree same_interface o o
    by None h = refl
    by (Some d) h = sym (own_interface name d h)

pub some_copied : {A : Type 0} (r : Option (Bor A)) → is_some r ≡ is_some (option_copied r)
some_copied None = refl
some_copied (Some x) = refl
