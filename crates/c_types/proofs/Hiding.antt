-- The first fault of a whole whose parts have faults.
use Rattle.std.proofs.Common.{refl}
use Rattle.std.specs.Prelude.{◌≡◌, List, [], ◌∷◌}
use Rattle.std.specs.Option.{option_or}
use Rattle.c_expr_types.specs.declared.fault.Fault.{Fault}
use Rattle.c_expr_types.specs.Faults.{first}
use Rattle.c_types.specs.Statements.{hiding}

-- faults of parts hide those of the whole, also by their first
pub first_hiding : (parts whole : List Fault) → first (hiding parts whole) ≡ option_or (first parts) (first whole)
first_hiding [] whole = refl
first_hiding (f ∷ more) whole = refl
