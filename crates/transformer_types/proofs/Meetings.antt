-- Where two operands meet, as a test.
use Rattle.std.proofs.Common.{◌≡◌, ℕ, Option, Some, None, is_some, refl, if◌then◌else◌}
use Rattle.c_tree.specs.declared.name.CType.{CType}
use Rattle.c_expr_types.specs.declared.found.Found.{Found}
use Rattle.c_expr_types.specs.declared.fault.TypeKind.TheVariants.{WrongType}
use Rattle.c_expr_types.specs.Found.{wrong}
use Rattle.c_expr_types.specs.Expressions.{where_met}

pub where_met_by : (t : Option CType) (at : ℕ) (found : Found) →
    where_met t at found ≡ (if is_some t then found else wrong WrongType at)
where_met_by (Some t) at found = refl
where_met_by None at found = refl
