use Rattle.std.proofs.Common.{refl}
use Rattle.c_expr_types.proofs.Firsts.{first_append}
use Rattle.c_expr_types.proofs.infer_node.join_into.Goals as goal

pub returns : goal.returns
returns c =
    simp (c.settled.ensures, c.sooner-fault.ensures, c.required.ensures, c.place_required.ensures, c.has_type.ensures, c.has_type-2.ensures, first_append) refl
