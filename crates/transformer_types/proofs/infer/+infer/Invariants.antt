-- Each function goes by the depth of the deepest of its parts, and its rank among functions that pass on a whole.
use Rattle.std.proofs.Common.{◌+◌, ◌*◌, max}
use Rattle.c_tree.proofs.expr.Expr.TheLaws.{the_size}
use Rattle.transformer_types.proofs.infer.+infer.Given as goal

abbrev pub decreases-infer : goal.decreases-infer
decreases-infer l = 4 * goal.size-infer l + 1

abbrev pub decreases-infer_form : goal.decreases-infer_form
decreases-infer_form l = 4 * goal.size-infer_form l

abbrev pub decreases-infer_part : goal.decreases-infer_part
decreases-infer_part l = 4 * goal.size-infer_part l + 2

abbrev pub decreases-infer_unary : goal.decreases-infer_unary
decreases-infer_unary l = 4 * goal.size-infer_unary l + 3

abbrev pub decreases-infer_cast : goal.decreases-infer_cast
decreases-infer_cast l = 4 * goal.size-infer_cast l + 3

abbrev pub decreases-infer_binary : goal.decreases-infer_binary
decreases-infer_binary l = 4 * max (the_size l.a.now) (the_size l.b.now) + 3

abbrev pub decreases-infer_choice : goal.decreases-infer_choice
decreases-infer_choice l = 4 * max (the_size l.a.now) (max (the_size l.b.now) (the_size l.c.now)) + 3

abbrev pub decreases-infer_field : goal.decreases-infer_field
decreases-infer_field l = 4 * goal.size-infer_field l + 3
