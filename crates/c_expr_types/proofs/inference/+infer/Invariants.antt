-- Each function goes by the depth of the deepest of its parts, and its rank among functions that pass on a whole.
use Rattle.std.proofs.Common.{◌≡◌, ◌+◌, ◌*◌, map, max, take}
use Rattle.c_tree.proofs.expr.Expr.TheLaws.{the_size}
use Rattle.c_expr_types.specs.Expressions.{infer}
use Rattle.c_definitions.specs.Views.{names_seen}
use Rattle.c_expr_types.proofs.inference.+infer.Given as goal

abbrev pub decreases-infer : goal.decreases-infer
decreases-infer l = 4 * goal.size-infer l + 1

abbrev pub decreases-infer_form : goal.decreases-infer_form
decreases-infer_form l = 4 * goal.size-infer_form l

abbrev pub decreases-infer_part : goal.decreases-infer_part
decreases-infer_part l = 4 * goal.size-infer_part l + 2

abbrev pub decreases-infer_one : goal.decreases-infer_one
decreases-infer_one l = 4 * goal.size-infer_one l + 3

abbrev pub decreases-infer_two : goal.decreases-infer_two
decreases-infer_two l = 4 * max (the_size l.a.now) (the_size l.b.now) + 3

abbrev pub decreases-infer_choice : goal.decreases-infer_choice
decreases-infer_choice l = 4 * max (the_size l.a.now) (max (the_size l.b.now) (the_size l.c.now)) + 3

abbrev pub decreases-infer_call : goal.decreases-infer_call
decreases-infer_call l = 4 * goal.size-infer_call l + 3

abbrev pub decreases-infer_print : goal.decreases-infer_print
decreases-infer_print l = 4 * goal.size-infer_print l + 3

abbrev pub decreases-infer_list : goal.decreases-infer_list
decreases-infer_list l = 4 * goal.size-infer_list l + 2

abbrev pub invariant-infer_list-loop-expr : goal.invariant-infer_list-loop-expr
invariant-infer_list-loop-expr l = l.parts.items ≡ map (infer (names_seen l.names)) (take l.expr-index l.exprs)
