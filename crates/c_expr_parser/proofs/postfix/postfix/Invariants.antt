use Rattle.std.proofs.Common.{◌≡◌, ◌≤◌, length}
use Rattle.c_expr_parser.specs.Plans.{Postfix, reads}
use Rattle.c_expr_parser.proofs.postfix.postfix.Given as goal

abbrev pub invariant-loop-operator : goal.invariant-loop-operator
invariant-loop-operator l =
    (reads (Postfix l.depth l.fn.first) l.tokens ≡ reads (Postfix l.depth l.a) l.rest) × (length l.rest ≤ length l.tokens)

abbrev pub decreases-loop-operator : goal.decreases-loop-operator
decreases-loop-operator l = length l.rest
