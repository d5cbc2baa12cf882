use Rattle.std.proofs.Common.{◌≡◌, drop, sym, subst, arith, length-drop}
use Rattle.c_expr_parser.specs.Plans.{operand, assignment, parsed, read, stuck, deep, Stops}
use Rattle.c_expr_parser.proofs.ExpressionAnswers.{stuck_left, deep_left}
use Rattle.c_expr_parser.proofs.parser.expression_at.Goals as goal

pub overflow_sub-result-in-Err-Stuck : goal.overflow_sub-result-in-Err-Stuck
overflow_sub-result-in-Err-Stuck c =
    let e : parsed (assignment c.args.depth) (drop c.args.at c.args.tokens.now) ≡ stuck c.in-Err-Stuck.left =
    subst (λ l. parsed (assignment c.args.depth) l ≡ stuck c.in-Err-Stuck.left) c.split_at.ensures.back
    (subst (λ s. Stops s (parsed (assignment c.args.depth) c.split_at.result.1.now)) c.in-Err-Stuck.field-0-is c.in-Err-Stuck.ensures.reads) in
    omega (arith, stuck_left c.args.depth (drop c.args.at c.args.tokens.now) e, length-drop c.args.at c.args.tokens.now)

pub overflow_sub-result-in-Err-Deep : goal.overflow_sub-result-in-Err-Deep
overflow_sub-result-in-Err-Deep c =
    let e : parsed (assignment c.args.depth) (drop c.args.at c.args.tokens.now) ≡ deep c.in-Err-Deep.left =
    subst (λ l. parsed (assignment c.args.depth) l ≡ deep c.in-Err-Deep.left) c.split_at.ensures.back
    (subst (λ s. Stops s (parsed (assignment c.args.depth) c.split_at.result.1.now)) c.in-Err-Deep.field-0-is c.in-Err-Deep.ensures.reads) in
    omega (arith, deep_left c.args.depth (drop c.args.at c.args.tokens.now) e, length-drop c.args.at c.args.tokens.now)

pub returns-in-Ok : goal.returns-in-Ok
returns-in-Ok c = (
  operand c.in-Ok.operand,
  c.in-Ok.rest.now,
  subst (λ l. parsed (assignment c.args.depth) l ≡ read (operand c.in-Ok.operand) c.in-Ok.rest.now) c.split_at.ensures.back c.in-Ok.ensures.reads,
  sym c.into_inner.ensures,
  omega (arith, c.in-Ok.ensures.within, c.split_at.ensures.back_len),
)

pub returns-in-Err-Stuck : goal.returns-in-Err-Stuck
returns-in-Err-Stuck c =
    let e : parsed (assignment c.args.depth) (drop c.args.at c.args.tokens.now) ≡ stuck c.in-Err-Stuck.left =
    subst (λ l. parsed (assignment c.args.depth) l ≡ stuck c.in-Err-Stuck.left) c.split_at.ensures.back
    (subst (λ s. Stops s (parsed (assignment c.args.depth) c.split_at.result.1.now)) c.in-Err-Stuck.field-0-is c.in-Err-Stuck.ensures.reads) in
    (c.in-Err-Stuck.left, e, omega (arith, stuck_left c.args.depth (drop c.args.at c.args.tokens.now) e, length-drop c.args.at c.args.tokens.now))

pub returns-in-Err-Deep : goal.returns-in-Err-Deep
returns-in-Err-Deep c =
    let e : parsed (assignment c.args.depth) (drop c.args.at c.args.tokens.now) ≡ deep c.in-Err-Deep.left =
    subst (λ l. parsed (assignment c.args.depth) l ≡ deep c.in-Err-Deep.left) c.split_at.ensures.back
    (subst (λ s. Stops s (parsed (assignment c.args.depth) c.split_at.result.1.now)) c.in-Err-Deep.field-0-is c.in-Err-Deep.ensures.reads) in
    (c.in-Err-Deep.left, e, omega (arith, deep_left c.args.depth (drop c.args.at c.args.tokens.now) e, length-drop c.args.at c.args.tokens.now))
