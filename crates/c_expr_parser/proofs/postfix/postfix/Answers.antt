use Rattle.std.proofs.Common.{length, arith, ap, ◌∙◌}
use Rattle.c_expr_parser.specs.Plans.{Postfix, reads}
use Rattle.c_expr_parser.proofs.OperandContinuations.{postfix_some, postfix_none, postfix_deep}
use Rattle.c_expr_parser.proofs.FunctionReturns.{Goes, through, hands_on, sinks_on}
use Rattle.c_expr_parser.proofs.postfix.postfix.Goals as goal

pub returns-in_err-shallow-clause-reads : goal.returns-in_err-shallow-clause-reads
returns-in_err-shallow-clause-reads c =
    let f = c.in-Some.ensures in
    sinks_on _ c.from_residual.result c.in_err-shallow.field-0.0 c.from_residual.ensures.1 c.in_err-shallow.ensures.1
    (c.loop-operator.invariant.0 ∙ postfix_deep _ _ c.in-Some.operator f.0 _ _ f.1 f.2 c.in_err-shallow.ensures.0)

pub returns-in_err-b-clause-reads : goal.returns-in_err-b-clause-reads
returns-in_err-b-clause-reads c =
    let f = c.in-Some.ensures in
    hands_on _ c.from_residual-in_err-b.result c.in_err-b.field-0.0 c.from_residual-in_err-b.ensures.1
    (record { on = c.loop-operator.invariant.0 ∙ postfix_some _ _ c.in-Some.operator f.0 _ _ f.1 f.2 c.in_ok-shallow.ensures })
    c.in_err-b.ensures.reads

pub loop-operator-preserved : goal.loop-operator-preserved
loop-operator-preserved c =
    let f = c.in-Some.ensures in
    let goes : Goes (reads (Postfix c.args.depth c.args.first) c.args.tokens.now) _ _ =
    record { on = c.loop-operator.invariant.0 ∙ postfix_some _ _ c.in-Some.operator f.0 _ _ f.1 f.2 c.in_ok-shallow.ensures } in
    (through goes c.in_ok-b.ensures.reads, omega (arith, c.loop-operator.invariant.1, c.in_ok-b.ensures.within, ap length f.1))

pub returns-clause-reads : goal.returns-clause-reads
returns-clause-reads c = c.loop-operator.invariant.0 ∙ postfix_none _ _ _ c.in_default.ensures
