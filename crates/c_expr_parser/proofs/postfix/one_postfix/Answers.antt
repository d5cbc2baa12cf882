use Rattle.std.proofs.Common.{sym, ap, ◌∙◌}
use Rattle.c_expr_parser.specs.Plans.{operand, one_postfix, parsed, read}
use Rattle.c_expr_parser.proofs.PlanResults.{parsed_then, parsed_return}
use Rattle.c_expr_parser.proofs.FunctionReturns.{Goes, through, hands_on}
use Rattle.c_expr_parser.proofs.postfix.one_postfix.Goals as goal

pub returns-in_err-field-in-Arrow-clause-reads : goal.returns-in_err-field-in-Arrow-clause-reads
returns-in_err-field-in-Arrow-clause-reads c =
    hands_on _ c.from_residual.result c.in_err-field-in-Arrow.field-0.0 c.from_residual.ensures.1
    (record { on = ap (λ op. parsed (one_postfix c.args.depth c.args.a op) c.args.tokens.now) c.in-Arrow.is ∙ parsed_then _ _ _ })
    c.in_err-field-in-Arrow.ensures.reads

pub returns-in_ok-arrow-in-Arrow-clause-reads : goal.returns-in_ok-arrow-in-Arrow-clause-reads
returns-in_ok-arrow-in-Arrow-clause-reads c =
    let goes : Goes (parsed (one_postfix c.args.depth c.args.a c.args.operator) c.args.tokens.now) _ _ =
    record { on = ap (λ op. parsed (one_postfix c.args.depth c.args.a op) c.args.tokens.now) c.in-Arrow.is ∙ parsed_then _ _ _ } in
    through goes c.in_ok-field-in-Arrow.ensures.reads
    ∙ parsed_return _ _ ∙ ap (λ x. read (operand x) c.in_ok-field-in-Arrow.rest.now) (sym c.in_ok-arrow-in-Arrow.ensures)

pub returns-in_err-field-in-Dot-clause-reads : goal.returns-in_err-field-in-Dot-clause-reads
returns-in_err-field-in-Dot-clause-reads c =
    hands_on _ c.from_residual-in_err-field-in-Dot.result c.in_err-field-in-Dot.field-0.0 c.from_residual-in_err-field-in-Dot.ensures.1
    (record { on = ap (λ op. parsed (one_postfix c.args.depth c.args.a op) c.args.tokens.now) c.in-Dot.is ∙ parsed_then _ _ _ })
    c.in_err-field-in-Dot.ensures.reads

pub returns-in_ok-dot-in-Dot-clause-reads : goal.returns-in_ok-dot-in-Dot-clause-reads
returns-in_ok-dot-in-Dot-clause-reads c =
    let goes : Goes (parsed (one_postfix c.args.depth c.args.a c.args.operator) c.args.tokens.now) _ _ =
    record { on = ap (λ op. parsed (one_postfix c.args.depth c.args.a op) c.args.tokens.now) c.in-Dot.is ∙ parsed_then _ _ _ } in
    through goes c.in_ok-field-in-Dot.ensures.reads
    ∙ parsed_return _ _ ∙ ap (λ x. read (operand x) c.in_ok-field-in-Dot.rest.now) (sym c.in_ok-dot-in-Dot.ensures)

pub returns-in_ok-step-in-Increment-clause-reads : goal.returns-in_ok-step-in-Increment-clause-reads
returns-in_ok-step-in-Increment-clause-reads c =
    ap (λ op. parsed (one_postfix c.args.depth c.args.a op) c.args.tokens.now) c.in-Increment.is ∙ parsed_return _ _
    ∙ ap (λ x. read (operand x) c.args.tokens.now) (sym c.in_ok-step-in-Increment.ensures)

pub returns-in_ok-step-in-Decrement-clause-reads : goal.returns-in_ok-step-in-Decrement-clause-reads
returns-in_ok-step-in-Decrement-clause-reads c =
    ap (λ op. parsed (one_postfix c.args.depth c.args.a op) c.args.tokens.now) c.in-Decrement.is ∙ parsed_return _ _
    ∙ ap (λ x. read (operand x) c.args.tokens.now) (sym c.in_ok-step-in-Decrement.ensures)
