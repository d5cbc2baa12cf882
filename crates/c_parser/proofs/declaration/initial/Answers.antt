use Rattle.std.proofs.Common.{Some, None, refl, sym, ap, ◌∙◌}
use Rattle.std.specs.Prelude.{codes}
use Rattle.c_lexer.specs.declared.token.TokenKind.TheVariants.{Punctuator}
use Rattle.c_expr_parser.specs.Tables.{is}
use Rattle.c_parser.specs.TextPlans.{Give, Initial, optional, expr_then, text_parsed}
use Rattle.c_parser.proofs.SignsByFirstToken.{sign_none, sign_some, sign_deep, then_expr}
use Rattle.c_parser.proofs.FunctionReturns.{through_expr, hands_expr, sinks_on}
use Rattle.c_parser.proofs.declaration.initial.Goals as goal

pub returns-in_default-clause-reads : goal.returns-in_default-clause-reads
returns-in_default-clause-reads c k =
    sign_none (Initial c.args.depth) (is Punctuator (codes "=")) (expr_then c.args.depth (λ e. Give (optional (Some e)))) k (optional None) _ (λ t. refl) refl c.in_default.ensures

pub returns-in_err-shallow-clause-reads : goal.returns-in_err-shallow-clause-reads
returns-in_err-shallow-clause-reads c k =
    sinks_on _ c.from_residual.result c.in_err-shallow.field-0.0 c.from_residual.ensures.1 c.in_err-shallow.ensures.1
    (sign_deep (Initial c.args.depth) (is Punctuator (codes "=")) (expr_then c.args.depth (λ e. Give (optional (Some e)))) k _ _ (λ t. refl) c.in-Some.ensures c.in_err-shallow.ensures.0)

pub returns-in_err-value-clause-reads : goal.returns-in_err-value-clause-reads
returns-in_err-value-clause-reads c k =
    hands_expr _ c.from_residual-in_err-value.result c.in_err-value.field-0.0 c.args.depth (λ e. k (optional (Some e))) _ c.from_residual-in_err-value.ensures.1
    (sign_some (Initial c.args.depth) (is Punctuator (codes "=")) (expr_then c.args.depth (λ e. Give (optional (Some e)))) k _ _ (λ t. refl) c.in-Some.ensures c.in_ok-shallow.ensures
    ∙ ap (λ p. text_parsed p c.in-Some.behind.now) (then_expr c.args.depth (λ e. Give (optional (Some e))) k))
    c.in_err-value.ensures.reads

pub returns-clause-reads : goal.returns-clause-reads
returns-clause-reads c k =
    through_expr c.args.depth (λ e. k (optional (Some e))) _
    (sign_some (Initial c.args.depth) (is Punctuator (codes "=")) (expr_then c.args.depth (λ e. Give (optional (Some e)))) k _ _ (λ t. refl) c.in-Some.ensures c.in_ok-shallow.ensures
    ∙ ap (λ p. text_parsed p c.in-Some.behind.now) (then_expr c.args.depth (λ e. Give (optional (Some e))) k))
    c.in_ok-value.ensures.reads
    ∙ ap (λ x. text_parsed (k (optional (Some x))) c.in_ok-value.rest.now) (sym c.into_inner.ensures)
