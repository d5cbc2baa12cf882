use Rattle.std.proofs.Common.{Some, None, refl, ap, ◌∙◌, arith}
use Rattle.std.specs.Prelude.{codes}
use Rattle.c_lexer.specs.declared.token.TokenKind.TheVariants.{Punctuator}
use Rattle.c_expr_parser.specs.Tables.{is}
use Rattle.c_parser.specs.TextPlans.{Give, ArrayInitial, listed, text_parsed}
use Rattle.c_parser.specs.Parts.{values_then}
use Rattle.c_parser.proofs.PlanResults.{parsed_give}
use Rattle.c_parser.proofs.SignsByFirstToken.{sign_none, sign_some}
use Rattle.c_parser.proofs.PhraseBeginnings.{then_give}
use Rattle.c_parser.proofs.FunctionReturns.{hands}
use Rattle.c_parser.proofs.global.array_initial.Goals as goal

pub returns-in_default-clause-reads : goal.returns-in_default-clause-reads
returns-in_default-clause-reads c =
    sign_none ArrayInitial (is Punctuator (codes "=")) (values_then (λ es. Give (listed (Some es)))) Give (listed None) _ (λ t. refl) refl c.in_default.ensures ∙ parsed_give _ _

pub returns-in_err-list-clause-reads : goal.returns-in_err-list-clause-reads
returns-in_err-list-clause-reads c =
    hands _ c.from_residual.result c.in_err-list.field-0.0 c.from_residual.ensures.1 (sign_some ArrayInitial (is Punctuator (codes "=")) (values_then (λ es. Give (listed (Some es)))) Give _ _ (λ t. refl) c.in-Some.ensures (omega arith) ∙ ap (λ p. text_parsed p c.in-Some.behind.now) (then_give (values_then (λ es. Give (listed (Some es)))))) (c.in_err-list.ensures.reads (λ es. Give (listed (Some es))))

pub returns-clause-reads : goal.returns-clause-reads
returns-clause-reads c =
    sign_some ArrayInitial (is Punctuator (codes "=")) (values_then (λ es. Give (listed (Some es)))) Give _ _ (λ t. refl) c.in-Some.ensures (omega arith) ∙ ap (λ p. text_parsed p c.in-Some.behind.now) (then_give (values_then (λ es. Give (listed (Some es))))) ∙ (c.in_ok-list.ensures.reads (λ es. Give (listed (Some es)))) ∙ parsed_give _ _
