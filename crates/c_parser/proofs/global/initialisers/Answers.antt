use Rattle.std.proofs.Common.{◌≡◌, ◌∷◌, ◌++◌, [], refl, sym, ap, ◌∙◌, arith, length, append-nil}
use Rattle.std.specs.Prelude.{codes}
use Rattle.c_lexer.specs.declared.token.TokenKind.TheVariants.{Punctuator}
use Rattle.c_expr_parser.specs.Tables.{is}
use Rattle.c_parser.specs.TextPlans.{Give, Want, MoreValues, AfterComma, values, as_values, punctuator, text_parsed}
use Rattle.c_parser.specs.Parts.{values_then}
use Rattle.c_parser.proofs.SignsByFirstToken.{sign_none, shifted}
use Rattle.c_parser.proofs.ListLoops.{more_values}
use Rattle.c_parser.proofs.ListContinuations.{values_last, values_next}
use Rattle.c_parser.proofs.FunctionReturns.{through_of, through_conditional, hands_of, hands_conditional}
use Rattle.c_parser.proofs.global.initialisers.Goals as goal

pub returns-in_err-rest-clause-reads : goal.returns-in_err-rest-clause-reads
returns-in_err-rest-clause-reads c k =
    let e1 : text_parsed (values_then k) c.args.tokens.now ≡ _ = refl in
    hands_of _ c.from_residual.result c.in_err-rest.field-0.0 _ _ _ c.from_residual.ensures.1 (e1) c.in_err-rest.ensures.reads

pub returns-in_err-first-clause-reads : goal.returns-in_err-first-clause-reads
returns-in_err-first-clause-reads c k =
    let e1 : text_parsed (values_then k) c.args.tokens.now ≡ _ = refl in
    hands_conditional _ c.from_residual-in_err-first.result c.in_err-first.field-0.0 1 (λ e. Want (MoreValues 1) (λ more. punctuator (codes "}") 0 (k (e ∷ as_values more)))) _ c.from_residual-in_err-first.ensures.1 (through_of _ _ _ (e1) c.in_ok-rest.ensures.reads) c.in_err-first.ensures.reads

pub loop-behind-init : goal.loop-behind-init
loop-behind-init c =
    record { reads = λ k. (let e1 : text_parsed (values_then k) c.args.tokens.now ≡ _ = refl in through_conditional 1 (λ e. Want (MoreValues 1) (λ more. punctuator (codes "}") 0 (k (e ∷ as_values more)))) _ (through_of _ _ _ (e1) c.in_ok-rest.ensures.reads) c.in_ok-first.ensures.reads ∙ ap (λ l. text_parsed (more_values l k) c.in_ok-first.behind.now) (sym (c.in_ok-push.ensures ∙ ap (λ l. l ++ c.into_inner.result ∷ []) c.new-list.ensures.items ∙ ap (λ x. x ∷ []) c.into_inner.ensures))); within = omega (arith, c.in_ok-rest.ensures.within, c.in_ok-first.ensures.within) }

pub returns-in-Some-skip-clause-reads : goal.returns-in-Some-skip-clause-reads
returns-in-Some-skip-clause-reads c k =
    c.loop-behind.invariant.reads k ∙ values_last c.loop-behind.list.items k _ _ _ c.in-Some.ensures c.in-Some-skip.ensures ∙ ap (λ l. text_parsed (k l) c.in-Some-skip.end.now) (sym c.of.ensures)

pub returns-in_err-next-clause-reads : goal.returns-in_err-next-clause-reads
returns-in_err-next-clause-reads c k =
    hands_conditional _ c.from_residual-in_err-next.result c.in_err-next.field-0.0 1 (λ e. Want (MoreValues 1) (λ more. punctuator (codes "}") 0 (k (c.loop-behind.list.items ++ e ∷ as_values more)))) _ c.from_residual-in_err-next.ensures.1 (c.loop-behind.invariant.reads k ∙ values_next c.loop-behind.list.items k _ _ c.in-Some.ensures c.in_default-skip.ensures) c.in_err-next.ensures.reads

pub loop-behind-preserved : goal.loop-behind-preserved
loop-behind-preserved c =
    record { reads = λ k. through_conditional 1 (λ e. Want (MoreValues 1) (λ more. punctuator (codes "}") 0 (k (c.loop-behind.list.items ++ e ∷ as_values more)))) _ (c.loop-behind.invariant.reads k ∙ values_next c.loop-behind.list.items k _ _ c.in-Some.ensures c.in_default-skip.ensures) c.in_ok-next.ensures.reads ∙ shifted (MoreValues 1) c.loop-behind.list.items c.in_ok-next.next.expr (λ more. as_values more) (λ l. punctuator (codes "}") 0 (k l)) _ _ (c.in_ok-push-2.ensures ∙ ap (λ x. c.loop-behind.list.items ++ x ∷ []) c.into_inner-in-Some.ensures); within = omega (arith, c.loop-behind.invariant.within, c.in_ok-next.ensures.within, ap length c.in-Some.ensures.1) }

pub returns-in_err-rest-2-clause-reads : goal.returns-in_err-rest-2-clause-reads
returns-in_err-rest-2-clause-reads c k =
    hands_of _ c.from_residual-in_err-rest-2.result c.in_err-rest-2.field-0.0 _ _ _ c.from_residual-in_err-rest-2.ensures.1 (c.loop-behind.invariant.reads k ∙ sign_none (MoreValues 1) (is Punctuator (codes ",")) (Want (AfterComma 1) Give) (λ more. punctuator (codes "}") 0 (k (c.loop-behind.list.items ++ as_values more))) (values []) _ (λ t. refl) refl c.in_default.ensures ∙ ap (λ l. text_parsed (punctuator (codes "}") 0 (k l)) c.loop-behind.rest.now) (append-nil _)) c.in_err-rest-2.ensures.reads

pub returns-clause-reads : goal.returns-clause-reads
returns-clause-reads c k =
    through_of _ _ _ (c.loop-behind.invariant.reads k ∙ sign_none (MoreValues 1) (is Punctuator (codes ",")) (Want (AfterComma 1) Give) (λ more. punctuator (codes "}") 0 (k (c.loop-behind.list.items ++ as_values more))) (values []) _ (λ t. refl) refl c.in_default.ensures ∙ ap (λ l. text_parsed (punctuator (codes "}") 0 (k l)) c.loop-behind.rest.now) (append-nil _)) c.in_ok-rest-2.ensures.reads ∙ ap (λ l. text_parsed (k l) c.in_ok-rest-2.rest.now) (sym c.of-2.ensures)
