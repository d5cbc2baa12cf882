use Rattle.std.proofs.Common.{◌≡◌, ◌++◌, [], refl, ap, ◌∙◌, arith, length, append-nil}
use Rattle.std.specs.Prelude.{codes}
use Rattle.c_lexer.specs.declared.token.TokenKind.TheVariants.{Punctuator}
use Rattle.c_expr_parser.specs.Tables.{is}
use Rattle.c_parser.specs.TextPlans.{Give, MoreNames, bindings, as_bindings, punctuator, names, star_then, then_text, text_parsed}
use Rattle.c_parser.specs.Parts.{names_then}
use Rattle.c_parser.proofs.SignsByFirstToken.{sign_none, sign_some, sign_deep, then_star, shifted}
use Rattle.c_parser.proofs.FunctionReturns.{through_of, hands, hands_of, sinks_on}
use Rattle.c_parser.proofs.members.member_names.Goals as goal

pub returns-in_err-first-clause-reads : goal.returns-in_err-first-clause-reads
returns-in_err-first-clause-reads c k =
    let e1 : text_parsed (names_then c.args.depth c.args.declared.now (λ bs. k (c.args.before.items ++ bs))) c.args.tokens.now ≡ _ = refl in
    hands_of _ c.from_residual.result c.in_err-first.field-0.0 _ _ _ c.from_residual.ensures.1 (e1) c.in_err-first.ensures.reads

pub loop-after_comma-init : goal.loop-after_comma-init
loop-after_comma-init c =
    record { reads = λ k. (let e1 : text_parsed (names_then c.args.depth c.args.declared.now (λ bs. k (c.args.before.items ++ bs))) c.args.tokens.now ≡ _ = refl in through_of _ _ _ (e1) c.in_ok-first.ensures.reads ∙ shifted (MoreNames c.args.depth c.args.declared.now) c.args.before.items (record { declared = c.args.declared.now; name = c.in_ok-first.first }) (λ more. as_bindings more) (λ l. punctuator (codes ";") c.args.depth (k l)) _ _ c.in_ok-push_member.ensures); within = omega (arith, c.in_ok-first.ensures.within) }

pub returns-in_err-shallow-clause-reads : goal.returns-in_err-shallow-clause-reads
returns-in_err-shallow-clause-reads c k =
    sinks_on _ c.from_residual-in_err-shallow.result c.in_err-shallow.field-0.0 c.from_residual-in_err-shallow.ensures.1 c.in_err-shallow.ensures.1 (c.loop-after_comma.invariant.reads k ∙ sign_deep (MoreNames c.args.depth c.args.declared.now) (is Punctuator (codes ",")) (star_then c.args.depth c.args.declared.now (names c.args.depth c.args.declared.now (λ bs. Give (bindings bs)))) (λ more. punctuator (codes ";") c.args.depth (k (c.loop-after_comma.list.items ++ as_bindings more))) _ _ (λ t. refl) c.in-Some.ensures c.in_err-shallow.ensures.0)

pub returns-in_err-after_star-clause-reads : goal.returns-in_err-after_star-clause-reads
returns-in_err-after_star-clause-reads c k =
    hands _ c.from_residual-in_err-after_star.result c.in_err-after_star.field-0.0 c.from_residual-in_err-after_star.ensures.1 (c.loop-after_comma.invariant.reads k ∙ sign_some (MoreNames c.args.depth c.args.declared.now) (is Punctuator (codes ",")) (star_then c.args.depth c.args.declared.now (names c.args.depth c.args.declared.now (λ bs. Give (bindings bs)))) (λ more. punctuator (codes ";") c.args.depth (k (c.loop-after_comma.list.items ++ as_bindings more))) _ _ (λ t. refl) c.in-Some.ensures c.in_ok-shallow.ensures ∙ ap (λ p. text_parsed p c.in-Some.after_comma.now) (then_star c.args.depth c.args.declared.now (names c.args.depth c.args.declared.now (λ bs. Give (bindings bs))) (λ more. punctuator (codes ";") c.args.depth (k (c.loop-after_comma.list.items ++ as_bindings more))))) (c.in_err-after_star.ensures.reads (then_text (names c.args.depth c.args.declared.now (λ bs. Give (bindings bs))) (λ more. punctuator (codes ";") c.args.depth (k (c.loop-after_comma.list.items ++ as_bindings more)))))

pub returns-in_err-next-clause-reads : goal.returns-in_err-next-clause-reads
returns-in_err-next-clause-reads c k =
    hands_of _ c.from_residual-in_err-next.result c.in_err-next.field-0.0 _ _ _ c.from_residual-in_err-next.ensures.1 (c.loop-after_comma.invariant.reads k ∙ sign_some (MoreNames c.args.depth c.args.declared.now) (is Punctuator (codes ",")) (star_then c.args.depth c.args.declared.now (names c.args.depth c.args.declared.now (λ bs. Give (bindings bs)))) (λ more. punctuator (codes ";") c.args.depth (k (c.loop-after_comma.list.items ++ as_bindings more))) _ _ (λ t. refl) c.in-Some.ensures c.in_ok-shallow.ensures ∙ ap (λ p. text_parsed p c.in-Some.after_comma.now) (then_star c.args.depth c.args.declared.now (names c.args.depth c.args.declared.now (λ bs. Give (bindings bs))) (λ more. punctuator (codes ";") c.args.depth (k (c.loop-after_comma.list.items ++ as_bindings more)))) ∙ (c.in_ok-after_star.ensures.reads (then_text (names c.args.depth c.args.declared.now (λ bs. Give (bindings bs))) (λ more. punctuator (codes ";") c.args.depth (k (c.loop-after_comma.list.items ++ as_bindings more)))))) c.in_err-next.ensures.reads

pub loop-after_comma-preserved : goal.loop-after_comma-preserved
loop-after_comma-preserved c =
    record { reads = λ k. through_of _ _ _ (c.loop-after_comma.invariant.reads k ∙ sign_some (MoreNames c.args.depth c.args.declared.now) (is Punctuator (codes ",")) (star_then c.args.depth c.args.declared.now (names c.args.depth c.args.declared.now (λ bs. Give (bindings bs)))) (λ more. punctuator (codes ";") c.args.depth (k (c.loop-after_comma.list.items ++ as_bindings more))) _ _ (λ t. refl) c.in-Some.ensures c.in_ok-shallow.ensures ∙ ap (λ p. text_parsed p c.in-Some.after_comma.now) (then_star c.args.depth c.args.declared.now (names c.args.depth c.args.declared.now (λ bs. Give (bindings bs))) (λ more. punctuator (codes ";") c.args.depth (k (c.loop-after_comma.list.items ++ as_bindings more)))) ∙ (c.in_ok-after_star.ensures.reads (then_text (names c.args.depth c.args.declared.now (λ bs. Give (bindings bs))) (λ more. punctuator (codes ";") c.args.depth (k (c.loop-after_comma.list.items ++ as_bindings more)))))) c.in_ok-next.ensures.reads ∙ shifted (MoreNames c.args.depth c.args.declared.now) c.loop-after_comma.list.items (record { declared = c.args.declared.now; name = c.in_ok-next.next }) (λ more. as_bindings more) (λ l. punctuator (codes ";") c.args.depth (k l)) _ _ c.in_ok-push_member-2.ensures; within = omega (arith, c.loop-after_comma.invariant.within, c.in_ok-after_star.ensures.within, c.in_ok-next.ensures.within, ap length c.in-Some.ensures.1) }

pub returns-in_err-rest-clause-reads : goal.returns-in_err-rest-clause-reads
returns-in_err-rest-clause-reads c k =
    hands_of _ c.from_residual-in_err-rest.result c.in_err-rest.field-0.0 _ _ _ c.from_residual-in_err-rest.ensures.1 (c.loop-after_comma.invariant.reads k ∙ sign_none (MoreNames c.args.depth c.args.declared.now) (is Punctuator (codes ",")) (star_then c.args.depth c.args.declared.now (names c.args.depth c.args.declared.now (λ bs. Give (bindings bs)))) (λ more. punctuator (codes ";") c.args.depth (k (c.loop-after_comma.list.items ++ as_bindings more))) (bindings []) _ (λ t. refl) refl c.in_default.ensures ∙ ap (λ l. text_parsed (punctuator (codes ";") c.args.depth (k l)) c.loop-after_comma.rest.now) (append-nil _)) c.in_err-rest.ensures.reads

pub returns-clause-reads : goal.returns-clause-reads
returns-clause-reads c k =
    through_of _ _ _ (c.loop-after_comma.invariant.reads k ∙ sign_none (MoreNames c.args.depth c.args.declared.now) (is Punctuator (codes ",")) (star_then c.args.depth c.args.declared.now (names c.args.depth c.args.declared.now (λ bs. Give (bindings bs)))) (λ more. punctuator (codes ";") c.args.depth (k (c.loop-after_comma.list.items ++ as_bindings more))) (bindings []) _ (λ t. refl) refl c.in_default.ensures ∙ ap (λ l. text_parsed (punctuator (codes ";") c.args.depth (k l)) c.loop-after_comma.rest.now) (append-nil _)) c.in_ok-rest.ensures.reads
