use Rattle.std.proofs.Common.{◌≡◌, ◌∷◌, ◌++◌, [], refl, ap, ◌∙◌, arith, length, append-nil}
use Rattle.std.specs.Prelude.{codes}
use Rattle.c_lexer.specs.declared.token.TokenKind.TheVariants.{Punctuator}
use Rattle.c_expr_parser.specs.Tables.{is}
use Rattle.c_expr_parser.specs.Definitions.{defs}
use Rattle.c_parser.specs.TextPlans.{Give, Want, Global as GlobalWanted, MoreGlobals, globals, made, as_global, as_globals, punctuator, name_then, star_then, then_text, text_parsed}
use Rattle.c_parser.specs.Parts.{globals_plan}
use Rattle.c_parser.proofs.PlanResults.{parsed_give}
use Rattle.c_parser.proofs.SignsByFirstToken.{sign_none, sign_some, then_star, shifted}
use Rattle.c_parser.proofs.ListContinuations.{defs_more}
use Rattle.c_parser.proofs.FunctionReturns.{through, through_of, hands, hands_of, hands_want}
use Rattle.c_parser.proofs.global.globals.Goals as goal

pub returns-in_err-kind-clause-reads : goal.returns-in_err-kind-clause-reads
returns-in_err-kind-clause-reads c =
    let e1 : text_parsed (globals_plan c.args.start c.args.declared.now c.args.first) c.args.tokens.now ≡ _ = refl in
    hands_want _ c.from_residual.result c.in_err-kind.field-0.0 _ _ _ c.from_residual.ensures.1 (e1) c.in_err-kind.ensures.reads

pub loop-behind-init : goal.loop-behind-init
loop-behind-init c =
    record { reads = (let e1 : text_parsed (globals_plan c.args.start c.args.declared.now c.args.first) c.args.tokens.now ≡ _ = refl in (c.in_ok-kind.kind ∷ [], c.in_ok-push.ensures, through _ _ _ (e1) c.in_ok-kind.ensures.reads)); within = omega (arith, c.in_ok-kind.ensures.within) }

pub returns-in_err-behind-clause-reads : goal.returns-in_err-behind-clause-reads
returns-in_err-behind-clause-reads c =
    hands _ c.from_residual-in_err-behind.result c.in_err-behind.field-0.0 c.from_residual-in_err-behind.ensures.1 (c.loop-behind.invariant.reads.2 ∙ sign_some (MoreGlobals c.args.declared.now) (is Punctuator (codes ",")) (star_then 0 c.args.declared.now (name_then 0 (λ name. Want (GlobalWanted c.args.declared.now name) (λ g. Want (MoreGlobals c.args.declared.now) (λ more. Give (globals (as_global g ∷ as_globals more))))))) (λ more. punctuator (codes ";") 0 (Give (made (λ n. defs c.args.start (c.loop-behind.invariant.reads.0 ++ as_globals more))))) _ _ (λ t. refl) c.in-Some.ensures (omega arith) ∙ ap (λ p. text_parsed p c.in-Some.behind.now) (then_star 0 c.args.declared.now (name_then 0 (λ name. Want (GlobalWanted c.args.declared.now name) (λ g. Want (MoreGlobals c.args.declared.now) (λ more. Give (globals (as_global g ∷ as_globals more)))))) (λ more. punctuator (codes ";") 0 (Give (made (λ n. defs c.args.start (c.loop-behind.invariant.reads.0 ++ as_globals more))))))) (c.in_err-behind.ensures.reads (then_text (name_then 0 (λ name. Want (GlobalWanted c.args.declared.now name) (λ g. Want (MoreGlobals c.args.declared.now) (λ more. Give (globals (as_global g ∷ as_globals more)))))) (λ more. punctuator (codes ";") 0 (Give (made (λ n. defs c.args.start (c.loop-behind.invariant.reads.0 ++ as_globals more)))))))

pub returns-in_err-next-clause-reads : goal.returns-in_err-next-clause-reads
returns-in_err-next-clause-reads c =
    hands_of _ c.from_residual-in_err-next.result c.in_err-next.field-0.0 _ _ _ c.from_residual-in_err-next.ensures.1 (c.loop-behind.invariant.reads.2 ∙ sign_some (MoreGlobals c.args.declared.now) (is Punctuator (codes ",")) (star_then 0 c.args.declared.now (name_then 0 (λ name. Want (GlobalWanted c.args.declared.now name) (λ g. Want (MoreGlobals c.args.declared.now) (λ more. Give (globals (as_global g ∷ as_globals more))))))) (λ more. punctuator (codes ";") 0 (Give (made (λ n. defs c.args.start (c.loop-behind.invariant.reads.0 ++ as_globals more))))) _ _ (λ t. refl) c.in-Some.ensures (omega arith) ∙ ap (λ p. text_parsed p c.in-Some.behind.now) (then_star 0 c.args.declared.now (name_then 0 (λ name. Want (GlobalWanted c.args.declared.now name) (λ g. Want (MoreGlobals c.args.declared.now) (λ more. Give (globals (as_global g ∷ as_globals more)))))) (λ more. punctuator (codes ";") 0 (Give (made (λ n. defs c.args.start (c.loop-behind.invariant.reads.0 ++ as_globals more)))))) ∙ (c.in_ok-behind.ensures.reads (then_text (name_then 0 (λ name. Want (GlobalWanted c.args.declared.now name) (λ g. Want (MoreGlobals c.args.declared.now) (λ more. Give (globals (as_global g ∷ as_globals more)))))) (λ more. punctuator (codes ";") 0 (Give (made (λ n. defs c.args.start (c.loop-behind.invariant.reads.0 ++ as_globals more)))))))) c.in_err-next.ensures.reads

pub returns-in_err-kind-2-clause-reads : goal.returns-in_err-kind-2-clause-reads
returns-in_err-kind-2-clause-reads c =
    hands_want _ c.from_residual-in_err-kind-2.result c.in_err-kind-2.field-0.0 _ _ _ c.from_residual-in_err-kind-2.ensures.1 (through_of _ _ _ (c.loop-behind.invariant.reads.2 ∙ sign_some (MoreGlobals c.args.declared.now) (is Punctuator (codes ",")) (star_then 0 c.args.declared.now (name_then 0 (λ name. Want (GlobalWanted c.args.declared.now name) (λ g. Want (MoreGlobals c.args.declared.now) (λ more. Give (globals (as_global g ∷ as_globals more))))))) (λ more. punctuator (codes ";") 0 (Give (made (λ n. defs c.args.start (c.loop-behind.invariant.reads.0 ++ as_globals more))))) _ _ (λ t. refl) c.in-Some.ensures (omega arith) ∙ ap (λ p. text_parsed p c.in-Some.behind.now) (then_star 0 c.args.declared.now (name_then 0 (λ name. Want (GlobalWanted c.args.declared.now name) (λ g. Want (MoreGlobals c.args.declared.now) (λ more. Give (globals (as_global g ∷ as_globals more)))))) (λ more. punctuator (codes ";") 0 (Give (made (λ n. defs c.args.start (c.loop-behind.invariant.reads.0 ++ as_globals more)))))) ∙ (c.in_ok-behind.ensures.reads (then_text (name_then 0 (λ name. Want (GlobalWanted c.args.declared.now name) (λ g. Want (MoreGlobals c.args.declared.now) (λ more. Give (globals (as_global g ∷ as_globals more)))))) (λ more. punctuator (codes ";") 0 (Give (made (λ n. defs c.args.start (c.loop-behind.invariant.reads.0 ++ as_globals more)))))))) c.in_ok-next.ensures.reads) c.in_err-kind-2.ensures.reads

pub loop-behind-preserved : goal.loop-behind-preserved
loop-behind-preserved c =
    record { reads = (c.loop-behind.invariant.reads.0 ++ c.in_ok-kind-2.kind ∷ [], defs_more c.args.start c.args.before.items _ _ c.loop-behind.invariant.reads.0 c.in_ok-kind-2.kind c.loop-behind.invariant.reads.1 c.in_ok-push-2.ensures, through _ _ _ (through_of _ _ _ (c.loop-behind.invariant.reads.2 ∙ sign_some (MoreGlobals c.args.declared.now) (is Punctuator (codes ",")) (star_then 0 c.args.declared.now (name_then 0 (λ name. Want (GlobalWanted c.args.declared.now name) (λ g. Want (MoreGlobals c.args.declared.now) (λ more. Give (globals (as_global g ∷ as_globals more))))))) (λ more. punctuator (codes ";") 0 (Give (made (λ n. defs c.args.start (c.loop-behind.invariant.reads.0 ++ as_globals more))))) _ _ (λ t. refl) c.in-Some.ensures (omega arith) ∙ ap (λ p. text_parsed p c.in-Some.behind.now) (then_star 0 c.args.declared.now (name_then 0 (λ name. Want (GlobalWanted c.args.declared.now name) (λ g. Want (MoreGlobals c.args.declared.now) (λ more. Give (globals (as_global g ∷ as_globals more)))))) (λ more. punctuator (codes ";") 0 (Give (made (λ n. defs c.args.start (c.loop-behind.invariant.reads.0 ++ as_globals more)))))) ∙ (c.in_ok-behind.ensures.reads (then_text (name_then 0 (λ name. Want (GlobalWanted c.args.declared.now name) (λ g. Want (MoreGlobals c.args.declared.now) (λ more. Give (globals (as_global g ∷ as_globals more)))))) (λ more. punctuator (codes ";") 0 (Give (made (λ n. defs c.args.start (c.loop-behind.invariant.reads.0 ++ as_globals more)))))))) c.in_ok-next.ensures.reads) c.in_ok-kind-2.ensures.reads ∙ shifted (MoreGlobals c.args.declared.now) c.loop-behind.invariant.reads.0 c.in_ok-kind-2.kind (λ more. as_globals more) (λ l. punctuator (codes ";") 0 (Give (made (λ n. defs c.args.start l)))) _ _ refl); within = omega (arith, c.loop-behind.invariant.within, c.in_ok-behind.ensures.within, c.in_ok-next.ensures.within, c.in_ok-kind-2.ensures.within, ap length c.in-Some.ensures.1) }

pub returns-in_err-rest-clause-reads : goal.returns-in_err-rest-clause-reads
returns-in_err-rest-clause-reads c =
    hands_of _ c.from_residual-in_err-rest.result c.in_err-rest.field-0.0 _ _ _ c.from_residual-in_err-rest.ensures.1 (c.loop-behind.invariant.reads.2 ∙ sign_none (MoreGlobals c.args.declared.now) (is Punctuator (codes ",")) (star_then 0 c.args.declared.now (name_then 0 (λ name. Want (GlobalWanted c.args.declared.now name) (λ g. Want (MoreGlobals c.args.declared.now) (λ more. Give (globals (as_global g ∷ as_globals more))))))) (λ more. punctuator (codes ";") 0 (Give (made (λ n. defs c.args.start (c.loop-behind.invariant.reads.0 ++ as_globals more))))) (globals []) _ (λ t. refl) refl c.in_default.ensures ∙ ap (λ l. text_parsed (punctuator (codes ";") 0 (Give (made (λ n. defs c.args.start l)))) c.loop-behind.rest.now) (append-nil _)) c.in_err-rest.ensures.reads

pub returns-clause-reads : goal.returns-clause-reads
returns-clause-reads c =
    (defs c.args.start c.loop-behind.invariant.reads.0, through_of _ _ _ (c.loop-behind.invariant.reads.2 ∙ sign_none (MoreGlobals c.args.declared.now) (is Punctuator (codes ",")) (star_then 0 c.args.declared.now (name_then 0 (λ name. Want (GlobalWanted c.args.declared.now name) (λ g. Want (MoreGlobals c.args.declared.now) (λ more. Give (globals (as_global g ∷ as_globals more))))))) (λ more. punctuator (codes ";") 0 (Give (made (λ n. defs c.args.start (c.loop-behind.invariant.reads.0 ++ as_globals more))))) (globals []) _ (λ t. refl) refl c.in_default.ensures ∙ ap (λ l. text_parsed (punctuator (codes ";") 0 (Give (made (λ n. defs c.args.start l)))) c.loop-behind.rest.now) (append-nil _)) c.in_ok-rest.ensures.reads ∙ parsed_give _ _, c.loop-behind.invariant.reads.1)
