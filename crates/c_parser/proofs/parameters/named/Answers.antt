use Rattle.std.proofs.Common.{◌≡◌, ◌∷◌, ◌++◌, [], refl, sym, ap, ◌∙◌, arith, length, append-nil}
use Rattle.std.specs.Prelude.{codes}
use Rattle.c_lexer.specs.declared.token.TokenKind.TheVariants.{Punctuator}
use Rattle.c_tree.specs.declared.def.Parameters.TheVariants.{Named}
use Rattle.c_expr_parser.specs.Tables.{is}
use Rattle.c_parser.specs.TextPlans.{Give, Want, MoreParameters, parameters, bindings, as_bindings, type_then, name_then, found, text_parsed}
use Rattle.c_parser.specs.Parts.{named_plan}
use Rattle.c_parser.proofs.PlanResults.{parsed_give}
use Rattle.c_parser.proofs.SignsByFirstToken.{sign_none, sign_some, sign_deep, shifted}
use Rattle.c_parser.proofs.ListLoops.{more_parameters}
use Rattle.c_parser.proofs.FunctionReturns.{through_of, hands_of, sinks_on}
use Rattle.c_parser.proofs.parameters.named.Goals as goal

pub returns-in_err-first-clause-reads : goal.returns-in_err-first-clause-reads
returns-in_err-first-clause-reads c =
    let e1 : text_parsed (named_plan c.args.depth c.args.declared) c.args.tokens.now ≡ _ = refl in
    hands_of _ c.from_residual.result c.in_err-first.field-0.0 _ _ _ c.from_residual.ensures.1 (e1) c.in_err-first.ensures.reads

pub loop-behind-init : goal.loop-behind-init
loop-behind-init c =
    let e1 : text_parsed (named_plan c.args.depth c.args.declared) c.args.tokens.now ≡ _ = refl in
    let e1 : text_parsed (named_plan c.args.depth c.args.declared) c.args.tokens.now ≡ _ = refl in record { reads = through_of _ _ _ (e1) c.in_ok-first.ensures.reads ∙ ap (λ l. text_parsed (more_parameters c.args.depth l) c.in_ok-first.behind.now) (ap (λ l. l ++ record { declared = c.args.declared; name = c.in_ok-first.first } ∷ []) (sym c.new-list.ensures.items) ∙ sym c.in_ok-push.ensures); within = omega (arith, c.in_ok-first.ensures.within) }

pub returns-in_err-shallow-clause-reads : goal.returns-in_err-shallow-clause-reads
returns-in_err-shallow-clause-reads c =
    sinks_on _ c.from_residual-in_err-shallow.result c.in_err-shallow.field-0.0 c.from_residual-in_err-shallow.ensures.1 c.in_err-shallow.ensures.1 (c.loop-behind.invariant.reads ∙ sign_deep (MoreParameters c.args.depth) (is Punctuator (codes ",")) (type_then c.args.depth (λ ty. name_then c.args.depth (λ name. Want (MoreParameters c.args.depth) (λ more. Give (bindings (record { declared = ty; name = name } ∷ as_bindings more)))))) (λ more. Give (parameters (Named (c.loop-behind.list.items ++ as_bindings more)))) _ _ (λ t. refl) c.in-Some.ensures c.in_err-shallow.ensures.0)

pub returns-in_err-declared-clause-reads : goal.returns-in_err-declared-clause-reads
returns-in_err-declared-clause-reads c =
    hands_of _ c.from_residual-in_err-declared.result c.in_err-declared.field-0.0 _ _ _ c.from_residual-in_err-declared.ensures.1 (c.loop-behind.invariant.reads ∙ sign_some (MoreParameters c.args.depth) (is Punctuator (codes ",")) (type_then c.args.depth (λ ty. name_then c.args.depth (λ name. Want (MoreParameters c.args.depth) (λ more. Give (bindings (record { declared = ty; name = name } ∷ as_bindings more)))))) (λ more. Give (parameters (Named (c.loop-behind.list.items ++ as_bindings more)))) _ _ (λ t. refl) c.in-Some.ensures c.in_ok-shallow.ensures) c.in_err-declared.ensures.reads

pub returns-in_err-next-clause-reads : goal.returns-in_err-next-clause-reads
returns-in_err-next-clause-reads c =
    hands_of _ c.from_residual-in_err-next.result c.in_err-next.field-0.0 _ _ _ c.from_residual-in_err-next.ensures.1 (through_of _ _ _ (c.loop-behind.invariant.reads ∙ sign_some (MoreParameters c.args.depth) (is Punctuator (codes ",")) (type_then c.args.depth (λ ty. name_then c.args.depth (λ name. Want (MoreParameters c.args.depth) (λ more. Give (bindings (record { declared = ty; name = name } ∷ as_bindings more)))))) (λ more. Give (parameters (Named (c.loop-behind.list.items ++ as_bindings more)))) _ _ (λ t. refl) c.in-Some.ensures c.in_ok-shallow.ensures) c.in_ok-declared.ensures.reads) c.in_err-next.ensures.reads

pub loop-behind-preserved : goal.loop-behind-preserved
loop-behind-preserved c =
    record { reads = through_of _ _ _ (through_of _ _ _ (c.loop-behind.invariant.reads ∙ sign_some (MoreParameters c.args.depth) (is Punctuator (codes ",")) (type_then c.args.depth (λ ty. name_then c.args.depth (λ name. Want (MoreParameters c.args.depth) (λ more. Give (bindings (record { declared = ty; name = name } ∷ as_bindings more)))))) (λ more. Give (parameters (Named (c.loop-behind.list.items ++ as_bindings more)))) _ _ (λ t. refl) c.in-Some.ensures c.in_ok-shallow.ensures) c.in_ok-declared.ensures.reads) c.in_ok-next.ensures.reads ∙ shifted (MoreParameters c.args.depth) c.loop-behind.list.items (record { declared = c.in_ok-declared.declared; name = c.in_ok-next.next }) (λ more. as_bindings more) (λ l. Give (parameters (Named l))) _ _ c.in_ok-push-2.ensures; within = omega (arith, c.loop-behind.invariant.within, c.in_ok-declared.ensures.within, c.in_ok-next.ensures.within, ap length c.in-Some.ensures.1) }

pub returns-clause-reads : goal.returns-clause-reads
returns-clause-reads c =
    c.loop-behind.invariant.reads ∙ sign_none (MoreParameters c.args.depth) (is Punctuator (codes ",")) (type_then c.args.depth (λ ty. name_then c.args.depth (λ name. Want (MoreParameters c.args.depth) (λ more. Give (bindings (record { declared = ty; name = name } ∷ as_bindings more)))))) (λ more. Give (parameters (Named (c.loop-behind.list.items ++ as_bindings more)))) (bindings []) _ (λ t. refl) refl c.in_default.ensures ∙ parsed_give _ _ ∙ ap (λ l. found (parameters (Named l)) c.loop-behind.rest.now) (append-nil _ ∙ sym c.of.ensures)
