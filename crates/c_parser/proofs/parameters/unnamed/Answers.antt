use Rattle.std.proofs.Common.{◌∷◌, ◌++◌, [], refl, sym, ap, ◌∙◌, arith, length, append-nil}
use Rattle.std.specs.Prelude.{codes}
use Rattle.c_lexer.specs.declared.token.TokenKind.TheVariants.{Punctuator}
use Rattle.c_tree.specs.declared.def.Parameters.TheVariants.{Unnamed}
use Rattle.c_expr_parser.specs.Tables.{is}
use Rattle.c_parser.specs.TextPlans.{Give, Want, MoreTypes, parameters, types, as_types, type_then, found, text_parsed}
use Rattle.c_parser.proofs.PlanResults.{parsed_give}
use Rattle.c_parser.proofs.SignsByFirstToken.{sign_none, sign_some, sign_deep, shifted}
use Rattle.c_parser.proofs.ListLoops.{more_types}
use Rattle.c_parser.proofs.FunctionReturns.{through_of, hands_of, sinks_on}
use Rattle.c_parser.proofs.parameters.unnamed.Goals as goal

pub loop-behind-init : goal.loop-behind-init
loop-behind-init c =
    record { reads = ap (λ l. text_parsed (more_types c.args.depth l) c.args.tokens.now) (ap (λ l. l ++ c.args.declared ∷ []) (sym c.new-list.ensures.items) ∙ sym c.in_ok-push.ensures); within = omega arith }

pub returns-in_err-shallow-clause-reads : goal.returns-in_err-shallow-clause-reads
returns-in_err-shallow-clause-reads c =
    sinks_on _ c.from_residual-in_err-shallow.result c.in_err-shallow.field-0.0 c.from_residual-in_err-shallow.ensures.1 c.in_err-shallow.ensures.1 (c.loop-behind.invariant.reads ∙ sign_deep (MoreTypes c.args.depth) (is Punctuator (codes ",")) (type_then c.args.depth (λ ty. Want (MoreTypes c.args.depth) (λ more. Give (types (ty ∷ as_types more))))) (λ more. Give (parameters (Unnamed (c.loop-behind.list.items ++ as_types more)))) _ _ (λ t. refl) c.in-Some.ensures c.in_err-shallow.ensures.0)

pub returns-in_err-next-clause-reads : goal.returns-in_err-next-clause-reads
returns-in_err-next-clause-reads c =
    hands_of _ c.from_residual-in_err-next.result c.in_err-next.field-0.0 _ _ _ c.from_residual-in_err-next.ensures.1 (c.loop-behind.invariant.reads ∙ sign_some (MoreTypes c.args.depth) (is Punctuator (codes ",")) (type_then c.args.depth (λ ty. Want (MoreTypes c.args.depth) (λ more. Give (types (ty ∷ as_types more))))) (λ more. Give (parameters (Unnamed (c.loop-behind.list.items ++ as_types more)))) _ _ (λ t. refl) c.in-Some.ensures c.in_ok-shallow.ensures) c.in_err-next.ensures.reads

pub loop-behind-preserved : goal.loop-behind-preserved
loop-behind-preserved c =
    record { reads = through_of _ _ _ (c.loop-behind.invariant.reads ∙ sign_some (MoreTypes c.args.depth) (is Punctuator (codes ",")) (type_then c.args.depth (λ ty. Want (MoreTypes c.args.depth) (λ more. Give (types (ty ∷ as_types more))))) (λ more. Give (parameters (Unnamed (c.loop-behind.list.items ++ as_types more)))) _ _ (λ t. refl) c.in-Some.ensures c.in_ok-shallow.ensures) c.in_ok-next.ensures.reads ∙ shifted (MoreTypes c.args.depth) c.loop-behind.list.items c.in_ok-next.next (λ more. as_types more) (λ l. Give (parameters (Unnamed l))) _ _ c.in_ok-push-2.ensures; within = omega (arith, c.loop-behind.invariant.within, c.in_ok-next.ensures.within, ap length c.in-Some.ensures.1) }

pub returns-clause-reads : goal.returns-clause-reads
returns-clause-reads c =
    c.loop-behind.invariant.reads ∙ sign_none (MoreTypes c.args.depth) (is Punctuator (codes ",")) (type_then c.args.depth (λ ty. Want (MoreTypes c.args.depth) (λ more. Give (types (ty ∷ as_types more))))) (λ more. Give (parameters (Unnamed (c.loop-behind.list.items ++ as_types more)))) (types []) _ (λ t. refl) refl c.in_default.ensures ∙ parsed_give _ _ ∙ ap (λ l. found (parameters (Unnamed l)) c.loop-behind.rest.now) (append-nil _ ∙ sym c.of.ensures)
