use Rattle.std.proofs.Common.{◌≡◌, ◌∷◌, [], refl, sym, ap, ◌∙◌}
use Rattle.std.specs.Prelude.{codes}
use Rattle.c_tree.specs.declared.def.DefKind.TheVariants as kind
use Rattle.c_expr_parser.specs.Definitions.{def}
use Rattle.c_parser.specs.TextPlans.{Give, made, punctuator, found, text_parsed}
use Rattle.c_parser.specs.Parts.{global_transformer_plan}
use Rattle.c_parser.proofs.PlanResults.{parsed_give}
use Rattle.c_parser.proofs.FunctionReturns.{through_of, through_conditional, hands_of, hands_conditional}
use Rattle.c_parser.proofs.transformer.global_transformer.Goals as goal

pub returns-in_err-global-clause-reads : goal.returns-in_err-global-clause-reads
returns-in_err-global-clause-reads c =
    let e1 : text_parsed (global_transformer_plan c.args.start) c.args.tokens.now ≡ _ = refl in
    hands_of _ c.from_residual.result c.in_err-global.field-0.0 _ _ _ c.from_residual.ensures.1 (e1) c.in_err-global.ensures.reads

pub returns-in_err-rest-clause-reads : goal.returns-in_err-rest-clause-reads
returns-in_err-rest-clause-reads c =
    let e1 : text_parsed (global_transformer_plan c.args.start) c.args.tokens.now ≡ _ = refl in
    hands_of _ c.from_residual-in_err-rest.result c.in_err-rest.field-0.0 _ _ _ c.from_residual-in_err-rest.ensures.1 (through_of _ _ _ (e1) c.in_ok-global.ensures.reads) c.in_err-rest.ensures.reads

pub returns-in_err-value-clause-reads : goal.returns-in_err-value-clause-reads
returns-in_err-value-clause-reads c =
    let e1 : text_parsed (global_transformer_plan c.args.start) c.args.tokens.now ≡ _ = refl in
    hands_conditional _ c.from_residual-in_err-value.result c.in_err-value.field-0.0 0 (λ e. punctuator (codes ";") 0 (Give (made (λ n. def c.args.start (kind.TransformGlobal c.in_ok-global.global e) ∷ [])))) _ c.from_residual-in_err-value.ensures.1 (through_of _ _ _ (through_of _ _ _ (e1) c.in_ok-global.ensures.reads) c.in_ok-rest.ensures.reads) c.in_err-value.ensures.reads

pub returns-in_err-rest-2-clause-reads : goal.returns-in_err-rest-2-clause-reads
returns-in_err-rest-2-clause-reads c =
    let e1 : text_parsed (global_transformer_plan c.args.start) c.args.tokens.now ≡ _ = refl in
    hands_of _ c.from_residual-in_err-rest-2.result c.in_err-rest-2.field-0.0 _ _ _ c.from_residual-in_err-rest-2.ensures.1 (through_conditional 0 (λ e. punctuator (codes ";") 0 (Give (made (λ n. def c.args.start (kind.TransformGlobal c.in_ok-global.global e) ∷ [])))) _ (through_of _ _ _ (through_of _ _ _ (e1) c.in_ok-global.ensures.reads) c.in_ok-rest.ensures.reads) c.in_ok-value.ensures.reads) c.in_err-rest-2.ensures.reads

pub returns-clause-reads : goal.returns-clause-reads
returns-clause-reads c =
    let e1 : text_parsed (global_transformer_plan c.args.start) c.args.tokens.now ≡ _ = refl in
    through_of _ _ _ (through_conditional 0 (λ e. punctuator (codes ";") 0 (Give (made (λ n. def c.args.start (kind.TransformGlobal c.in_ok-global.global e) ∷ [])))) _ (through_of _ _ _ (through_of _ _ _ (e1) c.in_ok-global.ensures.reads) c.in_ok-rest.ensures.reads) c.in_ok-value.ensures.reads) c.in_ok-rest-2.ensures.reads ∙ parsed_give _ _ ∙ ap (λ e. found (made (λ n. def c.args.start (kind.TransformGlobal c.in_ok-global.global e) ∷ [])) c.in_ok-rest-2.rest.now) (sym c.into_inner.ensures)
