use Rattle.std.proofs.Common.{◌∷◌, [], ◌∙◌}
use Rattle.std.specs.Prelude.{codes}
use Rattle.c_tree.specs.declared.def.DefKind.TheVariants as kind
use Rattle.c_expr_parser.specs.Definitions.{def}
use Rattle.c_parser.specs.TextPlans.{Give, made, punctuator}
use Rattle.c_parser.proofs.PlanResults.{parsed_give}
use Rattle.c_parser.proofs.ItemContinuations.{transformed_struct, transformed_global}
use Rattle.c_parser.proofs.FunctionReturns.{through_of, hands, hands_of, tail_call}
use Rattle.c_parser.proofs.transformer.transformer.Goals as goal

pub returns-in_default-clause-reads : goal.returns-in_default-clause-reads
returns-in_default-clause-reads c =
    tail_call _ _ (transformed_global c.args.start _ c.in_default.ensures) c.global_transformer.ensures.reads

pub returns-in_err-tag-clause-reads : goal.returns-in_err-tag-clause-reads
returns-in_err-tag-clause-reads c =
    hands_of _ c.from_residual.result c.in_err-tag.field-0.0 _ _ _ c.from_residual.ensures.1 (transformed_struct c.args.start _ _ c.in-Some.ensures) c.in_err-tag.ensures.reads

pub returns-in_err-rest-clause-reads : goal.returns-in_err-rest-clause-reads
returns-in_err-rest-clause-reads c =
    hands_of _ c.from_residual-in_err-rest.result c.in_err-rest.field-0.0 _ _ _ c.from_residual-in_err-rest.ensures.1 (through_of _ _ _ (transformed_struct c.args.start _ _ c.in-Some.ensures) c.in_ok-tag.ensures.reads) c.in_err-rest.ensures.reads

pub returns-in_err-values-clause-reads : goal.returns-in_err-values-clause-reads
returns-in_err-values-clause-reads c =
    hands _ c.from_residual-in_err-values.result c.in_err-values.field-0.0 c.from_residual-in_err-values.ensures.1 (through_of _ _ _ (through_of _ _ _ (transformed_struct c.args.start _ _ c.in-Some.ensures) c.in_ok-tag.ensures.reads) c.in_ok-rest.ensures.reads) (c.in_err-values.ensures.reads (λ us. punctuator (codes "}") 0 (Give (made (λ n. def c.args.start (kind.TransformStruct (record { name = c.in_ok-tag.tag; values = us })) ∷ [])))))

pub returns-in_err-rest-2-clause-reads : goal.returns-in_err-rest-2-clause-reads
returns-in_err-rest-2-clause-reads c =
    hands_of _ c.from_residual-in_err-rest-2.result c.in_err-rest-2.field-0.0 _ _ _ c.from_residual-in_err-rest-2.ensures.1 (through_of _ _ _ (through_of _ _ _ (transformed_struct c.args.start _ _ c.in-Some.ensures) c.in_ok-tag.ensures.reads) c.in_ok-rest.ensures.reads ∙ (c.in_ok-values.ensures.reads (λ us. punctuator (codes "}") 0 (Give (made (λ n. def c.args.start (kind.TransformStruct (record { name = c.in_ok-tag.tag; values = us })) ∷ [])))))) c.in_err-rest-2.ensures.reads

pub returns-clause-reads : goal.returns-clause-reads
returns-clause-reads c =
    through_of _ _ _ (through_of _ _ _ (through_of _ _ _ (transformed_struct c.args.start _ _ c.in-Some.ensures) c.in_ok-tag.ensures.reads) c.in_ok-rest.ensures.reads ∙ (c.in_ok-values.ensures.reads (λ us. punctuator (codes "}") 0 (Give (made (λ n. def c.args.start (kind.TransformStruct (record { name = c.in_ok-tag.tag; values = us })) ∷ [])))))) c.in_ok-rest-2.ensures.reads ∙ parsed_give _ _
