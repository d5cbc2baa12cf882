use Rattle.std.proofs.Common.{◌∷◌, ◌++◌, [], ap, ◌∙◌, arith, length}
use Rattle.std.specs.Prelude.{codes}
use Rattle.c_tree.specs.declared.def.DefKind.TheVariants as kind
use Rattle.c_expr_parser.specs.Definitions.{def}
use Rattle.c_parser.specs.TextPlans.{Give, made, punctuator}
use Rattle.c_parser.proofs.PlanResults.{parsed_give}
use Rattle.c_parser.proofs.ItemContinuations.{tagged_members, tagged_forward, tagged_star, makes_tail, makes_plain}
use Rattle.c_parser.proofs.FunctionReturns.{through_of, hands, hands_of}
use Rattle.c_parser.proofs.item.tagged.Goals as goal

pub returns-in_err-fields-clause-reads : goal.returns-in_err-fields-clause-reads
returns-in_err-fields-clause-reads c =
    hands _ c.from_residual.result c.in_err-fields.field-0.0 c.from_residual.ensures.1 (tagged_members c.args.start c.args.tag _ _ c.in-Some.ensures) (c.in_err-fields.ensures.reads (λ bs. punctuator (codes "}") 0 (punctuator (codes ";") 0 (Give (made (λ n. def c.args.start (kind.Struct c.args.tag bs) ∷ []))))))

pub returns-in_err-rest-clause-reads : goal.returns-in_err-rest-clause-reads
returns-in_err-rest-clause-reads c =
    hands_of _ c.from_residual-in_err-rest.result c.in_err-rest.field-0.0 _ _ _ c.from_residual-in_err-rest.ensures.1 (tagged_members c.args.start c.args.tag _ _ c.in-Some.ensures ∙ (c.in_ok-fields.ensures.reads (λ bs. punctuator (codes "}") 0 (punctuator (codes ";") 0 (Give (made (λ n. def c.args.start (kind.Struct c.args.tag bs) ∷ []))))))) c.in_err-rest.ensures.reads

pub returns-in_err-rest-2-clause-reads : goal.returns-in_err-rest-2-clause-reads
returns-in_err-rest-2-clause-reads c =
    hands_of _ c.from_residual-in_err-rest-2.result c.in_err-rest-2.field-0.0 _ _ _ c.from_residual-in_err-rest-2.ensures.1 (through_of _ _ _ (tagged_members c.args.start c.args.tag _ _ c.in-Some.ensures ∙ (c.in_ok-fields.ensures.reads (λ bs. punctuator (codes "}") 0 (punctuator (codes ";") 0 (Give (made (λ n. def c.args.start (kind.Struct c.args.tag bs) ∷ []))))))) c.in_ok-rest.ensures.reads) c.in_err-rest-2.ensures.reads

pub returns-in-Some-clause-reads : goal.returns-in-Some-clause-reads
returns-in-Some-clause-reads c =
    makes_plain _ _ _ (def c.args.start (kind.Struct c.args.tag c.in_ok-fields.fields) ∷ []) _ (through_of _ _ _ (through_of _ _ _ (tagged_members c.args.start c.args.tag _ _ c.in-Some.ensures ∙ (c.in_ok-fields.ensures.reads (λ bs. punctuator (codes "}") 0 (punctuator (codes ";") 0 (Give (made (λ n. def c.args.start (kind.Struct c.args.tag bs) ∷ []))))))) c.in_ok-rest.ensures.reads) c.in_ok-rest-2.ensures.reads ∙ parsed_give _ _) (omega (arith, c.requires, c.in_ok-fields.ensures.within, c.in_ok-rest.ensures.within, c.in_ok-rest-2.ensures.within, ap length c.in-Some.ensures.1)) (c.in_ok-push.ensures ∙ ap (λ x. c.args.before.items ++ x ∷ []) c.def_of.ensures)

pub returns-in-Some-skip-clause-reads : goal.returns-in-Some-skip-clause-reads
returns-in-Some-skip-clause-reads c =
    makes_plain _ _ _ (def c.args.start (kind.Forward c.args.tag) ∷ []) _ (tagged_forward c.args.start c.args.tag _ _ c.in_default.ensures c.in-Some-skip.ensures ∙ parsed_give _ _) (omega (arith, c.requires, ap length c.in-Some-skip.ensures.1)) (c.in_ok-push-2.ensures ∙ ap (λ x. c.args.before.items ++ x ∷ []) c.def_of-in-Some-skip.ensures)

pub returns-in_err-rest-3-clause-reads : goal.returns-in_err-rest-3-clause-reads
returns-in_err-rest-3-clause-reads c =
    hands_of _ c.from_residual-in_err-rest-3.result c.in_err-rest-3.field-0.0 _ _ _ c.from_residual-in_err-rest-3.ensures.1 (tagged_star c.args.start c.args.tag _ c.in_default.ensures c.in_default-skip.ensures) c.in_err-rest-3.ensures.reads

pub returns-clause-reads : goal.returns-clause-reads
returns-clause-reads c =
    makes_tail _ _ _ (λ x. x.0.items) (λ x. x.1.now) (through_of _ _ _ (tagged_star c.args.start c.args.tag _ c.in_default.ensures c.in_default-skip.ensures) c.in_ok-rest-3.ensures.reads) c.typed.ensures.reads
