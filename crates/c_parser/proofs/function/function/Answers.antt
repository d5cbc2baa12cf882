use Rattle.std.proofs.Common.{◌≡◌, ◌∷◌, ◌-◌, [], refl, ap, ◌∙◌, arith, length}
use Rattle.c_tree.specs.declared.def.Parameters.TheVariants.{Unnamed}
use Rattle.c_parser.specs.TextPlans.{function_by, prototype_made, text_parsed}
use Rattle.c_parser.specs.Parts.{function_plan}
use Rattle.c_parser.proofs.PlanResults.{parsed_give}
use Rattle.c_parser.proofs.ItemContinuations.{makes_tail}
use Rattle.c_parser.proofs.FunctionReturns.{through, through_of, hands_of, hands_want}
use Rattle.c_parser.proofs.function.function.Goals as goal

pub returns-in_err-rest-clause-reads : goal.returns-in_err-rest-clause-reads
returns-in_err-rest-clause-reads c =
    let e1 : text_parsed (function_plan c.args.start c.args.returned c.args.name) c.args.tokens.now ≡ _ = refl in
    hands_of _ c.from_residual.result c.in_err-rest.field-0.0 _ _ _ c.from_residual.ensures.1 (e1) c.in_err-rest.ensures.reads

pub returns-in_err-parameters-clause-reads : goal.returns-in_err-parameters-clause-reads
returns-in_err-parameters-clause-reads c =
    let e1 : text_parsed (function_plan c.args.start c.args.returned c.args.name) c.args.tokens.now ≡ _ = refl in
    hands_want _ c.from_residual-in_err-parameters.result c.in_err-parameters.field-0.0 _ _ _ c.from_residual-in_err-parameters.ensures.1 (through_of _ _ _ (e1) c.in_ok-rest.ensures.reads) c.in_err-parameters.ensures.reads

pub returns-in_err-rest-2-clause-reads : goal.returns-in_err-rest-2-clause-reads
returns-in_err-rest-2-clause-reads c =
    let e1 : text_parsed (function_plan c.args.start c.args.returned c.args.name) c.args.tokens.now ≡ _ = refl in
    hands_of _ c.from_residual-in_err-rest-2.result c.in_err-rest-2.field-0.0 _ _ _ c.from_residual-in_err-rest-2.ensures.1 (through _ _ _ (through_of _ _ _ (e1) c.in_ok-rest.ensures.reads) c.in_ok-parameters.ensures.reads) c.in_err-rest-2.ensures.reads

pub returns-in-Named-clause-reads : goal.returns-in-Named-clause-reads
returns-in-Named-clause-reads c =
    let e1 : text_parsed (function_plan c.args.start c.args.returned c.args.name) c.args.tokens.now ≡ _ = refl in
    makes_tail _ _ _ (λ x. x.0 ∷ []) (λ x. x.1.now) (through_of _ _ _ (through _ _ _ (through_of _ _ _ (e1) c.in_ok-rest.ensures.reads) c.in_ok-parameters.ensures.reads) c.in_ok-rest-2.ensures.reads ∙ ap (λ p. text_parsed (function_by c.args.start c.args.returned c.args.name p) c.in_ok-rest-2.rest.now) c.in-Named.is) c.body.ensures.reads

pub returns-in_err-rest-in-Unnamed-clause-reads : goal.returns-in_err-rest-in-Unnamed-clause-reads
returns-in_err-rest-in-Unnamed-clause-reads c =
    let e1 : text_parsed (function_plan c.args.start c.args.returned c.args.name) c.args.tokens.now ≡ _ = refl in
    hands_of _ c.from_residual-in_err-rest-in-Unnamed.result c.in_err-rest-in-Unnamed.field-0.0 _ _ _ c.from_residual-in_err-rest-in-Unnamed.ensures.1 (through_of _ _ _ (through _ _ _ (through_of _ _ _ (e1) c.in_ok-rest.ensures.reads) c.in_ok-parameters.ensures.reads) c.in_ok-rest-2.ensures.reads ∙ ap (λ p. text_parsed (function_by c.args.start c.args.returned c.args.name p) c.in_ok-rest-2.rest.now) c.in-Unnamed.is) c.in_err-rest-in-Unnamed.ensures.reads

pub returns-in_ok-rest-in-Unnamed-clause-reads : goal.returns-in_ok-rest-in-Unnamed-clause-reads
returns-in_ok-rest-in-Unnamed-clause-reads c =
    let e1 : text_parsed (function_plan c.args.start c.args.returned c.args.name) c.args.tokens.now ≡ _ = refl in
    record { by_count = prototype_made c.args.start c.args.returned c.args.name (Unnamed c.in-Unnamed.list); taken = length c.args.all.now - length c.in_ok-rest-in-Unnamed.rest.now; gives = through_of _ _ _ (through_of _ _ _ (through _ _ _ (through_of _ _ _ (e1) c.in_ok-rest.ensures.reads) c.in_ok-parameters.ensures.reads) c.in_ok-rest-2.ensures.reads ∙ ap (λ p. text_parsed (function_by c.args.start c.args.returned c.args.name p) c.in_ok-rest-2.rest.now) c.in-Unnamed.is) c.in_ok-rest-in-Unnamed.ensures.reads ∙ parsed_give _ _; counted = omega (arith, c.requires, c.in_ok-rest.ensures.within, c.in_ok-parameters.ensures.within, c.in_ok-rest-2.ensures.within, c.in_ok-rest-in-Unnamed.ensures.within); added = c.prototype.ensures 0 }
