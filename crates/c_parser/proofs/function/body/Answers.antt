use Rattle.std.proofs.Common.{◌-◌, refl, ap, ◌∙◌, arith, length}
use Rattle.c_tree.specs.declared.def.Parameters.TheVariants.{Named}
use Rattle.c_parser.specs.TextPlans.{Give, made, function_made, prototype_made}
use Rattle.c_parser.proofs.PlanResults.{parsed_give}
use Rattle.c_parser.proofs.ItemContinuations.{body_end, body_block}
use Rattle.c_parser.proofs.FunctionReturns.{through_of, hands, hands_of}
use Rattle.c_parser.proofs.function.body.Goals as goal

pub returns-in_err-rest-clause-reads : goal.returns-in_err-rest-clause-reads
returns-in_err-rest-clause-reads c =
    hands_of _ c.from_residual.result c.in_err-rest.field-0.0 _ _ _ c.from_residual.ensures.1 (body_end c.args.start c.args.returned c.args.name c.args.parameters _ c.in_default.ensures) c.in_err-rest.ensures.reads

pub returns-in_default-clause-reads : goal.returns-in_default-clause-reads
returns-in_default-clause-reads c =
    record { by_count = prototype_made c.args.start c.args.returned c.args.name (Named c.args.parameters); taken = length c.args.all.now - length c.in_ok-rest.rest.now; gives = through_of _ _ _ (body_end c.args.start c.args.returned c.args.name c.args.parameters _ c.in_default.ensures) c.in_ok-rest.ensures.reads ∙ parsed_give _ _; counted = omega (arith, c.requires, c.in_ok-rest.ensures.within); added = c.prototype.ensures 0 }

pub returns-in_err-block-clause-reads : goal.returns-in_err-block-clause-reads
returns-in_err-block-clause-reads c =
    hands _ c.from_residual-in_err-block.result c.in_err-block.field-0.0 c.from_residual-in_err-block.ensures.1 (body_block c.args.start c.args.returned c.args.name c.args.parameters _ _ c.in-Some.ensures) (c.in_err-block.ensures.reads (λ ss end. Give (made (function_made c.args.start c.args.returned c.args.name c.args.parameters ss end))))

pub taken-requires : goal.taken-requires
taken-requires c =
    omega (arith, c.requires, c.in_ok-block.ensures.within, ap length c.in-Some.ensures.1)

pub returns-clause-reads : goal.returns-clause-reads
returns-clause-reads c =
    record { by_count = function_made c.args.start c.args.returned c.args.name c.args.parameters c.in_ok-block.block.body c.in_ok-block.block.end; taken = c.in-Some-taken.count; gives = body_block c.args.start c.args.returned c.args.name c.args.parameters _ _ c.in-Some.ensures ∙ (c.in_ok-block.ensures.reads (λ ss end. Give (made (function_made c.args.start c.args.returned c.args.name c.args.parameters ss end)))) ∙ parsed_give _ _; counted = c.in-Some-taken.ensures; added = refl }
