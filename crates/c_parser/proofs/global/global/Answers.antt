use Rattle.std.proofs.Common.{Some, None, sym, ap, ◌∙◌}
use Rattle.c_tree.specs.declared.def.DefKind.TheVariants as kind
use Rattle.c_parser.specs.TextPlans.{Give, global, found}
use Rattle.c_parser.proofs.PlanResults.{parsed_give}
use Rattle.c_parser.proofs.ListContinuations.{global_value, global_array, global_plain}
use Rattle.c_parser.proofs.FunctionReturns.{through, through_of, through_conditional, hands_of, hands_want, hands_conditional}
use Rattle.c_parser.proofs.global.global.Goals as goal

pub returns-in_err-value-clause-reads : goal.returns-in_err-value-clause-reads
returns-in_err-value-clause-reads c =
    hands_conditional _ c.from_residual.result c.in_err-value.field-0.0 0 (λ e. Give (global (kind.Global (record { declared = c.args.declared.now; name = c.args.global_name; initial = Some e })))) _ c.from_residual.ensures.1 (global_value c.args.declared.now c.args.global_name _ _ c.in-Some.ensures) c.in_err-value.ensures.reads

pub returns-in-Some-clause-reads : goal.returns-in-Some-clause-reads
returns-in-Some-clause-reads c =
    through_conditional 0 (λ e. Give (global (kind.Global (record { declared = c.args.declared.now; name = c.args.global_name; initial = Some e })))) _ (global_value c.args.declared.now c.args.global_name _ _ c.in-Some.ensures) c.in_ok-value.ensures.reads ∙ parsed_give _ _ ∙ ap (λ x. found (global (kind.Global (record { declared = c.args.declared.now; name = c.args.global_name; initial = Some x }))) c.in_ok-value.rest.now) (sym c.into_inner.ensures) ∙ ap (λ t. found (global (kind.Global (record { declared = t; name = c.args.global_name; initial = Some c.into_inner.result }))) c.in_ok-value.rest.now) (sym c.in_ok-declared.ensures) ∙ ap (λ g. found (global g) c.in_ok-value.rest.now) (sym c.plain.ensures)

pub returns-in_default-skip-clause-reads : goal.returns-in_default-skip-clause-reads
returns-in_default-skip-clause-reads c =
    global_plain c.args.declared.now c.args.global_name _ c.in_default.ensures c.in_default-skip.ensures ∙ parsed_give _ _ ∙ ap (λ t. found (global (kind.Global (record { declared = t; name = c.args.global_name; initial = None }))) c.args.tokens.now) (sym c.in_ok-copy.ensures) ∙ ap (λ g. found (global g) c.args.tokens.now) (sym c.plain-in_default-skip.ensures)

pub returns-in_err-length-clause-reads : goal.returns-in_err-length-clause-reads
returns-in_err-length-clause-reads c =
    hands_want _ c.from_residual-in_err-length.result c.in_err-length.field-0.0 _ _ _ c.from_residual-in_err-length.ensures.1 (global_array c.args.declared.now c.args.global_name _ _ c.in-Some-skip.ensures c.in_default.ensures) c.in_err-length.ensures.reads

pub returns-in_err-rest-clause-reads : goal.returns-in_err-rest-clause-reads
returns-in_err-rest-clause-reads c =
    hands_of _ c.from_residual-in_err-rest.result c.in_err-rest.field-0.0 _ _ _ c.from_residual-in_err-rest.ensures.1 (through _ _ _ (global_array c.args.declared.now c.args.global_name _ _ c.in-Some-skip.ensures c.in_default.ensures) c.in_ok-length.ensures.reads) c.in_err-rest.ensures.reads

pub returns-in_err-initial-clause-reads : goal.returns-in_err-initial-clause-reads
returns-in_err-initial-clause-reads c =
    hands_want _ c.from_residual-in_err-initial.result c.in_err-initial.field-0.0 _ _ _ c.from_residual-in_err-initial.ensures.1 (through_of _ _ _ (through _ _ _ (global_array c.args.declared.now c.args.global_name _ _ c.in-Some-skip.ensures c.in_default.ensures) c.in_ok-length.ensures.reads) c.in_ok-rest.ensures.reads) c.in_err-initial.ensures.reads

pub returns-clause-reads : goal.returns-clause-reads
returns-clause-reads c =
    through _ _ _ (through_of _ _ _ (through _ _ _ (global_array c.args.declared.now c.args.global_name _ _ c.in-Some-skip.ensures c.in_default.ensures) c.in_ok-length.ensures.reads) c.in_ok-rest.ensures.reads) c.in_ok-initial.ensures.reads ∙ parsed_give _ _ ∙ ap (λ t. found (global (kind.Array (record { element = t; name = c.args.global_name; length = c.in_ok-length.length; initial = c.in_ok-initial.initial }))) c.in_ok-initial.rest.now) (sym c.in_ok-copy-2.ensures)
