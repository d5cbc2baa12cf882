use Rattle.std.proofs.Common.{sym, ap, ◌∙◌}
use Rattle.c_tree.specs.declared.def.Parameters.TheVariants.{Named}
use Rattle.c_parser.specs.TextPlans.{parameters, found}
use Rattle.c_parser.proofs.PlanResults.{parsed_give}
use Rattle.c_parser.proofs.ListContinuations.{list_void, list_deep, list_none, list_type, list_named, list_unnamed}
use Rattle.c_parser.proofs.FunctionReturns.{through_of, hands_of, sinks_on, tail_call}
use Rattle.c_parser.proofs.parameters.parameters.Goals as goal

pub returns-in_err-shallow-clause-reads : goal.returns-in_err-shallow-clause-reads
returns-in_err-shallow-clause-reads c =
    sinks_on _ c.from_residual.result c.in_err-shallow.field-0.0 c.from_residual.ensures.1 c.in_err-shallow.ensures.1 (list_deep c.args.depth _ _ c.in-Some.ensures c.in_err-shallow.ensures.0)

pub returns-in-Some-clause-reads : goal.returns-in-Some-clause-reads
returns-in-Some-clause-reads c =
    list_void c.args.depth _ _ c.in-Some.ensures c.in_ok-shallow.ensures ∙ parsed_give _ _ ∙ ap (λ l. found (parameters (Named l)) c.in-Some.rest.now) (sym c.new.ensures.items ∙ sym c.of.ensures)

pub returns-then-not-type_ahead-clause-reads : goal.returns-then-not-type_ahead-clause-reads
returns-then-not-type_ahead-clause-reads c =
    list_none c.args.depth _ c.in_default.ensures (sym c.type_ahead.ensures ∙ c.if-not-type_ahead.true) ∙ parsed_give _ _ ∙ ap (λ l. found (parameters (Named l)) c.args.tokens.now) (sym c.new-then-not-type_ahead.ensures.items ∙ sym c.of-then-not-type_ahead.ensures)

pub returns-in_err-declared-clause-reads : goal.returns-in_err-declared-clause-reads
returns-in_err-declared-clause-reads c =
    hands_of _ c.from_residual-in_err-declared.result c.in_err-declared.field-0.0 _ _ _ c.from_residual-in_err-declared.ensures.1 (list_type c.args.depth _ c.in_default.ensures (sym c.type_ahead.ensures ∙ c.if-not-type_ahead.false)) c.in_err-declared.ensures.reads

pub returns-then-name_ahead-clause-reads : goal.returns-then-name_ahead-clause-reads
returns-then-name_ahead-clause-reads c =
    tail_call _ _ (through_of _ _ _ (list_type c.args.depth _ c.in_default.ensures (sym c.type_ahead.ensures ∙ c.if-not-type_ahead.false)) c.in_ok-declared.ensures.reads ∙ list_named c.args.depth c.in_ok-declared.declared _ (sym c.name_ahead.ensures ∙ c.if-name_ahead.true)) c.named.ensures.reads

pub returns-else-name_ahead-clause-reads : goal.returns-else-name_ahead-clause-reads
returns-else-name_ahead-clause-reads c =
    tail_call _ _ (through_of _ _ _ (list_type c.args.depth _ c.in_default.ensures (sym c.type_ahead.ensures ∙ c.if-not-type_ahead.false)) c.in_ok-declared.ensures.reads ∙ list_unnamed c.args.depth c.in_ok-declared.declared _ (sym c.name_ahead.ensures ∙ c.if-name_ahead.false)) c.unnamed.ensures.reads
