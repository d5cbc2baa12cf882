use Rattle.std.proofs.Common.{◌∷◌, [], refl, sym, ap, ◌∙◌, arith, length}
use Rattle.c_parser.specs.TextPlans.{Give, Item}
use Rattle.c_parser.proofs.PlanResults.{dead_end}
use Rattle.c_parser.proofs.ItemContinuations.{item_static, item_struct, item_transformer, item_declared, static_tail, makes_tail, makes_plain}
use Rattle.c_parser.proofs.FunctionReturns.{through_of, hands, hands_of}
use Rattle.c_parser.proofs.item.item.Goals as goal

pub returns-in_default-clause-reads : goal.returns-in_default-clause-reads
returns-in_default-clause-reads c =
    dead_end Item Give c.args.tokens.now c.in_default.ensures.cases refl

pub returns-then-is-clause-reads : goal.returns-then-is-clause-reads
returns-then-is-clause-reads c =
    static_tail _ _ (λ x. x.0.items) (λ x. x.1.now) _ _ (item_static c.in-Some.first.now _ _ c.in-Some.ensures.cases.0 (sym c.is.ensures ∙ c.if-is.true)) (ap length c.in-Some.ensures.cases.0) c.declared.ensures.reads

pub returns-in_err-tag-clause-reads : goal.returns-in_err-tag-clause-reads
returns-in_err-tag-clause-reads c =
    hands_of _ c.from_residual.result c.in_err-tag.field-0.0 _ _ _ c.from_residual.ensures.1 (item_struct c.in-Some.first.now _ _ c.in-Some.ensures.cases.0 (sym c.is.ensures ∙ c.if-is.false) (sym c.is-2.ensures ∙ c.if-is-2.true)) c.in_err-tag.ensures.reads

pub returns-then-is-2-clause-reads : goal.returns-then-is-2-clause-reads
returns-then-is-2-clause-reads c =
    makes_tail _ _ _ (λ x. x.0.items) (λ x. x.1.now) (through_of _ _ _ (item_struct c.in-Some.first.now _ _ c.in-Some.ensures.cases.0 (sym c.is.ensures ∙ c.if-is.false) (sym c.is-2.ensures ∙ c.if-is-2.true)) c.in_ok-tag.ensures.reads) c.tagged.ensures.reads

pub returns-in_err-def-clause-reads : goal.returns-in_err-def-clause-reads
returns-in_err-def-clause-reads c =
    hands _ c.from_residual-in_err-def.result c.in_err-def.field-0.0 c.from_residual-in_err-def.ensures.1 (item_transformer c.in-Some.first.now _ _ c.in-Some.ensures.cases.0 (sym c.is.ensures ∙ c.if-is.false) (sym c.is-2.ensures ∙ c.if-is-2.false) (sym c.is-3.ensures ∙ c.if-is-3.true)) c.in_err-def.ensures.reads

pub returns-then-is-3-clause-reads : goal.returns-then-is-3-clause-reads
returns-then-is-3-clause-reads c =
    makes_plain _ _ _ (c.in_ok-def.def ∷ []) _ (item_transformer c.in-Some.first.now _ _ c.in-Some.ensures.cases.0 (sym c.is.ensures ∙ c.if-is.false) (sym c.is-2.ensures ∙ c.if-is-2.false) (sym c.is-3.ensures ∙ c.if-is-3.true) ∙ c.in_ok-def.ensures.reads) (omega (arith, c.in_ok-def.ensures.within, ap length c.in-Some.ensures.cases.0)) c.in_ok-push.ensures

pub returns-clause-reads : goal.returns-clause-reads
returns-clause-reads c =
    makes_tail _ _ _ (λ x. x.0.items) (λ x. x.1.now) (item_declared c.in-Some.first.now _ _ c.in-Some.ensures.cases.0 (sym c.is.ensures ∙ c.if-is.false) (sym c.is-2.ensures ∙ c.if-is-2.false) (sym c.is-3.ensures ∙ c.if-is-3.false)) c.declared-2.ensures.reads
