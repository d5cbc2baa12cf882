use Rattle.std.proofs.Common.{◌∷◌, ◌++◌, [], refl, sym, ap, ◌∙◌, arith, length}
use Rattle.c_tree.specs.declared.def.DefKind.TheVariants as kind
use Rattle.c_expr_parser.specs.Definitions.{def}
use Rattle.c_parser.specs.TextPlans.{Give, Declared}
use Rattle.c_parser.proofs.PlanResults.{parsed_give, dead_end}
use Rattle.c_parser.proofs.ItemContinuations.{declared_void, declared_mutex, declared_type, function_void, makes_tail, makes_plain, makes_added}
use Rattle.c_parser.proofs.FunctionReturns.{through_of, hands, hands_of}
use Rattle.c_parser.proofs.item.declared.Goals as goal

pub returns-in_default-clause-reads : goal.returns-in_default-clause-reads
returns-in_default-clause-reads c =
    dead_end Declared Give c.args.tokens.now c.in_default.ensures.cases refl

pub returns-in_err-function_name-clause-reads : goal.returns-in_err-function_name-clause-reads
returns-in_err-function_name-clause-reads c =
    hands_of _ c.from_residual.result c.in_err-function_name.field-0.0 _ _ _ c.from_residual.ensures.1 (declared_void c.in-Some.first.now _ _ c.in-Some.ensures.cases.0 (sym c.is.ensures ∙ c.if-is.true)) c.in_err-function_name.ensures.reads

pub returns-in_err-def-clause-reads : goal.returns-in_err-def-clause-reads
returns-in_err-def-clause-reads c =
    hands _ c.from_residual-in_err-def.result c.in_err-def.field-0.0 c.from_residual-in_err-def.ensures.1 (through_of _ _ _ (declared_void c.in-Some.first.now _ _ c.in-Some.ensures.cases.0 (sym c.is.ensures ∙ c.if-is.true)) c.in_ok-function_name.ensures.reads ∙ function_void c.in-Some.first.now.at c.in_ok-function_name.function_name _) c.in_err-def.ensures.reads

pub returns-then-is-clause-reads : goal.returns-then-is-clause-reads
returns-then-is-clause-reads c =
    makes_added _ _ _ c.in_ok-def.def _ (through_of _ _ _ (declared_void c.in-Some.first.now _ _ c.in-Some.ensures.cases.0 (sym c.is.ensures ∙ c.if-is.true)) c.in_ok-function_name.ensures.reads ∙ function_void c.in-Some.first.now.at c.in_ok-function_name.function_name _) c.in_ok-def.ensures.reads c.in_ok-push.ensures

pub returns-in_err-mutex-clause-reads : goal.returns-in_err-mutex-clause-reads
returns-in_err-mutex-clause-reads c =
    hands_of _ c.from_residual-in_err-mutex.result c.in_err-mutex.field-0.0 _ _ _ c.from_residual-in_err-mutex.ensures.1 (declared_mutex c.in-Some.first.now _ _ c.in-Some.ensures.cases.0 (sym c.is.ensures ∙ c.if-is.false) (sym c.is-2.ensures ∙ c.if-is-2.true)) c.in_err-mutex.ensures.reads

pub returns-in_err-rest-clause-reads : goal.returns-in_err-rest-clause-reads
returns-in_err-rest-clause-reads c =
    hands_of _ c.from_residual-in_err-rest.result c.in_err-rest.field-0.0 _ _ _ c.from_residual-in_err-rest.ensures.1 (through_of _ _ _ (declared_mutex c.in-Some.first.now _ _ c.in-Some.ensures.cases.0 (sym c.is.ensures ∙ c.if-is.false) (sym c.is-2.ensures ∙ c.if-is-2.true)) c.in_ok-mutex.ensures.reads) c.in_err-rest.ensures.reads

pub returns-then-is-2-clause-reads : goal.returns-then-is-2-clause-reads
returns-then-is-2-clause-reads c =
    makes_plain _ _ _ (def c.in-Some.first.now.at (kind.Mutex c.in_ok-mutex.mutex) ∷ []) _ (through_of _ _ _ (through_of _ _ _ (declared_mutex c.in-Some.first.now _ _ c.in-Some.ensures.cases.0 (sym c.is.ensures ∙ c.if-is.false) (sym c.is-2.ensures ∙ c.if-is-2.true)) c.in_ok-mutex.ensures.reads) c.in_ok-rest.ensures.reads ∙ parsed_give _ _) (omega (arith, c.in_ok-mutex.ensures.within, c.in_ok-rest.ensures.within, ap length c.in-Some.ensures.cases.0)) (c.in_ok-push-2.ensures ∙ ap (λ x. c.args.before.items ++ x ∷ []) c.def_of.ensures)

pub returns-in_err-declared-clause-reads : goal.returns-in_err-declared-clause-reads
returns-in_err-declared-clause-reads c =
    hands_of _ c.from_residual-in_err-declared.result c.in_err-declared.field-0.0 _ _ _ c.from_residual-in_err-declared.ensures.1 (declared_type c.in-Some.first.now _ _ c.in-Some.ensures.cases.0 (sym c.is.ensures ∙ c.if-is.false) (sym c.is-2.ensures ∙ c.if-is-2.false)) c.in_err-declared.ensures.reads

pub returns-clause-reads : goal.returns-clause-reads
returns-clause-reads c =
    makes_tail _ _ _ (λ x. x.0.items) (λ x. x.1.now) (through_of _ _ _ (declared_type c.in-Some.first.now _ _ c.in-Some.ensures.cases.0 (sym c.is.ensures ∙ c.if-is.false) (sym c.is-2.ensures ∙ c.if-is-2.false)) c.in_ok-declared.ensures.reads) c.typed.ensures.reads
