use Rattle.std.proofs.Common.{◌∷◌, ◌++◌, [], refl, ap, ◌∙◌, arith, length}
use Rattle.c_parser.proofs.FunctionReturns.{through_of, hands, hands_of, sinks_on}
use Rattle.c_parser.proofs.ListLoops.{variable_behind, variables_end, variables_deep, variables_next, variables_shift}
use Rattle.c_parser.proofs.declaration.declaration.Goals as goal

pub returns-in_err-first-clause-reads : goal.returns-in_err-first-clause-reads
returns-in_err-first-clause-reads c k =
    hands _ c.from_residual.result c.in_err-first.field-0.0 c.from_residual.ensures.1 refl
    (c.in_err-first.ensures.reads (variable_behind c.args.depth c.args.declared.now c.args.start c.args.before.items k))

pub loop-behind-init : goal.loop-behind-init
loop-behind-init c = record {
  reads = λ k. c.in_ok-first.ensures.reads (variable_behind c.args.depth c.args.declared.now c.args.start c.args.before.items k)
      ∙ variables_shift _ _ _ _ _ k _ _ (c.in_ok-push.ensures ∙ ap (λ s. c.args.before.items ++ s ∷ []) c.declared_at.ensures);
  within = omega (arith, c.in_ok-first.ensures.within);
}

pub returns-in_err-shallow-clause-reads : goal.returns-in_err-shallow-clause-reads
returns-in_err-shallow-clause-reads c k =
    sinks_on _ c.from_residual-in_err-shallow.result c.in_err-shallow.field-0.0 c.from_residual-in_err-shallow.ensures.1 c.in_err-shallow.ensures.1
    (c.loop-behind.invariant.reads k ∙ variables_deep _ _ _ _ k _ _ c.in-Some.ensures c.in_err-shallow.ensures.0)

pub returns-in_err-behind-clause-reads : goal.returns-in_err-behind-clause-reads
returns-in_err-behind-clause-reads c k =
    hands _ c.from_residual-in_err-behind.result c.in_err-behind.field-0.0 c.from_residual-in_err-behind.ensures.1
    (c.loop-behind.invariant.reads k ∙ variables_next _ _ _ _ k _ _ c.in-Some.ensures c.in_ok-shallow.ensures)
    (c.in_err-behind.ensures.reads _)

pub returns-in_err-next-clause-reads : goal.returns-in_err-next-clause-reads
returns-in_err-next-clause-reads c k =
    hands _ c.from_residual-in_err-next.result c.in_err-next.field-0.0 c.from_residual-in_err-next.ensures.1
    (c.loop-behind.invariant.reads k ∙ variables_next _ _ _ _ k _ _ c.in-Some.ensures c.in_ok-shallow.ensures ∙ c.in_ok-behind.ensures.reads _)
    (c.in_err-next.ensures.reads (variable_behind c.args.depth c.args.declared.now c.args.start c.loop-behind.list.items k))

pub loop-behind-preserved : goal.loop-behind-preserved
loop-behind-preserved c = record {
  reads = λ k. c.loop-behind.invariant.reads k ∙ variables_next _ _ _ _ k _ _ c.in-Some.ensures c.in_ok-shallow.ensures
      ∙ c.in_ok-behind.ensures.reads _ ∙ c.in_ok-next.ensures.reads (variable_behind c.args.depth c.args.declared.now c.args.start c.loop-behind.list.items k)
      ∙ variables_shift _ _ _ _ _ k _ _ (c.in_ok-push-2.ensures ∙ ap (λ s. c.loop-behind.list.items ++ s ∷ []) c.declared_at-in-Some.ensures);
  within = omega (arith, c.loop-behind.invariant.within, c.in_ok-next.ensures.within, c.in_ok-behind.ensures.within, ap length c.in-Some.ensures.1);
}

pub returns-in_err-rest-clause-reads : goal.returns-in_err-rest-clause-reads
returns-in_err-rest-clause-reads c k =
    hands_of _ c.from_residual-in_err-rest.result c.in_err-rest.field-0.0 _ _ _ c.from_residual-in_err-rest.ensures.1
    (c.loop-behind.invariant.reads k ∙ variables_end _ _ _ _ k _ c.in_default.ensures) c.in_err-rest.ensures.reads

pub returns-clause-reads : goal.returns-clause-reads
returns-clause-reads c k =
    through_of _ _ _ (c.loop-behind.invariant.reads k ∙ variables_end _ _ _ _ k _ c.in_default.ensures) c.in_ok-rest.ensures.reads
