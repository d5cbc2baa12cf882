use Rattle.std.proofs.Common.{◌∷◌, ◌++◌, sym, ap, ◌∙◌, arith}
use Rattle.c_parser.specs.TextPlans.{Want, Updates, as_updates, text_parsed}
use Rattle.c_parser.proofs.SignsByFirstToken.{shifted}
use Rattle.c_parser.proofs.ListLoops.{more_updates}
use Rattle.c_parser.proofs.ListContinuations.{updates_next, updates_end}
use Rattle.c_parser.proofs.FunctionReturns.{hands}
use Rattle.c_parser.proofs.transformer.updates.Goals as goal

pub loop-alloc-init : goal.loop-alloc-init
loop-alloc-init c =
    record { reads = λ k. ap (λ l. text_parsed (more_updates c.args.depth l k) c.args.tokens.now) (sym c.new-list.ensures.items); within = omega arith }

pub returns-in_err-update-clause-reads : goal.returns-in_err-update-clause-reads
returns-in_err-update-clause-reads c k =
    hands _ c.from_residual.result c.in_err-update.field-0.0 c.from_residual.ensures.1 (c.loop-alloc.invariant.reads k ∙ updates_next c.args.depth c.loop-alloc.list.items k _ (sym c.name_ahead.ensures ∙ c.loop-alloc-test.true)) (c.in_err-update.ensures.reads (λ x. Want (Updates c.args.depth) (λ f. k (c.loop-alloc.list.items ++ x ∷ as_updates f))))

pub loop-alloc-preserved : goal.loop-alloc-preserved
loop-alloc-preserved c =
    record { reads = λ k. c.loop-alloc.invariant.reads k ∙ updates_next c.args.depth c.loop-alloc.list.items k _ (sym c.name_ahead.ensures ∙ c.loop-alloc-test.true) ∙ (c.in_ok-update.ensures.reads (λ x. Want (Updates c.args.depth) (λ f. k (c.loop-alloc.list.items ++ x ∷ as_updates f)))) ∙ shifted (Updates c.args.depth) c.loop-alloc.list.items c.in_ok-update.update (λ f. as_updates f) (λ l. k l) _ _ c.in_ok-push.ensures; within = omega (arith, c.loop-alloc.invariant.within, c.in_ok-update.ensures.within) }

pub returns-clause-reads : goal.returns-clause-reads
returns-clause-reads c k =
    c.loop-alloc.invariant.reads k ∙ updates_end c.args.depth c.loop-alloc.list.items k _ (sym c.name_ahead.ensures ∙ c.loop-alloc-test.false) ∙ ap (λ l. text_parsed (k l) c.loop-alloc.rest.now) (sym c.of.ensures)
