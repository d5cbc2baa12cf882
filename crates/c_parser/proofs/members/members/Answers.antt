use Rattle.std.proofs.Common.{◌++◌, sym, ap, ◌∙◌, arith}
use Rattle.c_parser.specs.TextPlans.{text_parsed}
use Rattle.c_parser.specs.Parts.{member_line_then}
use Rattle.c_parser.proofs.ListLoops.{more_members}
use Rattle.c_parser.proofs.ListContinuations.{members_next, members_end}
use Rattle.c_parser.proofs.FunctionReturns.{hands}
use Rattle.c_parser.proofs.members.members.Goals as goal

pub returns-in_err-first-clause-reads : goal.returns-in_err-first-clause-reads
returns-in_err-first-clause-reads c k =
    hands _ c.from_residual.result c.in_err-first.field-0.0 c.from_residual.ensures.1 (ap (λ l. text_parsed (member_line_then c.args.depth (λ bs. more_members c.args.depth (l ++ bs) k)) c.args.tokens.now) (sym c.new.ensures.items)) (c.in_err-first.ensures.reads (λ bs. more_members c.args.depth bs k))

pub loop-alloc-init : goal.loop-alloc-init
loop-alloc-init c =
    record { reads = λ k. ap (λ l. text_parsed (member_line_then c.args.depth (λ bs. more_members c.args.depth (l ++ bs) k)) c.args.tokens.now) (sym c.new.ensures.items) ∙ (c.in_ok-first.ensures.reads (λ bs. more_members c.args.depth bs k)); within = omega (arith, c.in_ok-first.ensures.within) }

pub returns-in_err-longer-clause-reads : goal.returns-in_err-longer-clause-reads
returns-in_err-longer-clause-reads c k =
    hands _ c.from_residual-in_err-longer.result c.in_err-longer.field-0.0 c.from_residual-in_err-longer.ensures.1 (c.loop-alloc.invariant.reads k ∙ members_next c.args.depth c.loop-alloc.list.items k _ (sym c.type_ahead.ensures ∙ c.loop-alloc-test.true)) (c.in_err-longer.ensures.reads (λ bs. more_members c.args.depth bs k))

pub loop-alloc-preserved : goal.loop-alloc-preserved
loop-alloc-preserved c =
    record { reads = λ k. c.loop-alloc.invariant.reads k ∙ members_next c.args.depth c.loop-alloc.list.items k _ (sym c.type_ahead.ensures ∙ c.loop-alloc-test.true) ∙ (c.in_ok-longer.ensures.reads (λ bs. more_members c.args.depth bs k)); within = omega (arith, c.loop-alloc.invariant.within, c.in_ok-longer.ensures.within) }

pub returns-clause-reads : goal.returns-clause-reads
returns-clause-reads c k =
    c.loop-alloc.invariant.reads k ∙ members_end c.args.depth c.loop-alloc.list.items k _ (sym c.type_ahead.ensures ∙ c.loop-alloc-test.false) ∙ ap (λ l. text_parsed (k l) c.loop-alloc.rest.now) (sym c.of.ensures)
