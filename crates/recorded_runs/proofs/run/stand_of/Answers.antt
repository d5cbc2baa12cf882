use Rattle.std.proofs.Common.{Some, true, false, refl, ap, ◌∙◌}
use Rattle.recorded_runs.specs.declared.records.Stand.TheVariants.{Outside, Gone}
use Rattle.recorded_runs.proofs.Runs.{stands_as, stands_inside}
use Rattle.recorded_runs.proofs.run.stand_of.Goals as goal

pub returns-then-in_transaction : goal.returns-then-in_transaction
returns-then-in_transaction c = λ texts limits moves h.
    stands_inside texts limits moves c.args.run.now c.args.slot h
    (c.in_transaction.ensures texts limits moves h ∙ ap Some c.if-in_transaction.true)

pub returns-then-is_live : goal.returns-then-is_live
returns-then-is_live c = λ texts limits moves h.
    stands_as texts limits moves c.args.run.now c.args.slot h false true Outside
    (c.in_transaction.ensures texts limits moves h ∙ ap Some c.if-in_transaction.false)
    (c.is_live.ensures texts limits moves h ∙ ap Some c.if-is_live.true) refl

pub returns-else-is_live : goal.returns-else-is_live
returns-else-is_live c = λ texts limits moves h.
    stands_as texts limits moves c.args.run.now c.args.slot h false false Gone
    (c.in_transaction.ensures texts limits moves h ∙ ap Some c.if-in_transaction.false)
    (c.is_live.ensures texts limits moves h ∙ ap Some c.if-is_live.false) refl
