use Rattle.std.proofs.Common.{Ok, ap, ◌∙◌}
use Rattle.run_machine.proofs.Stepping.{none_moved, one_moved, same_number}
use Rattle.run_machine.proofs.source.SourceRunMachine.step.Goals as goal

pub returns-in-CannotMove-clause-moved : goal.returns-in-CannotMove-clause-moved
returns-in-CannotMove-clause-moved c = λ texts limits moves run needs.
    none_moved texts limits moves c.args.slot c.step.new.self c.step.result (c.step.ensures.stepped texts limits moves run).came
    (c.in_ok-step.was ∙ ap Ok c.in-CannotMove.is)

pub returns-in-Done-clause-moved : goal.returns-in-Done-clause-moved
returns-in-Done-clause-moved c = λ texts limits moves run needs.
    one_moved texts limits moves c.args.slot c.step.new.self c.step.result (c.step.ensures.stepped texts limits moves run).came
    (c.in_ok-step.was ∙ ap Ok c.in-Done.is) c.leads-leads.result _ c.threads-threads.result c.threads.result
    (c.leads-leads.ensures texts limits moves run) (c.threads-threads.ensures texts limits moves run)
    (λ now. c.threads.ensures texts limits _ now) (same_number c.threads.result c.threads-threads.result)
