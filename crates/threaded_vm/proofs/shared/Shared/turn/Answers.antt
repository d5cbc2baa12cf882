use Rattle.std.proofs.Common.{◌∙◌, ap, refl, subst, sym}
use Rattle.dsu_runs.specs.declared.ran.StopCause.TheVariants.{SinkFailed}
use Rattle.threaded_vm.specs.Locked.{log_of}
use Rattle.threaded_vm.specs.Turns.{IsOver, SaysOf}
use Rattle.threaded_vm.proofs.Logs.{IsOn, ends_turn, events_of_log, over_after, over_there}
use Rattle.threaded_vm.proofs.shared.Shared.turn.Goals as goal

pub returns-in-Going-clause-says : goal.returns-in-Going-clause-says
returns-in-Going-clause-says g c =
    let now = c.go_on.new.self in
    subst (λ l. SaysOf g.O.Opening.opened c.args.slot l (IsOver (log_of now)) c.go_on.result) (sym (events_of_log now.noted now.course)) c.go_on.ensures.says

pub returns-in-Failing-clause-own : goal.returns-in-Failing-clause-own
returns-in-Failing-clause-own g c =
    let v = c.args.self.now in
    ends_turn v v c.end.new.self c.args.slot SinkFailed (subst IsOn (sym c.in-Failing.is ∙ ap (λ x. x.course) c.self.view_is) tt) refl c.end.ensures

pub returns-in-Failing-clause-says : goal.returns-in-Failing-clause-says
returns-in-Failing-clause-says g c = over_after c.args.self.now c.end.new.self c.args.slot SinkFailed c.end.ensures

pub returns-in-Over-clause-says : goal.returns-in-Over-clause-says
returns-in-Over-clause-says g c =
    over_there c.args.self.now.noted c.args.self.now.course c.in-Over.field-0 c.in-Over.field-1 (sym (ap (λ x. x.course) c.self.view_is) ∙ c.in-Over.is)
