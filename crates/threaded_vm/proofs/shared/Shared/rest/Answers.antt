use Rattle.std.proofs.Common.{◌+◌, ◌++◌, ◌∙◌, ap, subst}
use Rattle.run_types.specs.declared.run.Ending.TheVariants.{Deadlock}
use Rattle.dsu_runs.specs.declared.ran.StopCause.TheVariants.{Ended}
use Rattle.source_model.specs.Schedules.{move_count}
use Rattle.threaded_vm.specs.Locked.{Locked, events}
use Rattle.threaded_vm.specs.Opened.{Comes}
use Rattle.threaded_vm.proofs.Ending.{ends_stuck, is_deadlock}
use Rattle.threaded_vm.proofs.Keeping.{ends_here, fits}
use Rattle.threaded_vm.proofs.Logs.{ends_turn, is_on, over_after}
use Rattle.threaded_vm.proofs.shared.Shared.rest.Goals as goal

pub end-requires-after_bounds : goal.end-requires-after_bounds
end-requires-after_bounds g c κs within =
    let e = g.E.Engine in
    let o = g.O.Opening.opened in
    let s : Locked g.row.E.Denot = record { engine = c.self.inside.engine; noted = c.self.inside.noted.items; left = c.self.inside.left; course = c.self.inside.course } in
    let going = ap (λ x. x.course) c.self.view_is ∙ c.requires.going in
    ends_here e.is_at e.told e.faults o s c.is_stuck.new.engine Deadlock c.self.invariant.0 going c.is_stuck.ensures.stays c.is_stuck.ensures.silent
    (λ setup first x at comes there.
    let now = subst (λ v. Comes setup (o.history ++ events v.noted) x) c.self.view_is comes in
    let unfinished = c.requires.unfinished setup first x at now in
    let seats = fits e.is_at e.told e.faults o c.seats_fit_their_slots.ensures setup (o.history ++ events s.noted) x comes in
    let stuck = c.is_stuck.ensures.stuck c.if-is_stuck.true setup x there unfinished seats in (
      is_deadlock x unfinished stuck.0,
      ends_stuck setup (move_count o.history + o.left) (o.history ++ events s.noted) x stuck.0 stuck.1
          (c.requires.none_due setup first x at now),
    ))

pub returns-then-is_stuck-clause-own : goal.returns-then-is_stuck-clause-own
returns-then-is_stuck-clause-own g c =
    let v = c.args.self.now in
    ends_turn v (record { engine = c.is_stuck.new.engine; noted = c.self.inside.noted.items; left = c.self.inside.left; course = c.self.inside.course }) c.end.new.self c.args.slot (Ended Deadlock)
    (is_on v.course c.requires.going) (ap (λ x. x.noted) c.self.view_is) c.end.ensures

pub returns-then-is_stuck-clause-says : goal.returns-then-is_stuck-clause-says
returns-then-is_stuck-clause-says g c =
    over_after (record { engine = c.is_stuck.new.engine; noted = c.self.inside.noted.items; left = c.self.inside.left; course = c.self.inside.course }) c.end.new.self c.args.slot (Ended Deadlock) c.end.ensures
