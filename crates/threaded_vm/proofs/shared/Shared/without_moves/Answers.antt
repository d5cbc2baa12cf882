use Rattle.std.proofs.Common.{◌≡◌, ◌∙◌, ◌+◌, ◌++◌, ℕ, Option, Some, None, false, ap, refl, subst, sym}
use Rattle.std.specs.Prelude.{◌&&◌, not}
use Rattle.std.specs.Option.{is_some}
use Rattle.std.proofs.lemmas.Bool.{true≢false}
use Rattle.run_types.specs.declared.run.Ending.TheVariants.{Cut, Deadlock}
use Rattle.dsu_runs.specs.declared.ran.StopCause.TheVariants.{Ended}
use Rattle.dsu_runs.proofs.Standing.{stuck_in_turn}
use Rattle.source_model.specs.Runs.{some_can_move}
use Rattle.source_model.specs.Endings.{seats_wait}
use Rattle.source_model.specs.Schedules.{move_count}
use Rattle.threaded_vm.specs.Locked.{Locked, events}
use Rattle.threaded_vm.proofs.Ending.{ends_cut, ends_stuck, is_cut, is_deadlock}
use Rattle.threaded_vm.proofs.Keeping.{ends_here, fits, used}
use Rattle.threaded_vm.proofs.Logs.{ends_turn, is_on, over_after}
use Rattle.threaded_vm.proofs.shared.Shared.without_moves.Goals as goal

none_is : (o : Option ℕ) → is_some o ≡ false → o ≡ None
none_is None is = refl
none_is (Some k) is = absurd (true≢false is)

pub end-requires-after_bounds : goal.end-requires-after_bounds
end-requires-after_bounds g c κs within =
    let e = g.E.Engine in
    let o = g.O.Opening.opened in
    let s : Locked g.row.E.Denot = record { engine = c.self.inside.engine; noted = c.self.inside.noted.items; left = c.self.inside.left; course = c.self.inside.course } in
    let going = ap (λ x. x.course) c.self.view_is ∙ c.requires.going in
    ends_here e.is_at e.told e.faults o s c.settle.new.self Cut c.self.invariant.0 going c.settle.ensures.stays c.settle.ensures.silent
    (λ setup first x at comes there.
    let unfinished = c.requires.unfinished setup first x at (subst (λ v. Rattle.threaded_vm.specs.Opened.Comes setup (o.history ++ events v.noted) x) c.self.view_is comes) in
    let seats = fits e.is_at e.told e.faults o c.seats_fit_their_slots.ensures setup (o.history ++ events s.noted) x comes in
    let acts = stuck_in_turn x c.next_act.result seats (c.next_act.ensures c.settle.ensures.asks setup x there unfinished seats) in
    let goes = ap (λ b. not b && (seats_wait x.seats && not (some_can_move x.world))) unfinished ∙ sym acts ∙ ap not (sym c.is_some.ensures ∙ c.if-is_some.true) in (
      is_cut x unfinished goes,
      ends_cut setup (move_count o.history + o.left) (o.history ++ events s.noted) x goes
          (used e.is_at e.told e.faults o s c.self.invariant.0 (ap (λ v. v.left) c.self.view_is ∙ c.requires.left)),
    ))

pub returns-then-is_some-clause-own : goal.returns-then-is_some-clause-own
returns-then-is_some-clause-own g c =
    let v = c.args.self.now in
    ends_turn v (record { engine = c.settle.new.self; noted = c.self.inside.noted.items; left = c.self.inside.left; course = c.self.inside.course }) c.end.new.self c.args.slot (Ended Cut)
    (is_on v.course c.requires.going) (ap (λ x. x.noted) c.self.view_is) c.end.ensures

pub returns-then-is_some-clause-says : goal.returns-then-is_some-clause-says
returns-then-is_some-clause-says g c =
    over_after (record { engine = c.settle.new.self; noted = c.self.inside.noted.items; left = c.self.inside.left; course = c.self.inside.course }) c.end.new.self c.args.slot (Ended Cut) c.end.ensures

pub end-requires-2-after_bounds : goal.end-requires-2-after_bounds
end-requires-2-after_bounds g c κs within =
    let e = g.E.Engine in
    let o = g.O.Opening.opened in
    let s : Locked g.row.E.Denot = record { engine = c.self.inside.engine; noted = c.self.inside.noted.items; left = c.self.inside.left; course = c.self.inside.course } in
    let going = ap (λ x. x.course) c.self.view_is ∙ c.requires.going in
    ends_here e.is_at e.told e.faults o s c.settle.new.self Deadlock c.self.invariant.0 going c.settle.ensures.stays c.settle.ensures.silent
    (λ setup first x at comes there.
    let unfinished = c.requires.unfinished setup first x at (subst (λ v. Rattle.threaded_vm.specs.Opened.Comes setup (o.history ++ events v.noted) x) c.self.view_is comes) in
    let seats = fits e.is_at e.told e.faults o c.seats_fit_their_slots.ensures setup (o.history ++ events s.noted) x comes in
    let acts = stuck_in_turn x c.next_act.result seats (c.next_act.ensures c.settle.ensures.asks setup x there unfinished seats) in
    let stuck = ap (λ b. not b && (seats_wait x.seats && not (some_can_move x.world))) unfinished ∙ sym acts ∙ ap not (sym c.is_some.ensures ∙ c.if-is_some.false) in (
      is_deadlock x unfinished stuck,
      ends_stuck setup (move_count o.history + o.left) (o.history ++ events s.noted) x stuck
          (sym (c.«open».ensures setup x there) ∙ none_is c.«open».result (sym c.is_some-2.ensures ∙ c.if-is_some-2.false))
          (sym (c.due.ensures setup x there) ∙ c.in_default.is),
    ))

pub returns-clause-own : goal.returns-clause-own
returns-clause-own g c =
    let v = c.args.self.now in
    ends_turn v (record { engine = c.settle.new.self; noted = c.self.inside.noted.items; left = c.self.inside.left; course = c.self.inside.course }) c.end-2.new.self c.args.slot (Ended Deadlock)
    (is_on v.course c.requires.going) (ap (λ x. x.noted) c.self.view_is) c.end-2.ensures

pub returns-clause-says : goal.returns-clause-says
returns-clause-says g c =
    over_after (record { engine = c.settle.new.self; noted = c.self.inside.noted.items; left = c.self.inside.left; course = c.self.inside.course }) c.end-2.new.self c.args.slot (Ended Deadlock) c.end-2.ensures
