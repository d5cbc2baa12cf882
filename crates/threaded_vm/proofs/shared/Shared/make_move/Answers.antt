use Rattle.std.proofs.Common.{◌∙◌, ◌++◌, [], ◌∷◌, inr, Ok, ap, refl, subst, arith}
use Rattle.run_types.specs.declared.run.Event.TheVariants.{Move}
use Rattle.dsu_runs.specs.Engines.{MakesAt}
use Rattle.dsu_runs.specs.declared.ran.StopCause.TheVariants.{Memory}
use Rattle.threaded_vm.specs.declared.notes.Note.TheVariants as note
use Rattle.threaded_vm.specs.Locked.{Locked, events}
use Rattle.threaded_vm.specs.Opened.{Comes}
use Rattle.threaded_vm.proofs.Keeping.{has_room, kept_broken, kept_more, kept_still, left_less, one_move, stands}
use Rattle.threaded_vm.proofs.Logs.{end_own, is_on}
use Rattle.threaded_vm.proofs.shared.Shared.make_move.Goals as goal

pub returns-in-Err-clause-own : goal.returns-in-Err-clause-own
returns-in-Err-clause-own g c =
    let v = c.args.self.now in (
      note.Over Memory ∷ [],
      end_own v c.self.inside.noted.items c.args.slot Memory (is_on v.course c.requires.going) (ap (λ x. x.noted) c.self.view_is),
      inr (Memory, refl),
    )

pub invariant_of-self : goal.invariant_of-self
invariant_of-self g c =
    let e = g.E.Engine in
    let o = g.O.Opening.opened in
    let going = ap (λ x. x.course) c.self.view_is ∙ c.requires.going in
    let before : Locked g.row.E.Denot = record { engine = c.leave_work.new.self; noted = c.self.inside.noted.items; left = c.self.inside.left; course = c.self.inside.course } in
    let kept =
    kept_still e.is_at e.told e.faults o _ before c.self.invariant.0 going refl refl (c.leave_work.ensures.silent ∙ c.take_back.ensures.silent)
    (omega (arith, c.leave_work.ensures.later, c.take_back.ensures.later)) going
    (λ setup first x at there. c.leave_work.ensures.stays setup x (c.take_back.ensures.stays setup x (c.work.ensures setup first at) there)) in (
      kept_more e.is_at e.told e.faults o before _ c.args.slot (Move c.args.slot) kept going
          c.keep.ensures.items refl (left_less c.self.inside.left (let some = c.requires.left in let same = ap (λ x. x.left) c.self.view_is in omega (arith, some, same)))
          c.act.ensures.later going
          (λ setup first x opened at.
          subst (MakesAt (λ y. e.is_at setup y c.act.new.self) setup (Move c.args.slot) x (e.told c.leave_work.new.self) (e.told c.act.new.self))
          c.in-Ok-Done.field-0-is (c.in-Ok-Done.ensures.made setup x at))
          (λ moves setup first x at comes. c.requires.none_due setup first x at (subst (λ v. Comes setup (o.history ++ events v.noted) x) c.self.view_is comes)),
      (let wide = c.self.invariant.1 in omega (arith, wide, c.keep.ensures.room)),
    )

pub invariant_of-self-in-Ok-SinkFailed : goal.invariant_of-self-in-Ok-SinkFailed
invariant_of-self-in-Ok-SinkFailed g c =
    let e = g.E.Engine in
    let o = g.O.Opening.opened in
    let going = ap (λ x. x.course) c.self.view_is ∙ c.requires.going in
    let before : Locked g.row.E.Denot = record { engine = c.leave_work.new.self; noted = c.self.inside.noted.items; left = c.self.inside.left; course = c.self.inside.course } in
    let kept =
    kept_still e.is_at e.told e.faults o _ before c.self.invariant.0 going refl refl (c.leave_work.ensures.silent ∙ c.take_back.ensures.silent)
    (omega (arith, c.leave_work.ensures.later, c.take_back.ensures.later)) going
    (λ setup first x at there. c.leave_work.ensures.stays setup x (c.take_back.ensures.stays setup x (c.work.ensures setup first at) there)) in (
      kept_broken e.is_at e.told e.faults o before _ c.args.slot (Move c.args.slot) kept going
          c.keep-in-Ok-SinkFailed.ensures.items refl (left_less c.self.inside.left (let some = c.requires.left in let same = ap (λ x. x.left) c.self.view_is in omega (arith, some, same)))
          c.act.ensures.later c.args.slot refl refl
          (λ setup x at.
          subst (MakesAt (λ y. e.is_at setup y c.act.new.self) setup (Move c.args.slot) x (e.told c.leave_work.new.self) (e.told c.act.new.self))
          c.in-Ok-SinkFailed.field-0-is (c.in-Ok-SinkFailed.ensures.made setup x at))
          (λ setup first x at comes. c.requires.none_due setup first x at (subst (λ v. Comes setup (o.history ++ events v.noted) x) c.self.view_is comes))
          (c.in-Ok-SinkFailed.ensures.cause (ap Ok c.in-Ok-SinkFailed.field-0-is)),
      (let wide = c.self.invariant.1 in omega (arith, wide, c.keep-in-Ok-SinkFailed.ensures.room)),
    )

pub take_back-requires : goal.take_back-requires
take_back-requires g c =
    let e = g.E.Engine in
    let o = g.O.Opening.opened in
    let going = ap (λ x. x.course) c.self.view_is ∙ c.requires.going in
    let run = c.self.invariant.0.run in
    let now = stands e.is_at e.told e.faults o _ c.self.invariant.0 going run.0 run.1 run.2 in
    (run.0, now.after, now.goes.there, c.work.ensures run.0 run.1 run.2)

pub keep-requires : goal.keep-requires
keep-requires g c =
    let e = g.E.Engine in
    let o = g.O.Opening.opened in
    let going = ap (λ x. x.course) c.self.view_is ∙ c.requires.going in
    let before : Locked g.row.E.Denot = record { engine = c.leave_work.new.self; noted = c.self.inside.noted.items; left = c.self.inside.left; course = c.self.inside.course } in
    let kept =
    kept_still e.is_at e.told e.faults o _ before c.self.invariant.0 going refl refl (c.leave_work.ensures.silent ∙ c.take_back.ensures.silent)
    (omega (arith, c.leave_work.ensures.later, c.take_back.ensures.later)) going
    (λ setup first x at there. c.leave_work.ensures.stays setup x (c.take_back.ensures.stays setup x (c.work.ensures setup first at) there)) in
    let wide = c.self.invariant.1 in
    let some = one_move c.self.inside.left (let some = c.requires.left in let same = ap (λ x. x.left) c.self.view_is in omega (arith, some, same)) in
    let room =
    has_room e.is_at e.told e.faults o before (Move c.args.slot) kept going some
    (λ setup first x opened at.
    let m =
    subst (MakesAt (λ y. e.is_at setup y c.act.new.self) setup (Move c.args.slot) x (e.told c.leave_work.new.self) (e.told c.act.new.self))
    c.in-Ok-Done.field-0-is (c.in-Ok-Done.ensures.made setup x at) in
    record { after = m.after; made = m.happens }) in
    omega (arith, room, wide)

pub keep-requires-in-Ok-SinkFailed : goal.keep-requires-in-Ok-SinkFailed
keep-requires-in-Ok-SinkFailed g c =
    let e = g.E.Engine in
    let o = g.O.Opening.opened in
    let going = ap (λ x. x.course) c.self.view_is ∙ c.requires.going in
    let before : Locked g.row.E.Denot = record { engine = c.leave_work.new.self; noted = c.self.inside.noted.items; left = c.self.inside.left; course = c.self.inside.course } in
    let kept =
    kept_still e.is_at e.told e.faults o _ before c.self.invariant.0 going refl refl (c.leave_work.ensures.silent ∙ c.take_back.ensures.silent)
    (omega (arith, c.leave_work.ensures.later, c.take_back.ensures.later)) going
    (λ setup first x at there. c.leave_work.ensures.stays setup x (c.take_back.ensures.stays setup x (c.work.ensures setup first at) there)) in
    let wide = c.self.invariant.1 in
    let some = one_move c.self.inside.left (let some = c.requires.left in let same = ap (λ x. x.left) c.self.view_is in omega (arith, some, same)) in
    let room =
    has_room e.is_at e.told e.faults o before (Move c.args.slot) kept going some
    (λ setup first x opened at.
    let m =
    subst (MakesAt (λ y. e.is_at setup y c.act.new.self) setup (Move c.args.slot) x (e.told c.leave_work.new.self) (e.told c.act.new.self))
    c.in-Ok-SinkFailed.field-0-is (c.in-Ok-SinkFailed.ensures.made setup x at) in
    record { after = m.after; made = m.happens }) in
    omega (arith, room, wide)
