use Rattle.std.proofs.Common.{◌∙◌, ◌++◌, [], ◌∷◌, ap, refl, arith}
use Rattle.std.proofs.lemmas.Bool.{false≢true}
use Rattle.run_types.specs.declared.run.Event.TheVariants.{Decide}
use Rattle.threaded_vm.specs.declared.notes.Note.TheVariants as note
use Rattle.threaded_vm.specs.Locked.{Locked}
use Rattle.threaded_vm.proofs.Keeping.{has_room, kept_more, kept_still, left_same, no_move, stands}
use Rattle.threaded_vm.proofs.Logs.{event_own, is_on}
use Rattle.threaded_vm.proofs.shared.Shared.decide.Goals as goal

pub returns-then-decided-clause-done : goal.returns-then-decided-clause-done
returns-then-decided-clause-done g c = λ yes.
    let v = c.args.self.now in (
      note.Made (Decide c.args.k) ∷ [],
      event_own v c.keep.new.noted.items c.self.inside.course c.args.pass (Decide c.args.k) (is_on v.course c.requires.going)
          (is_on c.self.inside.course (ap (λ x. x.course) c.self.view_is ∙ c.requires.going))
          (c.keep.ensures.items ∙ ap (λ x. x.noted ++ record { pass = c.args.pass; event = Decide c.args.k } ∷ []) c.self.view_is),
    )

pub invariant_of-self : goal.invariant_of-self
invariant_of-self g c =
    let e = g.E.Engine in
    let going = ap (λ x. x.course) c.self.view_is ∙ c.requires.going in (
      kept_more e.is_at e.told e.faults g.O.Opening.opened _ _ c.args.pass (Decide c.args.k) c.self.invariant.0 going
          c.keep.ensures.items tt (left_same c.self.inside.left)
          c.decided.ensures.later going
          (c.decided.ensures.made c.if-decided.true)
          (λ moves. absurd (false≢true moves)),
      (let wide = c.self.invariant.1 in omega (arith, wide, c.keep.ensures.room)),
    )

pub keep-requires : goal.keep-requires
keep-requires g c =
    let e = g.E.Engine in
    let going = ap (λ x. x.course) c.self.view_is ∙ c.requires.going in
    let before : Locked g.row.E.Denot = record { engine = c.self.inside.engine; noted = c.self.inside.noted.items; left = c.self.inside.left; course = c.self.inside.course } in
    let wide = c.self.invariant.1 in
    let room =
    has_room e.is_at e.told e.faults g.O.Opening.opened before (Decide c.args.k) c.self.invariant.0 going (no_move c.self.inside.left)
    (λ setup first x opened at. let m = c.decided.ensures.made c.if-decided.true setup first x opened at in record { after = m.after; made = m.happens }) in
    omega (arith, room, wide)

pub invariant_of-self-else-decided : goal.invariant_of-self-else-decided
invariant_of-self-else-decided g c =
    let e = g.E.Engine in
    let o = g.O.Opening.opened in
    let going = ap (λ x. x.course) c.self.view_is ∙ c.requires.going in
    let run = c.self.invariant.0.run in
    let now = stands e.is_at e.told e.faults o _ c.self.invariant.0 going run.0 run.1 run.2 in
    let silent = (c.decided.ensures.stays c.if-decided.false run.0 run.1 now.after run.2 now.goes.there).1 in (
      kept_still e.is_at e.told e.faults o _ _ c.self.invariant.0 going refl refl silent c.decided.ensures.later going
          (λ setup first x opened at. (c.decided.ensures.stays c.if-decided.false setup first x opened at).0),
      c.self.invariant.1,
    )
