use Rattle.std.proofs.Common.{◌∙◌, ◌++◌, [], ◌∷◌, ap, arith}
use Rattle.std.proofs.lemmas.Bool.{false≢true}
use Rattle.run_types.specs.declared.run.Event.TheVariants.{Offer}
use Rattle.threaded_vm.specs.declared.notes.Note.TheVariants as note
use Rattle.threaded_vm.specs.Locked.{Locked}
use Rattle.threaded_vm.proofs.Keeping.{has_room, kept_more, left_same, no_move}
use Rattle.threaded_vm.proofs.Logs.{event_own, is_on}
use Rattle.threaded_vm.proofs.shared.Shared.open.Goals as goal

pub returns-in-Done-clause-own : goal.returns-in-Done-clause-own
returns-in-Done-clause-own g c =
    let v = c.args.self.now in (
      note.Made (Offer c.args.k) ∷ [],
      event_own v c.keep.new.noted.items c.self.inside.course c.args.pass (Offer c.args.k) (is_on v.course c.requires.going)
          (is_on c.self.inside.course (ap (λ x. x.course) c.self.view_is ∙ c.requires.going))
          (c.keep.ensures.items ∙ ap (λ x. x.noted ++ record { pass = c.args.pass; event = Offer c.args.k } ∷ []) c.self.view_is),
    )

pub invariant_of-self : goal.invariant_of-self
invariant_of-self g c =
    let e = g.E.Engine in
    let going = ap (λ x. x.course) c.self.view_is ∙ c.requires.going in (
      kept_more e.is_at e.told e.faults g.O.Opening.opened _ _ c.args.pass (Offer c.args.k) c.self.invariant.0 going
          c.keep.ensures.items tt (left_same c.self.inside.left)
          c.offer.ensures.later going
          (λ setup first x opened at. c.in-Done.ensures.made setup x at)
          (λ moves. absurd (false≢true moves)),
      (let wide = c.self.invariant.1 in omega (arith, wide, c.keep.ensures.room)),
    )

pub keep-requires : goal.keep-requires
keep-requires g c =
    let e = g.E.Engine in
    let going = ap (λ x. x.course) c.self.view_is ∙ c.requires.going in
    let before : Locked g.row.E.Denot = record { engine = c.self.inside.engine; noted = c.self.inside.noted.items; left = c.self.inside.left; course = c.self.inside.course } in
    let wide = c.self.invariant.1 in
    let room =
    has_room e.is_at e.told e.faults g.O.Opening.opened before (Offer c.args.k) c.self.invariant.0 going (no_move c.self.inside.left)
    (λ setup first x opened at. let m = c.in-Done.ensures.made setup x at in record { after = m.after; made = m.happens }) in
    omega (arith, room, wide)
