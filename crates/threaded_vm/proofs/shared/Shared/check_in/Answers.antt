use Rattle.std.proofs.Common.{◌∙◌, ap, refl, arith}
use Rattle.std.proofs.lemmas.Bool.{false≢true}
use Rattle.run_types.specs.declared.run.Event.TheVariants.{CheckIn}
use Rattle.threaded_vm.specs.Locked.{Locked}
use Rattle.threaded_vm.proofs.Keeping.{has_room, kept_more, left_same, no_move}
use Rattle.threaded_vm.proofs.shared.Shared.check_in.Goals as goal

pub invariant_of-self : goal.invariant_of-self
invariant_of-self g c =
    let e = g.E.Engine in
    let going = ap (λ x. x.course) c.self.view_is ∙ c.requires.going in (
      kept_more e.is_at e.told e.faults g.O.Opening.opened _ _ c.args.slot (CheckIn c.args.slot) c.self.invariant.0 going
          c.keep.ensures.items refl (left_same c.self.inside.left)
          c.check_in.ensures.later going
          (λ setup first x opened at. c.in-Done.ensures.made setup x at)
          (λ moves. absurd (false≢true moves)),
      (let wide = c.self.invariant.1 in omega (arith, wide, c.keep.ensures.room)),
    )

pub keep-requires : goal.keep-requires
keep-requires g c =
    let e = g.E.Engine in
    let going = ap (λ x. x.course) c.self.view_is ∙ c.requires.going in
    let before : Locked g.row.E.Denot = record { engine = c.self.inside.engine; noted = c.self.inside.noted.items; left = c.self.inside.left; course = c.self.inside.course } in
    let wide = c.self.invariant.1 in
    let room =
    has_room e.is_at e.told e.faults g.O.Opening.opened before (CheckIn c.args.slot) c.self.invariant.0 going (no_move c.self.inside.left)
    (λ setup first x opened at. let m = c.in-Done.ensures.made setup x at in record { after = m.after; made = m.happens }) in
    omega (arith, room, wide)
