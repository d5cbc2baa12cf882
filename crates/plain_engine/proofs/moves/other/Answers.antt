use Rattle.std.proofs.Common.{true, false, ◌∙◌, sym}
use Rattle.source_model.specs.Runs.{is_live}
use Rattle.source_model.specs.Worlds.{in_slot, is_over}
use Rattle.source_runner.specs.Queries.{entering_in}
use Rattle.plain_engine.specs.Kept.{is_there}
use Rattle.plain_engine.proofs.SlotsAfter.{other_as}
use Rattle.plain_engine.proofs.Standing.{given_run, of_run}
use Rattle.plain_engine.proofs.moves.other.Goals as goal

pub returns-then-is_live : goal.returns-then-is_live
returns-then-is_live g c = λ texts limits moves w run reached.
    let slot = c.args.slot in
    other_as (is_there c.args.seat.kept) (is_live (in_slot w slot)) false true (g.M.Machine.shown c.args.run.now).words (is_over w) (in_slot w slot)
    c.args.seat c.started.result
    (sym c.is_there.ensures ∙ c.if-is_there.false)
    (of_run (λ x. is_live (in_slot x.world slot)) texts limits moves w c.is_live.result reached (c.is_live.ensures texts limits moves run)
    ∙ c.if-is_live.true) (
      c.entering.result,
      c.started.ensures,
      λ on.
          sym (of_run (λ x. entering_in (in_slot x.world slot)) texts limits moves w _ reached
          (c.entering.ensures texts limits moves run (given_run (λ x. is_over x.world) texts limits moves w false reached on))),
    )

pub returns-else-is_live : goal.returns-else-is_live
returns-else-is_live g c = λ texts limits moves w run reached.
    let slot = c.args.slot in
    other_as (is_there c.args.seat.kept) (is_live (in_slot w slot)) false false (g.M.Machine.shown c.args.run.now).words (is_over w) (in_slot w slot)
    c.args.seat c.empty.result
    (sym c.is_there.ensures ∙ c.if-is_there.false)
    (of_run (λ x. is_live (in_slot x.world slot)) texts limits moves w c.is_live.result reached (c.is_live.ensures texts limits moves run)
    ∙ c.if-is_live.false)
    c.empty.ensures
