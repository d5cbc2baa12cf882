use Rattle.source_model.specs.Runs.{is_live}
use Rattle.source_model.specs.Worlds.{in_slot}
use Rattle.std.proofs.Common.{◌∙◌}
use Rattle.plain_engine.proofs.SlotsAfter.{moved_dead, moved_on}
use Rattle.plain_engine.proofs.Standing.{of_run}
use Rattle.plain_engine.proofs.moves.moved.Goals as goal

pub returns-then-not-is_live : goal.returns-then-not-is_live
returns-then-not-is_live g c = λ texts limits moves w run reached.
    let slot = c.args.slot in
    moved_dead (in_slot w slot) c.args.leads c.args.seat c.empty.result
    (of_run (λ x. is_live (in_slot x.world slot)) texts limits moves w c.is_live.result reached (c.is_live.ensures texts limits moves run)
    ∙ c.if-not-is_live.true)
    c.empty.ensures

pub returns : goal.returns
returns g c = λ texts limits moves w run reached.
    let slot = c.args.slot in
    moved_on (in_slot w slot) c.args.leads c.stays_pinned.result c.args.seat
    (of_run (λ x. is_live (in_slot x.world slot)) texts limits moves w c.is_live.result reached (c.is_live.ensures texts limits moves run)
    ∙ c.if-not-is_live.false)
    (c.stays_pinned.ensures texts limits moves w run reached)
