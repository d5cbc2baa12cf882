use Rattle.std.proofs.Common.{◌&&◌, ◌∙◌, ap, sym}
use Rattle.source_model.specs.Worlds.{in_slot}
use Rattle.source_model.specs.Guards.{in_transaction}
use Rattle.plain_engine.proofs.Standing.{of_run}
use Rattle.plain_engine.proofs.moves.stays_pinned.Goals as goal

pub returns-then-pinned : goal.returns-then-pinned
returns-then-pinned g c = λ texts limits moves w run reached.
    let slot = c.args.slot in
    sym (of_run (λ x. in_transaction (in_slot x.world slot)) texts limits moves w c.in_transaction.result reached
    (c.in_transaction.ensures texts limits moves run))
    ∙ ap (λ b. b && in_transaction (in_slot w slot)) (sym c.if-pinned.true)
