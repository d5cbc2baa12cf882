use Rattle.source_model.specs.Guards.{in_transaction}
use Rattle.source_model.specs.Worlds.{in_slot}
use Rattle.plain_engine.proofs.Standing.{of_run}
use Rattle.plain_engine.proofs.seen.seen.Goals as goal

pub returns-clause-within : goal.returns-clause-within
returns-clause-within g c = λ texts limits moves w run reached.
    of_run (λ x. in_transaction (in_slot x.world c.args.slot)) texts limits moves w c.in_transaction.result reached
    (c.in_transaction.ensures texts limits moves run)
