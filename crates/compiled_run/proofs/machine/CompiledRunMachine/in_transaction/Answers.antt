use Rattle.std.proofs.Common.{Some, sym, ap, ◌∙◌}
use Rattle.source_model.specs.Guards.{in_transaction}
use Rattle.source_model.specs.Worlds.{in_slot}
use Rattle.compiled_run.proofs.Asking.{given, transaction_is}
use Rattle.compiled_run.proofs.machine.CompiledRunMachine.in_transaction.Goals as goal

pub returns : goal.returns
returns c = λ texts limits moves h.
    given (λ x. in_transaction (in_slot x.world c.args.slot)) texts limits moves h.world h.ran
    ∙ ap Some (transaction_is texts limits moves _ _ _ h c.args.slot ∙ sym c.in_transaction.ensures)
