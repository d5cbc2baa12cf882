use Rattle.std.proofs.Common.{Some, sym, ap, ◌∙◌}
use Rattle.source_model.specs.Worlds.{in_slot}
use Rattle.source_runner.specs.Queries.{use_due}
use Rattle.source_runner.proofs.Running.{given, going_on}
use Rattle.source_runner.proofs.run.SourceRun.next_use.Goals as goal

pub returns : goal.returns
returns c = λ texts limits moves h going.
    let not_over = going_on texts limits moves _ h going in
    given (λ x. use_due (in_slot x.world c.args.slot)) texts limits moves _ h
    ∙ ap Some (sym (c.next_use.ensures h.world h.stands not_over))
