use Rattle.std.proofs.Common.{Some, sym, ap, ◌∙◌}
use Rattle.source_model.specs.Runs.{can_move}
use Rattle.source_runner.proofs.Running.{given}
use Rattle.source_runner.proofs.run.SourceRun.can_move.Goals as goal

pub returns : goal.returns
returns c = λ texts limits moves h.
    given (λ x. can_move x.world c.args.slot) texts limits moves _ h ∙ ap Some (sym (c.can_move.ensures h.world h.stands))
