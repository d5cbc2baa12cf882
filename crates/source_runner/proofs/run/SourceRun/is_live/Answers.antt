use Rattle.std.proofs.Common.{Some, sym, ap, ◌∙◌}
use Rattle.source_model.specs.Runs.{is_live}
use Rattle.source_model.specs.Worlds.{in_slot}
use Rattle.source_runner.proofs.Running.{given}
use Rattle.source_runner.proofs.run.SourceRun.is_live.Goals as goal

pub returns : goal.returns
returns c = λ texts limits moves h.
    given (λ x. is_live (in_slot x.world c.args.slot)) texts limits moves _ h ∙ ap Some (sym (c.is_live.ensures h.world h.stands))
