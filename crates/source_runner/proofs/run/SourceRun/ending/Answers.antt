use Rattle.std.proofs.Common.{Some, sym, ap, ◌∙◌}
use Rattle.source_runner.specs.States.{ending_of}
use Rattle.source_runner.proofs.Running.{given}
use Rattle.source_runner.proofs.run.SourceRun.ending.Goals as goal

pub returns : goal.returns
returns c = λ texts limits moves h.
    given (λ x. ending_of x.world.finish) texts limits moves _ h ∙ ap Some (sym (c.ending.ensures h.world h.stands))
