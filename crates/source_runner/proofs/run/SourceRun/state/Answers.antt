use Rattle.std.proofs.Common.{Some, sym, ap, ◌∙◌}
use Rattle.source_runner.specs.States.{as_int}
use Rattle.source_runner.proofs.Running.{given}
use Rattle.source_runner.proofs.run.SourceRun.state.Goals as goal

pub returns : goal.returns
returns c = λ texts limits moves h.
    given (λ x. as_int x.state) texts limits moves _ h ∙ ap Some (sym (c.state.ensures h.world h.stands))
