use Rattle.std.proofs.Common.{◌∙◌}
use Rattle.text_code.proofs.Outlining.{in_their_order}
use Rattle.text_code.proofs.outline.parameters.Goals as goal

pub returns-clause-parameters : goal.returns-clause-parameters
returns-clause-parameters c = λ u g.
    in_their_order u c.in_ok-variables.variables.items c.last_first.result.items c.last_first.ensures ∙ c.in_ok-variables.ensures.variables u g
