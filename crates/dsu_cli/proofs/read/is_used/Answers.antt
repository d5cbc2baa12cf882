use Rattle.std.proofs.Common.{◌∙◌, ap}
use Rattle.std.specs.Prelude.{is_some}
use Rattle.dsu_cli.specs.Sorted.{given}
use Rattle.dsu_cli.proofs.Given.{first_given, same_some, some_given}
use Rattle.dsu_cli.proofs.read.is_used.Goals as goal

pub returns : goal.returns
returns c =
    c.is_some.ensures ∙ same_some (λ s. s.now) c.get_str.result ∙ ap is_some (c.get_str.ensures ∙ first_given c.args.matches.now c.args.id.now)
    ∙ some_given (given c.args.id.now c.args.matches.now)
