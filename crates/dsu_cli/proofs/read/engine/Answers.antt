use Rattle.std.proofs.Common.{◌≡◌, ◌∙◌, Some, Option, ap, codes}
use Rattle.std.specs.Prelude.{slice_get, unwrap_or}
use Rattle.std.specs.Option.{option_and_then}
use Rattle.dsu_cli.specs.declared.job.EngineKind.TheVariants as engine
use Rattle.dsu_cli.specs.Words.{Text, engine_named}
use Rattle.dsu_cli.specs.Sorted.{given}
use Rattle.dsu_cli.proofs.Given.{first_given}
use Rattle.dsu_cli.proofs.read.engine.Goals as goal

pub returns-in-Some : goal.returns-in-Some
returns-in-Some c =
    let first : Some c.in-Some.name.now ≡ slice_get (given (codes "engine") c.args.matches.now) 0 = c.in-Some.ensures ∙ first_given c.args.matches.now _ in
    c.unwrap_or.ensures ∙ ap (λ o. unwrap_or o engine.Compiled) c.engine_named.ensures
    ∙ ap (λ (o : Option Text). unwrap_or (option_and_then engine_named o) engine.Compiled) first

pub returns-in-None : goal.returns-in-None
returns-in-None c = ap (λ (o : Option Text). unwrap_or (option_and_then engine_named o) engine.Compiled) (c.in-None.ensures ∙ first_given c.args.matches.now _)
