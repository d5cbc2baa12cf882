use Rattle.std.proofs.Common.{◌∙◌, sym, refl}
use Rattle.dsu_cli.specs.Words.{line, positionals}
use Rattle.dsu_cli.proofs.Steps.{next_step}
use Rattle.dsu_cli.proofs.fit.Seen.with_positional.Goals as goal

pub returns-clause-steps : goal.returns-clause-steps
returns-clause-steps c items =
    let step = next_step (line c.args.command).positionals c.args.self.positionals c.args.word.now (positionals items)
    (sym c.takes_positional.ensures ∙ c.if-not-takes_positional.false) in
    rw step refl
