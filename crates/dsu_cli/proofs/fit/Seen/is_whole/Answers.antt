use Rattle.std.proofs.Common.{◌∙◌, sym, ap}
use Rattle.std.specs.Prelude.{nat_le}
use Rattle.dsu_cli.specs.Words.{line}
use Rattle.dsu_cli.proofs.Steps.{words_end}
use Rattle.dsu_cli.proofs.Names.{none_if_not_some}
use Rattle.dsu_cli.proofs.fit.Seen.is_whole.Goals as goal

pub returns-then-is_none : goal.returns-then-is_none
returns-then-is_none c =
    ap (λ n. nat_le n c.args.self.positionals) c.positionals.ensures ∙ sym (words_end (line c.args.command) c.args.self (none_if_not_some c.args.self.waiting c.if-is_none.ensures))
