use Rattle.std.proofs.Common.{sym}
use Rattle.plain_engine.proofs.Deciding.{found, not_found}
use Rattle.plain_engine.proofs.Starting.{first_there}
use Rattle.plain_engine.proofs.state.first_text.Goals as goal

pub returns : goal.returns
returns g c =
    sym (found c.text.result c.in-Some.text (g.M.Machine.shown c.args.run.now).trees 0 c.text.ensures c.in-Some.is)

pub unreachable-requires : goal.unreachable-requires
unreachable-requires g c =
    let trees = (g.M.Machine.shown c.args.run.now).trees in
    first_there trees c.requires (not_found c.text.result trees 0 c.text.ensures c.in-None.is)
