use Rattle.std.proofs.Common.{◌∙◌}
use Rattle.source_model.specs.JournalLaws.{texts_of}
use Rattle.plain_engine.proofs.Standing.{has_ended_so}
use Rattle.plain_engine.proofs.state.State.has_ended.Goals as goal

pub returns : goal.returns
returns g c = λ setup x at.
    c.is_some.ensures
    ∙ has_ended_so setup x (g.M.Machine.shown c.args.self.now.run) c.ending.result at (c.ending.ensures (texts_of setup) setup.limits at.moves at.run)
