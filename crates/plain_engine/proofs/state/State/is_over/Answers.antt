use Rattle.source_model.specs.JournalLaws.{texts_of}
use Rattle.plain_engine.proofs.Standing.{misused_is, over_by_end, over_by_misuse}
use Rattle.plain_engine.proofs.state.State.is_over.Goals as goal

pub returns-then-misused : goal.returns-then-misused
returns-then-misused g c = λ setup x at.
    over_by_misuse x c.misused.result
    (misused_is setup x (g.M.Machine.shown c.args.self.now.run) c.misused.result at (c.misused.ensures (texts_of setup) setup.limits at.moves at.run))
    c.if-misused.true

pub returns : goal.returns
returns g c = λ setup x at.
    over_by_end x c.misused.result c.has_ended.result
    (misused_is setup x (g.M.Machine.shown c.args.self.now.run) c.misused.result at (c.misused.ensures (texts_of setup) setup.limits at.moves at.run))
    c.if-misused.false (c.has_ended.ensures setup x at)
