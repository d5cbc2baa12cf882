use Rattle.std.proofs.Common.{sym}
use Rattle.source_model.specs.JournalLaws.{texts_of}
use Rattle.source_model.specs.Worlds.{in_slot, is_over}
use Rattle.source_runner.specs.Queries.{next_point_in}
use Rattle.plain_engine.proofs.Standing.{asked, given}
use Rattle.plain_engine.proofs.engine.PlainEngine.next_point.Goals as goal

pub returns : goal.returns
returns g c = λ asks setup x at going.
    let run = g.M.Machine.shown c.args.self.now.state.run in
    sym (asked setup x run at.state.run (λ r. next_point_in (in_slot r.world c.args.slot)) _
    (c.next_point.ensures asks (texts_of setup) setup.limits at.state.run.moves at.state.run.run
    (given setup x run at.state.run (λ r. is_over r.world) _ going)))
