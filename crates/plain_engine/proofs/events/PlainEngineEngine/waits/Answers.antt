use Rattle.std.proofs.Common.{◌∙◌, sym}
use Rattle.source_model.specs.JournalLaws.{texts_of}
use Rattle.source_model.specs.Waits.{waits_for}
use Rattle.source_model.specs.Worlds.{is_over}
use Rattle.plain_engine.proofs.Standing.{asked, given, none_waits, waits_then}
use Rattle.plain_engine.proofs.events.PlainEngineEngine.waits.Goals as goal

pub returns-then-is_over : goal.returns-then-is_over
returns-then-is_over g c = λ asks setup x at.
    none_waits x.world c.args.slot (sym (c.is_over.ensures setup x at.state.run) ∙ c.if-is_over.true)

pub returns : goal.returns
returns g c = λ asks setup x at.
    let run = g.M.Machine.shown c.args.self.now.state.run in
    let going = sym (c.is_over.ensures setup x at.state.run) ∙ c.if-is_over.false in
    c.waiting.ensures
    ∙ sym (asked setup x run at.state.run (λ r. waits_for r.world c.args.slot) _
    (c.waits.ensures asks (texts_of setup) setup.limits at.state.run.moves at.state.run.run
    (given setup x run at.state.run (λ r. is_over r.world) _ going)))
    ∙ waits_then x.world c.args.slot going
