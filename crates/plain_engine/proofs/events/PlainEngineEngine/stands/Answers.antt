use Rattle.std.proofs.Common.{◌∙◌, Some, true, false, ap, sym}
use Rattle.source_model.specs.JournalLaws.{texts_of}
use Rattle.plain_engine.proofs.Standing.{stands_at_check_in, stands_at_none}
use Rattle.plain_engine.proofs.events.PlainEngineEngine.stands.Goals as goal

pub returns-then-is_at_check_in : goal.returns-then-is_at_check_in
returns-then-is_at_check_in g c = λ setup x at going.
    stands_at_check_in x c.args.slot (sym (c.is_at_check_in.ensures.value x at.state.seats going) ∙ c.if-is_at_check_in.true)

pub returns-then-is_live : goal.returns-then-is_live
returns-then-is_live g c = λ setup x at going.
    stands_at_none setup x (g.M.Machine.shown c.args.self.now.state.run) at.state.run c.args.slot true going
    (sym (c.is_at_check_in.ensures.value x at.state.seats going) ∙ c.if-is_at_check_in.false)
    (c.is_live.ensures (texts_of setup) setup.limits at.state.run.moves at.state.run.run ∙ ap Some c.if-is_live.true)

pub returns-else-is_live : goal.returns-else-is_live
returns-else-is_live g c = λ setup x at going.
    stands_at_none setup x (g.M.Machine.shown c.args.self.now.state.run) at.state.run c.args.slot false going
    (sym (c.is_at_check_in.ensures.value x at.state.seats going) ∙ c.if-is_at_check_in.false)
    (c.is_live.ensures (texts_of setup) setup.limits at.state.run.moves at.state.run.run ∙ ap Some c.if-is_live.false)
