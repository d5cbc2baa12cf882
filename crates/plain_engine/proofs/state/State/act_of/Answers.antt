use Rattle.std.proofs.Common.{◌∙◌, true, false, sym}
use Rattle.source_model.specs.JournalLaws.{texts_of}
use Rattle.dsu_runs.proofs.Slots.{act_at_check_in, act_going}
use Rattle.plain_engine.proofs.Standing.{moves_there}
use Rattle.plain_engine.proofs.state.State.act_of.Goals as goal

pub returns-then-is_at_check_in : goal.returns-then-is_at_check_in
returns-then-is_at_check_in g c = λ asks setup x at going.
    sym (act_at_check_in x c.args.slot (sym (c.is_at_check_in.ensures.value x at.seats going) ∙ c.if-is_at_check_in.true))

pub returns-then-can_move : goal.returns-then-can_move
returns-then-can_move g c = λ asks setup x at going.
    sym (act_going x c.args.slot true (sym (c.is_at_check_in.ensures.value x at.seats going) ∙ c.if-is_at_check_in.false)
    (sym (moves_there setup x (g.M.Machine.shown c.args.self.now.run) at.run c.args.slot c.can_move.result
    (c.can_move.ensures asks (texts_of setup) setup.limits at.run.moves at.run.run)) ∙ c.if-can_move.true))

pub returns-else-can_move : goal.returns-else-can_move
returns-else-can_move g c = λ asks setup x at going.
    sym (act_going x c.args.slot false (sym (c.is_at_check_in.ensures.value x at.seats going) ∙ c.if-is_at_check_in.false)
    (sym (moves_there setup x (g.M.Machine.shown c.args.self.now.run) at.run c.args.slot c.can_move.result
    (c.can_move.ensures asks (texts_of setup) setup.limits at.run.moves at.run.run)) ∙ c.if-can_move.false))
