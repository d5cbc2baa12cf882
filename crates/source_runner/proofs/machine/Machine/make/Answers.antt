use Rattle.std.proofs.Common.{sym, ◌∙◌}
use Rattle.source_model.specs.Waits.{must_wait}
use Rattle.source_model.specs.Worlds.{is_over}
use Rattle.source_runner.proofs.Stopping.{moves_as}
use Rattle.source_runner.proofs.Taking.{goes, neither, stays}
use Rattle.source_runner.proofs.machine.Machine.make.Goals as goal

pub returns-then-must_stay-clause-moves : goal.returns-then-must_stay-clause-moves
returns-then-must_stay-clause-moves c = λ w h.
    moves_as _ w _ _ _ (stays w c.args.slot (sym (c.must_stay.ensures w h) ∙ c.if-must_stay.true)) (record { came = h })

pub returns-clause-moves : goal.returns-clause-moves
returns-clause-moves c = λ w h.
    let going = sym (c.must_stay.ensures w h) ∙ c.if-must_stay.false in
    moves_as _ w _ _ _ (goes w c.args.slot going) (c.take.ensures.moves w h (neither (is_over w) (must_wait w c.args.slot) going))
