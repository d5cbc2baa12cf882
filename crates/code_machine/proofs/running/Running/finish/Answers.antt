use Rattle.std.proofs.Common.{◌≤◌, length, subst, arith}
use Rattle.word_frames.specs.Seen.{innermost}
use Rattle.code_image.specs.StopHeights.{act_takes}
use Rattle.code_machine.proofs.LocalStops.{ended_so, finished}
use Rattle.code_machine.proofs.Resuming.{words_there}
use Rattle.code_machine.proofs.running.Running.finish.Goals as goal

pub newest-word-requires-clause-word : goal.newest-word-requires-clause-word
newest-word-requires-clause-word c =
    subst (λ a. act_takes a ≤ (innermost c.args.self.now.frames).height) c.requires.act
    (words_there c.args.image.now.functions.items (length c.args.image.now.callees.items) c.args.self.now c.args.stop.now c.requires.rests)

pub returns-then-slot-eq0-clause-made : goal.returns-then-slot-eq0-clause-made
returns-then-slot-eq0-clause-made c = λ all versions code.
    finished all versions c.args.image.now c.args.self.now c.args.stop.now code c.requires.rests c.finish_with.result c.newest-word.result _ c.args.slot c.requires.act
    c.requires.first c.if-slot-eq0.true c.newest-word.ensures c.finish_with.ensures

pub returns-clause-made : goal.returns-clause-made
returns-clause-made c = λ all versions code.
    ended_so all versions c.args.image.now c.args.self.now c.args.stop.now code c.requires.rests c.newest-word.result _ c.args.slot c.requires.act
    c.requires.first (λ e. omega (arith, e, c.if-slot-eq0.false)) c.newest-word.ensures
