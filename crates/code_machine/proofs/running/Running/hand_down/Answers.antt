use Rattle.std.proofs.Common.{◌≤◌, length, sym, subst, ◌∙◌}
use Rattle.word_frames.specs.declared.frame.Frame.{Frame}
use Rattle.word_frames.specs.Seen.{innermost}
use Rattle.code_image.specs.StopHeights.{act_takes}
use Rattle.code_machine.specs.Seen.{words_of}
use Rattle.code_machine.specs.Stops.{CanGoOn, WentOn}
use Rattle.code_machine.specs.Versions.{RunsCode, texts_by}
use Rattle.code_machine.proofs.Calling.{caller_can, caller_there, room_for_it, runs_left}
use Rattle.code_machine.proofs.LocalStops.{handed}
use Rattle.code_machine.proofs.Resuming.{words_there}
use Rattle.code_machine.proofs.running.Running.hand_down.Goals as goal

pub leave-requires-clause-word : goal.leave-requires-clause-word
leave-requires-clause-word c =
    subst (λ a. act_takes a ≤ (innermost c.args.self.now.frames).height) c.requires.act (words_there c.args.image.now.functions.items (length c.args.image.now.callees.items) c.args.self.now c.args.stop.now c.requires.rests)

pub leave-requires-clause-space : goal.leave-requires-clause-space
leave-requires-clause-space c = room_for_it c.args.image.now.functions.items (length c.args.image.now.callees.items) c.args.self.now c.args.stop.now c.requires.rests c.requires.called

pub go_on-requires : goal.go_on-requires
go_on-requires c =
    subst (λ (f : Frame). CanGoOn c.args.image.now.functions.items (record c.args.self.now { frames = c.leave.new.self }) f.place f.height) (sym c.innermost-caller.ensures)
    (caller_can c.args.image.now.functions.items (length c.args.image.now.callees.items) c.args.self.now c.args.stop.now c.requires.rests c.requires.called c.leave.new.self c.leave.ensures.kept c.leave.ensures.high c.leave.ensures.frames)

pub returns-clause-made : goal.returns-clause-made
returns-clause-made c = λ all versions code.
    let left : RunsCode all versions c.args.image.now (record c.args.self.now { frames = c.leave.new.self }) =
    runs_left all versions c.args.image.now c.args.self.now (record c.args.self.now { frames = c.leave.new.self }) c.requires.called c.leave.ensures.frames code in
    handed all versions c.args.image.now c.args.self.now c.args.stop.now code c.requires.rests c.leave.new.self c.go_on.new.self c.requires.act
    (c.go_on.ensures.same.stand ∙ c.requires.rests.live)
    (caller_there c.args.image.now.functions.items (length c.args.image.now.callees.items) c.args.self.now c.args.stop.now c.requires.rests c.requires.called c.leave.new.self c.leave.ensures.kept c.leave.ensures.high c.leave.ensures.frames)
    (c.leave.ensures.leaves (words_of c.args.image.now))
    (subst (λ (f : Frame). WentOn (texts_by all versions) c.args.image.now (record c.args.self.now { frames = c.leave.new.self }) c.go_on.new.self f.point f.place f.height) c.innermost-caller.ensures (c.go_on.ensures.went all versions left))

pub returns-clause-runs : goal.returns-clause-runs
returns-clause-runs c = λ all versions code.
    c.go_on.ensures.runs all versions
    (runs_left all versions c.args.image.now c.args.self.now (record c.args.self.now { frames = c.leave.new.self }) c.requires.called c.leave.ensures.frames code)
