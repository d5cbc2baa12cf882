use Rattle.std.proofs.Common.{◌-◌, length, ap}
use Rattle.word_frames.specs.declared.frame.Frame.{Frame}
use Rattle.word_frames.specs.Seen.{innermost}
use Rattle.code_machine.specs.Seen.{words_of}
use Rattle.code_machine.proofs.Calling.{call_fits, few_arguments, takes_so}
use Rattle.code_machine.proofs.Going.{runs_moved}
use Rattle.code_machine.proofs.LocalStops.{called_so}
use Rattle.code_machine.proofs.Resuming.{stood_there}
use Rattle.code_machine.proofs.running.Running.call.Goals as goal

pub wait-requires-clause-words : goal.wait-requires-clause-words
wait-requires-clause-words c = takes_so c.args.image.now c.args.self.now c.args.stop.now c.args.n c.args.count c.requires.rests c.requires.act

pub returns-clause-fits : goal.returns-clause-fits
returns-clause-fits c =
    let r = c.args.self.now in
    call_fits c.args.image.now r c.args.stop.now c.args.n c.args.count c.requires.rests c.requires.act c.wait.new.self _ c.wait.ensures.frames c.wait.ensures.high c.wait.ensures.kept
    (c.wait.ensures.there (few_arguments c.args.image.now r c.args.stop.now c.args.n c.args.count c.requires.rests c.requires.act))

pub returns-clause-made : goal.returns-clause-made
returns-clause-made c = λ all versions code.
    called_so all versions c.args.image.now c.args.self.now c.args.stop.now code c.requires.rests c.wait.new.self _ c.args.n c.args.count c.requires.act
    (ap (λ (f : Frame). f.version) c.innermost.ensures) (c.wait.ensures.waits (words_of c.args.image.now))

pub returns-clause-runs : goal.returns-clause-runs
returns-clause-runs c = λ all versions code.
    let r = c.args.self.now in
    let x = c.args.stop.now in
    runs_moved all versions c.args.image.now r _ x.point x.after ((innermost r.frames).height - c.args.count) (stood_there c.args.image.now.functions.items (length c.args.image.now.callees.items) r x c.requires.rests).some c.wait.ensures.frames code
