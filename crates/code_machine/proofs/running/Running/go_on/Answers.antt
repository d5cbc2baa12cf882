use Rattle.std.proofs.Common.{length}
use Rattle.code_machine.specs.Seen.{words_of}
use Rattle.code_machine.proofs.Going.{runs_moved, went_executed}
use Rattle.code_machine.proofs.PrivateWork.{fits_off, function_there, went_off}
use Rattle.code_machine.proofs.running.Running.go_on.Goals as goal

pub put_off-requires-clause-low : goal.put_off-requires-clause-low
put_off-requires-clause-low c =
    let found = function_there c.args.image.now.functions.items c.args.self.now c.args.place c.args.height c.requires in
    c.requires.stacks _ found.0 found.1 c.args.place c.args.height (c.requires.high found.0 found.1)

pub returns-then-self-clause-fits : goal.returns-then-self-clause-fits
returns-then-self-clause-fits c =
    fits_off c.args.image.now.functions.items (length c.args.image.now.callees.items) c.args.self.now c.put_off.new.self c.args.point c.args.place c.args.height c.requires
    c.if-self.true c.put_off.ensures.frames c.put_off.ensures.high c.put_off.ensures.kept

pub returns-then-self-clause-went : goal.returns-then-self-clause-went
returns-then-self-clause-went c = λ all versions code.
    let found = function_there c.args.image.now.functions.items c.args.self.now c.args.place c.args.height c.requires in
    went_off all versions c.args.image.now found.0 c.args.self.now c.put_off.new.self c.args.point c.args.place c.args.height code c.requires found.1
    c.put_off.ensures.frames (c.put_off.ensures.puts (words_of c.args.image.now))

pub returns-then-self-clause-runs : goal.returns-then-self-clause-runs
returns-then-self-clause-runs c = λ all versions code.
    runs_moved all versions c.args.image.now c.args.self.now _ c.args.point c.args.place c.args.height c.requires.some c.put_off.ensures.frames code

pub returns-clause-went : goal.returns-clause-went
returns-clause-went c = λ all versions code.
    went_executed all versions c.args.image.now c.args.self.now c.execute.new.self c.args.point c.args.place c.args.height code c.requires c.execute.ensures.executed
