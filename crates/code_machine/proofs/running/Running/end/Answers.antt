use Rattle.std.proofs.Common.{◌-◌, refl, ◌∙◌, arith}
use Rattle.code_machine.proofs.Going.{runs_so}
use Rattle.code_machine.proofs.LocalStops.{closed, stays_out}
use Rattle.code_machine.proofs.running.Running.end.Goals as goal

pub returns-clause-made : goal.returns-clause-made
returns-clause-made c = λ all versions code.
    closed all versions c.args.image.now c.args.self.now c.args.stop.now code c.requires.rests c.resume.new.self (c.args.self.now.depth - 1) c.requires.act
    (c.resume.ensures.same.stand ∙ c.requires.rests.live) (omega arith) (c.resume.ensures.went all versions code)

pub returns-then-self-eq0-clause-made : goal.returns-then-self-eq0-clause-made
returns-then-self-eq0-clause-made c = λ all versions code.
    stays_out all versions c.args.image.now c.args.self.now c.args.stop.now code c.requires.rests c.requires.act c.if-self-eq0.true

pub returns-clause-runs : goal.returns-clause-runs
returns-clause-runs c = λ all versions code.
    runs_so all versions c.args.image.now c.resume.new.self (record c.resume.new.self { depth = c.args.self.now.depth - 1 }) refl (c.resume.ensures.runs all versions code)
