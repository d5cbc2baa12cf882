use Rattle.std.proofs.Common.{◌∙◌}
use Rattle.code_machine.proofs.LocalStops.{passed}
use Rattle.code_machine.proofs.running.Running.pass.Goals as goal

pub returns-clause-made : goal.returns-clause-made
returns-clause-made c = λ all versions code.
    passed all versions c.args.image.now c.args.self.now c.args.stop.now code c.requires.rests c.resume.new.self c.requires.act
    (c.resume.ensures.same.stand ∙ c.requires.rests.live) (c.resume.ensures.went all versions code)
