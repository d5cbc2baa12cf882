use Rattle.code_machine.proofs.InForce.{text_is}
use Rattle.code_machine.proofs.machine.CodeMachine.in_force.Goals as goal

pub returns : goal.returns
returns c = λ texts is. text_is texts c.args.self.now.image.value c.args.self.now.run is
