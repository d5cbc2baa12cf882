use Rattle.code_machine.proofs.Working.{none_still}
use Rattle.code_machine.proofs.machine.CodeMachine.take_back.Goals as goal

pub returns-clause-settled : goal.returns-clause-settled
returns-clause-settled c = none_still c.args.self.now _ c.take_back.ensures.leaves
