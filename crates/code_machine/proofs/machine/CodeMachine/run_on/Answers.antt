use Rattle.code_machine.proofs.Working.{none_still}
use Rattle.code_machine.proofs.machine.CodeMachine.run_on.Goals as goal

pub returns-clause-settled : goal.returns-clause-settled
returns-clause-settled c = none_still c.args.self.now _ c.run_on.ensures.leaves
