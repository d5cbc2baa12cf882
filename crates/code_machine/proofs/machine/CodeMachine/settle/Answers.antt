use Rattle.code_machine.proofs.Working.{none_left}
use Rattle.code_machine.proofs.machine.CodeMachine.settle.Goals as goal

pub returns-then-not-self-clause-settled : goal.returns-then-not-self-clause-settled
returns-then-not-self-clause-settled c = none_left c.args.self.now c.if-not-self.true

pub returns-clause-settled : goal.returns-clause-settled
returns-clause-settled c = none_left _ c.settle.ensures.leaves
