use Rattle.code_machine.proofs.Keeping.{none_due}
use Rattle.code_machine.proofs.Working.{same_run}
use Rattle.code_machine.proofs.state.RunState.run_on.Goals as goal

pub returns-then-not-self-clause-same : goal.returns-then-not-self-clause-same
returns-then-not-self-clause-same c = same_run c.args.image.now c.args.self.now c.requires

pub returns-then-not-self-clause-settled : goal.returns-then-not-self-clause-settled
returns-then-not-self-clause-settled c = none_due c.args.image.now c.args.self.now c.requires c.if-not-self.true c.args.slot
