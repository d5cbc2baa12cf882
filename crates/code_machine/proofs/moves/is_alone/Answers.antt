use Rattle.code_machine.proofs.Reaching.{is_alone}
use Rattle.code_machine.proofs.moves.is_alone.Goals as goal

pub returns-in_default-clause-alone : goal.returns-in_default-clause-alone
returns-in_default-clause-alone c = λ e. is_alone c.args.act.now c.in_default.not-Spawn c.in_default.not-Join
