use Rattle.std.proofs.Common.{None, refl}
use Rattle.code_machine.proofs.machine.CodeMachine.is_held.Goals as goal

pub returns-else-may_wait : goal.returns-else-may_wait
returns-else-may_wait c = λ settled all is. (None, c.may_wait.ensures settled all is c.if-may_wait.false, refl)
