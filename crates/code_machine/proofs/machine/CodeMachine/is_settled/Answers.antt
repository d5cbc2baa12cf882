use Rattle.std.proofs.Common.{◌≡◌, Bool, false, true, not, refl}
use Rattle.code_machine.proofs.Working.{none_left}
use Rattle.code_machine.proofs.machine.CodeMachine.is_settled.Goals as goal

off : (b : Bool) → not b ≡ true → b ≡ false
off false e = refl
off true e = absurd (cc)

pub returns : goal.returns
returns c = λ on. none_left c.args.self.now (off c.args.self.now.run.leaves_work on)
