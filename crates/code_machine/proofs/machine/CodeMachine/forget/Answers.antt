use Rattle.std.proofs.Common.{refl}
use Rattle.code_machine.proofs.Keeping.{same_used, stays_run}
use Rattle.code_machine.proofs.machine.CodeMachine.forget.Goals as goal

pub returns-clause-run : goal.returns-clause-run
returns-clause-run c = λ texts is. stays_run texts c.args.self.now.image.value c.args.self.now.run _ refl refl refl refl is.frames is

pub returns-clause-used : goal.returns-clause-used
returns-clause-used c = λ n u. same_used c.args.self.now.run _ refl refl refl n u

pub returns-clause-settled : goal.returns-clause-settled
returns-clause-settled c = λ s. record {
  none = λ n d. s.none n (record { running = d.running; there = d.there; due = d.due });
  leaves = s.leaves;
}
