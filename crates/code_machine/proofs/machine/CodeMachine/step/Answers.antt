use Rattle.std.proofs.Common.{◌≡◌, Result, List, length, false, ap, refl, sym, subst, arith}
use Rattle.std.specs.Prelude.{IfOk}
use Rattle.std.specs.declared.alloc.AllocError.{AllocError}
use Rattle.code_image.specs.declared.image.CodeImage.{CodeImage}
use Rattle.code_machine.specs.declared.moves.CodeStep.{CodeStep}
use Rattle.code_machine.specs.Keeping.{UsesNothing}
use Rattle.code_machine.specs.Kept.{IsKeptRun}
use Rattle.code_machine.specs.Leading.{has_moved}
use Rattle.code_machine.specs.Working.{IsStep}
use Rattle.code_machine.proofs.Working.{none_still}
use Rattle.code_machine.proofs.machine.CodeMachine.step.Goals as goal

pub work_and_step-requires : goal.work_and_step-requires
work_and_step-requires c =
    subst (λ (i : CodeImage). IsKeptRun i c.args.self.now.run) (sym c.deref.ensures) c.args.self.now.kept

is_step : (c : goal.After-self-1) → IsStep c.args.self.now.image.value c.args.slot c.args.self.now.run c.work_and_step.new.run c.work_and_step.result
is_step c =
    subst (λ (i : CodeImage). IsStep i c.args.slot c.args.self.now.run c.work_and_step.new.run c.work_and_step.result) c.deref.ensures c.work_and_step.ensures

pub returns-clause-came : goal.returns-clause-came
returns-clause-came c = (is_step c).came

pub returns-clause-led : goal.returns-clause-led
returns-clause-led c = (is_step c).led

pub returns-clause-run : goal.returns-clause-run
returns-clause-run c = (is_step c).run

pub returns-clause-versions : goal.returns-clause-versions
returns-clause-versions c = ap (λ v. v.items) (is_step c).same.versions

pub returns-clause-used : goal.returns-clause-used
returns-clause-used c = (is_step c).used

pub returns-clause-stays : goal.returns-clause-stays
returns-clause-stays c = λ e.
    let nothing =
    subst (λ (r : Result CodeStep AllocError). IfOk r (λ step. has_moved step ≡ false → UsesNothing c.args.self.now.run c.work_and_step.new.run)) e (is_step c).stays refl in
    (ap (λ v. v.items) nothing.output, nothing.used)

pub returns-clause-long : goal.returns-clause-long
returns-clause-long c = (is_step c).long

pub returns-clause-enough : goal.returns-clause-enough
returns-clause-enough c = λ numbers empty.
    let m = c.args.self.now in
    let none : length m.run.output.items ≡ 0 = ap (λ (bytes : List _). length bytes) empty in
    (is_step c).enough (record { numbers = numbers; room = omega (arith, none, m.room) })

pub returns-clause-settled : goal.returns-clause-settled
returns-clause-settled c = none_still c.args.self.now _ (is_step c).leaves
