use Rattle.std.proofs.Common.{◌∙◌, ap, length, sym}
use Rattle.source_model.specs.Guards.{Guard}
use Rattle.source_model.specs.Schedules.{act_of}
use Rattle.run_tests.specs.SmallRun.{guard_at}
use Rattle.run_tests.proofs.OneSlot.{one_slot}
use Rattle.run_tests.proofs.tiny.TinyEngine.next_act.Goals as goal

pub returns-in-Start : goal.returns-in-Start
returns-in-Start c = λ asks setup g at going same.
    let is = at.1 ∙ ap guard_at c.in-Start.is in
    ap (λ (x : Guard). act_of x 0) (sym is) ∙ one_slot g c.args._last (ap (λ (x : Guard). length x.seats) is) same

pub returns-in-Moved : goal.returns-in-Moved
returns-in-Moved c = λ asks setup g at going same.
    let is = at.1 ∙ ap guard_at c.in-Moved.is in
    ap (λ (x : Guard). act_of x 0) (sym is) ∙ one_slot g c.args._last (ap (λ (x : Guard). length x.seats) is) same

pub returns-in-Passed : goal.returns-in-Passed
returns-in-Passed c = λ asks setup g at going same.
    let is = at.1 ∙ ap guard_at c.in-Passed.is in
    ap (λ (x : Guard). act_of x 0) (sym is) ∙ one_slot g c.args._last (ap (λ (x : Guard). length x.seats) is) same
