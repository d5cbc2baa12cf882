use Rattle.std.proofs.lemmas.Result.{on_ok_weaker}
use Rattle.resolved_tree.specs.Trees.{table}
use Rattle.local_evaluation.proofs.unfold.expression.Goals as goal

pub returns-in-Constant : goal.returns-in-Constant
returns-in-Constant c =
    on_ok_weaker c.one.result (λ h. let e = h (table c.args.trees.now) in rw (c.in-Constant.is) e) c.one.ensures

pub returns-in-Unary : goal.returns-in-Unary
returns-in-Unary c =
    on_ok_weaker c.two-in-Unary.result (λ h. let e = h (table c.args.trees.now) in rw (c.in-Unary.is) e) c.two-in-Unary.ensures

pub returns-in_ok-second-in-Binary : goal.returns-in_ok-second-in-Binary
returns-in_ok-second-in-Binary c =
    on_ok_weaker c.put.result (λ h. let e = h (table c.args.trees.now) in rw (c.in-Binary.is, ← c.in_ok-second-in-Binary.ensures) e) c.put.ensures

pub returns-in_ok-second-in-And : goal.returns-in_ok-second-in-And
returns-in_ok-second-in-And c =
    on_ok_weaker c.two-in-And.result (λ h. let e = h (table c.args.trees.now) in rw (c.in-And.is, ← c.in_ok-second-in-And.ensures) e) c.two-in-And.ensures

pub returns-in_ok-second-in-Or : goal.returns-in_ok-second-in-Or
returns-in_ok-second-in-Or c =
    on_ok_weaker c.two-in-Or.result (λ h. let e = h (table c.args.trees.now) in rw (c.in-Or.is, ← c.in_ok-second-in-Or.ensures) e) c.two-in-Or.ensures

pub returns-in_ok-first-in-Choice : goal.returns-in_ok-first-in-Choice
returns-in_ok-first-in-Choice c =
    on_ok_weaker c.two-in-Choice.result (λ h. let e = h (table c.args.trees.now) in rw (c.in-Choice.is, ← c.in_ok-first-in-Choice.ensures) e) c.two-in-Choice.ensures

pub returns-in_ok-at-in-Free : goal.returns-in_ok-at-in-Free
returns-in_ok-at-in-Free c =
    on_ok_weaker c.two-in-Free.result (λ h. let e = h (table c.args.trees.now) in rw (c.in-Free.is, ← c.in_ok-at-in-Free.ensures) e) c.two-in-Free.ensures

pub returns-in_ok-at-in-Call : goal.returns-in_ok-at-in-Call
returns-in_ok-at-in-Call c =
    on_ok_weaker c.two-in-Call.result (λ h. let e = h (table c.args.trees.now) in rw (c.in-Call.is, ← c.in_ok-at-in-Call.ensures, ← c.in_ok-count-in-Call.ensures) e) c.two-in-Call.ensures

pub returns-in_ok-at-in-Print : goal.returns-in_ok-at-in-Print
returns-in_ok-at-in-Print c =
    on_ok_weaker c.two-in-Print.result (λ h. let e = h (table c.args.trees.now) in rw (c.in-Print.is, ← c.in_ok-at-in-Print.ensures, ← c.in_ok-count-in-Print.ensures) e) c.two-in-Print.ensures

pub returns-in-New : goal.returns-in-New
returns-in-New c =
    on_ok_weaker c.one-in-New.result (λ h. let e = h (table c.args.trees.now) in rw (c.in-New.is) e) c.one-in-New.ensures

pub returns-in-InitMutex : goal.returns-in-InitMutex
returns-in-InitMutex c =
    on_ok_weaker c.one-in-InitMutex.result (λ h. let e = h (table c.args.trees.now) in rw (c.in-InitMutex.is) e) c.one-in-InitMutex.ensures

pub returns-in-Lock : goal.returns-in-Lock
returns-in-Lock c =
    on_ok_weaker c.one-in-Lock.result (λ h. let e = h (table c.args.trees.now) in rw (c.in-Lock.is) e) c.one-in-Lock.ensures

pub returns-in-Unlock : goal.returns-in-Unlock
returns-in-Unlock c =
    on_ok_weaker c.one-in-Unlock.result (λ h. let e = h (table c.args.trees.now) in rw (c.in-Unlock.is) e) c.one-in-Unlock.ensures
