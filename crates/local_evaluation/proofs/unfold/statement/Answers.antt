use Rattle.std.proofs.lemmas.Result.{on_ok_weaker}
use Rattle.resolved_tree.specs.Trees.{table}
use Rattle.local_evaluation.proofs.unfold.statement.Goals as goal

pub returns-in-Block : goal.returns-in-Block
returns-in-Block c =
    on_ok_weaker c.two.result (λ h. let e = h (table c.args.trees.now) in rw (c.in-Block.is) e) c.two.ensures

pub returns-in-Evaluate : goal.returns-in-Evaluate
returns-in-Evaluate c =
    on_ok_weaker c.two-in-Evaluate.result (λ h. let e = h (table c.args.trees.now) in rw (c.in-Evaluate.is) e) c.two-in-Evaluate.ensures

pub returns-in_ok-write-in-Declare-default-default-Some : goal.returns-in_ok-write-in-Declare-default-default-Some
returns-in_ok-write-in-Declare-default-default-Some c =
    on_ok_weaker c.put.result (λ h. let e = h (table c.args.trees.now) in let i = c.in-Declare-default-default-Some.is in let a = rw i at c.in-Declare-default-default-Some.field-2-is in rw (i, a, ← c.in_ok-write-in-Declare-default-default-Some.ensures) e) c.put.ensures

pub returns-in_ok-body-in-If : goal.returns-in_ok-body-in-If
returns-in_ok-body-in-If c =
    on_ok_weaker c.two-in-If.result (λ h. let e = h (table c.args.trees.now) in rw (c.in-If.is, ← c.in_ok-body-in-If.ensures) e) c.two-in-If.ensures

pub returns-in_ok-body-in-IfElse : goal.returns-in_ok-body-in-IfElse
returns-in_ok-body-in-IfElse c =
    on_ok_weaker c.two-in-IfElse.result (λ h. let e = h (table c.args.trees.now) in rw (c.in-IfElse.is, ← c.in_ok-body-in-IfElse.ensures) e) c.two-in-IfElse.ensures

pub returns-in_ok-at-in-Return : goal.returns-in_ok-at-in-Return
returns-in_ok-at-in-Return c =
    on_ok_weaker c.two-in-Return.result (λ h. let e = h (table c.args.trees.now) in rw (c.in-Return.is, ← c.in_ok-at-in-Return.ensures) e) c.two-in-Return.ensures

pub returns-in-While : goal.returns-in-While
returns-in-While c =
    on_ok_weaker c.one.result (λ h. let e = h (table c.args.trees.now) in rw (c.in-While.is) (rw (c.while_loop.ensures) at e)) c.one.ensures

pub returns-in-DoWhile : goal.returns-in-DoWhile
returns-in-DoWhile c =
    on_ok_weaker c.two-in-DoWhile.result (λ h. let e = h (table c.args.trees.now) in rw (c.in-DoWhile.is) e) c.two-in-DoWhile.ensures

pub returns-in-UpdatePoint : goal.returns-in-UpdatePoint
returns-in-UpdatePoint c =
    on_ok_weaker c.one-in-UpdatePoint.result (λ h. let e = h (table c.args.trees.now) in rw (c.in-UpdatePoint.is) e) c.one-in-UpdatePoint.ensures
