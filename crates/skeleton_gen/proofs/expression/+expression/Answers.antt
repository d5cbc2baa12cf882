use Rattle.std.proofs.Common.{arith}
use Rattle.std.proofs.lemmas.Result.{IfOk-weaker}
use Rattle.resolved_tree.specs.Trees.{table}
use Rattle.skeleton_gen.proofs.Adding.{adds_in_order}
use Rattle.skeleton_gen.proofs.StepOrder.{steps_weigh_less, adds_steps}
use Rattle.skeleton_gen.proofs.expression.+expression.Goals as goal

pub expression-add_step-requires : goal.expression-add_step-requires
expression-add_step-requires t c =
    let h = steps_weigh_less (table c.args.trees.now) c.expression.result c.in_order-first.result _ c.in_order-first.ensures c.expression.ensures in
    (omega arith, tt)

pub expression-add_step-requires-2 : goal.expression-add_step-requires-2
expression-add_step-requires-2 t c =
    let h = steps_weigh_less (table c.args.trees.now) c.expression.result c.in_order-first.result _ c.in_order-first.ensures c.expression.ensures in
    (omega arith, tt)

pub expression-add_step-requires-3 : goal.expression-add_step-requires-3
expression-add_step-requires-3 t c =
    let h = steps_weigh_less (table c.args.trees.now) c.expression.result c.in_order-first.result _ c.in_order-first.ensures c.expression.ensures in
    (omega arith, tt)

pub expression-add_step-requires-4 : goal.expression-add_step-requires-4
expression-add_step-requires-4 t c =
    let h = steps_weigh_less (table c.args.trees.now) c.expression.result c.in_order-first.result _ c.in_order-first.ensures c.expression.ensures in
    (omega arith, tt)

pub expression-returns : goal.expression-returns
expression-returns t c =
    IfOk-weaker c.add_step-4.result _ _
    (λ first h. adds_steps (table c.args.trees.now) c.expression.result c.in_order-first.result _ c.in_order-first.ensures c.expression.ensures
    (adds_in_order (adds_in_order (adds_in_order c.in_ok-to.ensures c.in_ok-to-2.ensures) c.in_ok-to-3.ensures) h))
    c.add_step-4.ensures
