use Rattle.std.proofs.Common.{[], ◌∷◌, ap, sym, ◌∙◌}
use Rattle.std.proofs.lemmas.Result.{on_ok_weaker}
use Rattle.resolved_tree.specs.Nodes.{expression_of}
use Rattle.expr_gen.specs.Endings.{ending}
use Rattle.expr_gen.specs.Scope.{trees_of, scope_of}
use Rattle.expr_gen.proofs.Adding.{adds_as}
use Rattle.expr_gen.proofs.ending.finish.Goals as goal

pub returns-in-Constant : goal.returns-in-Constant
returns-in-Constant c =
    let t = trees_of c.args.context.now in
    let r = c.args.ready in
    on_ok_weaker c.put.result
    (λ h. adds_as (ap (λ i. i ∷ []) (c.number.ensures t) ∙ ap (λ node. ending (scope_of c.args.context.now) (expression_of t node) r.first r.second r.at) (sym c.in-Constant.is)) (h t))
    c.put.ensures

pub returns-in-Unary : goal.returns-in-Unary
returns-in-Unary c =
    let t = trees_of c.args.context.now in
    let r = c.args.ready in
    on_ok_weaker c.put_if.result
    (λ h. adds_as (c.application.ensures t ∙ ap (λ node. ending (scope_of c.args.context.now) (expression_of t node) r.first r.second r.at) (sym c.in-Unary.is)) (h t))
    c.put_if.ensures

pub returns-in-Binary : goal.returns-in-Binary
returns-in-Binary c =
    let t = trees_of c.args.context.now in
    let r = c.args.ready in
    on_ok_weaker c.put-in-Binary.result
    (λ h. adds_as (ap (λ i. i ∷ []) (c.combination.ensures t) ∙ ap (λ node. ending (scope_of c.args.context.now) (expression_of t node) r.first r.second r.at) (sym c.in-Binary.is)) (h t))
    c.put-in-Binary.ensures

pub returns-in-Join : goal.returns-in-Join
returns-in-Join c =
    let t = trees_of c.args.context.now in
    let r = c.args.ready in
    on_ok_weaker c.join.result
    (λ h. adds_as (ap (λ node. ending (scope_of c.args.context.now) (expression_of t node) r.first r.second r.at) (sym c.in-Join.is)) (h t))
    c.join.ensures

pub returns-in-Free : goal.returns-in-Free
returns-in-Free c =
    let t = trees_of c.args.context.now in
    let r = c.args.ready in
    on_ok_weaker c.put-in-Free.result
    (λ h. adds_as (ap (λ node. ending (scope_of c.args.context.now) (expression_of t node) r.first r.second r.at) (sym c.in-Free.is)) (h t))
    c.put-in-Free.ensures

pub returns-in-New : goal.returns-in-New
returns-in-New c =
    let t = trees_of c.args.context.now in
    let r = c.args.ready in
    on_ok_weaker c.put-in-New.result
    (λ h. adds_as (ap (λ node. ending (scope_of c.args.context.now) (expression_of t node) r.first r.second r.at) (sym c.in-New.is)) (h t))
    c.put-in-New.ensures

pub returns-in-InitMutex : goal.returns-in-InitMutex
returns-in-InitMutex c =
    let t = trees_of c.args.context.now in
    let r = c.args.ready in
    on_ok_weaker c.put-in-InitMutex.result
    (λ h. adds_as (ap (λ node. ending (scope_of c.args.context.now) (expression_of t node) r.first r.second r.at) (sym c.in-InitMutex.is)) (h t))
    c.put-in-InitMutex.ensures

pub returns-in-Lock : goal.returns-in-Lock
returns-in-Lock c =
    let t = trees_of c.args.context.now in
    let r = c.args.ready in
    on_ok_weaker c.put-in-Lock.result
    (λ h. adds_as (ap (λ node. ending (scope_of c.args.context.now) (expression_of t node) r.first r.second r.at) (sym c.in-Lock.is)) (h t))
    c.put-in-Lock.ensures

pub returns-in-Unlock : goal.returns-in-Unlock
returns-in-Unlock c =
    let t = trees_of c.args.context.now in
    let r = c.args.ready in
    on_ok_weaker c.put-in-Unlock.result
    (λ h. adds_as (ap (λ node. ending (scope_of c.args.context.now) (expression_of t node) r.first r.second r.at) (sym c.in-Unlock.is)) (h t))
    c.put-in-Unlock.ensures
