use Rattle.std.proofs.Common.{[], ◌∷◌, ◌++◌, ap, sym, ◌∙◌}
use Rattle.std.proofs.lemmas.Result.{on_ok_weaker}
use Rattle.bytecode.specs.Instructions.{Drop}
use Rattle.tree_code.specs.Code.{value, effect}
use Rattle.expr_gen.specs.Scope.{trees_of, look_of, scope_of}
use Rattle.expr_gen.proofs.Adding.{adds_as, adds_more}
use Rattle.expr_gen.proofs.Effects.{adds_assign, adds_update, otherwise}
use Rattle.expr_gen.proofs.effect_code.effect.Goals as goal

pub returns-in_ok-ready-in-Assign : goal.returns-in_ok-ready-in-Assign
returns-in_ok-ready-in-Assign c =
    on_ok_weaker c.set_only.result (λ h. adds_assign c.args.n c.in-Assign.ensures c.in_ok-ready-in-Assign.ensures h) c.set_only.ensures

pub returns-in_ok-ready-in-Update : goal.returns-in_ok-ready-in-Update
returns-in_ok-ready-in-Update c =
    on_ok_weaker c.update_only.result (λ h. adds_update c.args.n c.in-Update.ensures c.in_ok-ready-in-Update.ensures h) c.update_only.ensures

pub returns-in_ok-expression-in_default : goal.returns-in_ok-expression-in_default
returns-in_ok-expression-in_default c =
    let t = trees_of c.args.context.now in
    let look = look_of c.args.context.now in
    let env = scope_of c.args.context.now in
    on_ok_weaker c.put.result
    (λ h.
    adds_as
    (ap (λ x. value look env x c.args.n ++ Drop ∷ []) (sym c.expression-node.ensures)
    ∙ otherwise t look env c.expression-node.result c.args.n c.in_default.not-Assign c.in_default.not-Update c.in_default.not-Postfix
    ∙ ap (λ x. effect look env x c.args.n) c.expression-node.ensures)
    (adds_more c.in_ok-expression-in_default.ensures.code (h t)))
    c.put.ensures
