use Rattle.std.proofs.lemmas.Result.{on_ok_weaker}
use Rattle.resolved_tree.specs.Nodes.{word, type_of}
use Rattle.expr_gen.specs.Scope.{trees_of, scope_of}
use Rattle.expr_gen.proofs.Effects.{adds_stepping_variable}
use Rattle.expr_gen.proofs.effect_code.step_variable.Goals as goal

pub returns : goal.returns
returns c =
    let t = trees_of c.args.context.now in
    on_ok_weaker c.put-2.result
    (λ h.
    adds_stepping_variable (scope_of c.args.context.now) (type_of t c.args.step.0) c.args.step.1 (word t c.args.step.2)
    c.in_ok-number.ensures (c.int.ensures t) (c.in_ok-put.ensures t) (c.kind_of.ensures t) (c.in_ok-compute.ensures t) (h t))
    c.put-2.ensures
