use Rattle.std.proofs.lemmas.Result.{on_ok_weaker}
use Rattle.resolved_tree.specs.Nodes.{place_of, type_of}
use Rattle.expr_gen.specs.Scope.{trees_of, scope_of}
use Rattle.expr_gen.proofs.Adding.{adds_as}
use Rattle.expr_gen.proofs.Endings.{adds_stepping}
use Rattle.expr_gen.proofs.ending.postfix.Goals as goal

pub returns : goal.returns
returns c =
    let t = trees_of c.args.context.now in
    on_ok_weaker c.set_only.result
    (λ h.
    adds_stepping (scope_of c.args.context.now) (type_of t c.args.step.0) c.args.step.1 (place_of t c.args.step.2) c.args.at
    (adds_as (c.copying.ensures t) (c.in_ok-put_if.ensures t)) c.in_ok-read.ensures (c.tucking.ensures t) (c.int.ensures t) (c.in_ok-put.ensures t)
    (c.kind_of.ensures t) (c.in_ok-compute.ensures t) c.in_ok-write.ensures h)
    c.set_only.ensures
