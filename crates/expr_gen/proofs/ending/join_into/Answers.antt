use Rattle.std.proofs.lemmas.Result.{on_ok_weaker}
use Rattle.resolved_tree.specs.Nodes.{place_of}
use Rattle.expr_gen.specs.Scope.{trees_of, scope_of}
use Rattle.expr_gen.proofs.Adding.{adds_as}
use Rattle.expr_gen.proofs.Endings.{adds_joining}
use Rattle.expr_gen.proofs.ending.join_into.Goals as goal

pub returns : goal.returns
returns c =
    let t = trees_of c.args.context.now in
    on_ok_weaker c.put-2.result
    (λ h.
    adds_joining (scope_of c.args.context.now) (place_of t c.args.place) c.args.at
    (adds_as (c.swapping.ensures t) (c.in_ok-put_if.ensures t)) (c.in_ok-put.ensures t) c.in_ok-write.ensures c.in_ok-set_only.ensures
    (c.int.ensures t) (h t))
    c.put-2.ensures
