use Rattle.std.proofs.lemmas.Result.{on_ok_weaker}
use Rattle.resolved_tree.specs.Nodes.{word, place_of}
use Rattle.expr_gen.specs.Scope.{trees_of, scope_of}
use Rattle.expr_gen.proofs.Endings.{adds_creating}
use Rattle.expr_gen.proofs.ending.create.Goals as goal

pub returns : goal.returns
returns c =
    let t = trees_of c.args.context.now in
    on_ok_weaker c.put-2.result
    (λ h.
    adds_creating (scope_of c.args.context.now) (place_of t c.args.started.0) (word t c.args.started.1) c.args.at
    (c.in_ok-put.ensures t) c.in_ok-write.ensures c.in_ok-set.ensures (h t))
    c.put-2.ensures
