use Rattle.std.proofs.Common.{[], ◌∷◌, ap}
use Rattle.std.proofs.lemmas.Result.{on_ok_weaker}
use Rattle.c_semantics.specs.Stops as stop
use Rattle.resolved_tree.specs.Nodes.{word}
use Rattle.bytecode.specs.Instructions.{Halt}
use Rattle.expr_gen.specs.Scope.{trees_of}
use Rattle.expr_gen.proofs.Adding.{adds_as}
use Rattle.expr_gen.proofs.ending.print.Goals as goal

pub returns : goal.returns
returns c =
    let t = trees_of c.args.context.now in
    on_ok_weaker c.put.result
    (λ h. adds_as (ap (λ n. Halt (stop.Print (word t c.args.printed.0) n) c.args.at ∷ []) c.in_ok-count.ensures) (h t))
    c.put.ensures
