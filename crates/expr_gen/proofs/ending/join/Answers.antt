use Rattle.std.proofs.Common.{[], ◌∷◌, ap}
use Rattle.std.proofs.lemmas.Result.{on_ok_weaker}
use Rattle.c_semantics.specs.Stops as stop
use Rattle.bytecode.specs.Instructions.{Halt, Drop}
use Rattle.expr_gen.proofs.Adding.{adds_as}
use Rattle.expr_gen.proofs.ending.join.Goals as goal

pub returns : goal.returns
returns c =
    on_ok_weaker c.put.result
    (λ h t. adds_as (ap (λ i. Halt stop.Join c.args.at ∷ Drop ∷ i ∷ []) (c.int.ensures t)) (h t))
    c.put.ensures
