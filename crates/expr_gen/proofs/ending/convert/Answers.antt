use Rattle.std.proofs.Common.{[], ◌∷◌, ap, ◌∙◌}
use Rattle.std.proofs.lemmas.Result.{on_ok_weaker}
use Rattle.expr_gen.specs.Kinds.{becoming}
use Rattle.expr_gen.specs.Scope.{trees_of}
use Rattle.expr_gen.proofs.Adding.{adds_as}
use Rattle.expr_gen.proofs.ending.convert.Goals as goal

pub returns-in-Some : goal.returns-in-Some
returns-in-Some c =
    let t = trees_of c.args.context.now in
    on_ok_weaker c.put.result
    (λ h. adds_as (ap (λ i. i ∷ []) (c.constant_as.ensures t) ∙ ap (becoming c.args.to c.args.from.1) c.in-Some.ensures) (h t))
    c.put.ensures

pub returns-in-None : goal.returns-in-None
returns-in-None c =
    let t = trees_of c.args.context.now in
    on_ok_weaker c.put_if.result
    (λ h. adds_as (c.conversion.ensures t ∙ ap (becoming c.args.to c.args.from.1) c.in-None.ensures) (h t))
    c.put_if.ensures
