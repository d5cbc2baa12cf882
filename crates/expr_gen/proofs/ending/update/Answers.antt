use Rattle.std.proofs.Common.{ap}
use Rattle.std.proofs.lemmas.Result.{on_ok_weaker}
use Rattle.expr_gen.specs.Kinds.{computing}
use Rattle.expr_gen.specs.Scope.{trees_of}
use Rattle.expr_gen.proofs.Adding.{adds_as, adds_more}
use Rattle.expr_gen.proofs.ending.update.Goals as goal

pub returns : goal.returns
returns c =
    let t = trees_of c.args.context.now in
    on_ok_weaker c.set.result
    (λ h. adds_more (adds_as (ap (λ k. computing c.args.step.1 k c.args.ready.second) (c.kind_of.ensures t)) (c.in_ok-compute.ensures t)) h)
    c.set.ensures
