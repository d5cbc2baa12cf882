use Rattle.std.proofs.lemmas.Result.{IfOk-weaker}
use Rattle.skeleton_gen.proofs.StatementParts.{adds_update}
use Rattle.skeleton_gen.proofs.statement.update_point.Goals as goal

pub returns : goal.returns
returns c =
    IfOk-weaker c.point-2.result _ _
    (λ first h table broken continued. adds_update c.args.on.items broken continued (c.in_ok-to.ensures table) (h table))
    c.point-2.ensures
