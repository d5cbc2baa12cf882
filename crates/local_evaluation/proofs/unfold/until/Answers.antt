use Rattle.std.proofs.lemmas.Result.{on_ok_weaker}
use Rattle.resolved_tree.specs.Trees.{table}
use Rattle.local_evaluation.proofs.unfold.until.Goals as goal

pub returns : goal.returns
returns c =
    on_ok_weaker c.put.result (λ h. let e = h (table c.args.trees.now) in rw (← c.in_ok-condition.ensures) e) c.put.ensures
