use Rattle.std.proofs.lemmas.Result.{on_ok_weaker}
use Rattle.resolved_tree.specs.Trees.{table}
use Rattle.local_evaluation.proofs.unfold.statements.Goals as goal

pub returns-in_ok-behind-in-Then : goal.returns-in_ok-behind-in-Then
returns-in_ok-behind-in-Then c =
    on_ok_weaker c.put.result (λ h. let e = h (table c.args.trees.now) in rw (c.in-Then.is, ← c.in_ok-behind-in-Then.ensures) e) c.put.ensures
