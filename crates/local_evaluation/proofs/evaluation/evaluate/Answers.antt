use Rattle.std.proofs.Common.{ap, ◌∙◌}
use Rattle.c_semantics.specs.Evaluation.{local}
use Rattle.resolved_tree.specs.Trees.{table}
use Rattle.local_evaluation.specs.Work.{newest, scopes_of}
use Rattle.local_evaluation.proofs.evaluation.evaluate.Goals as goal

pub returns : goal.returns
returns c =
    let t = table c.args.trees.now in
    c.loop-piece.invariant
    ∙ ap (λ ps. local ps (newest c.loop-piece.work.values.items) (scopes_of t c.loop-piece.work.scopes.items)) (c.in_default.ensures.first t).0
