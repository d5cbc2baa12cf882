use Rattle.std.proofs.Common.{◌≡◌, ap, sym, ◌∙◌}
use Rattle.c_semantics.specs.Evaluation.{local}
use Rattle.resolved_tree.specs.Nodes.{expression_at}
use Rattle.local_evaluation.specs.Pieces.{pending}
use Rattle.local_evaluation.specs.Steps.{expression_pieces}
use Rattle.resolved_tree.specs.Trees.{table}
use Rattle.local_evaluation.specs.Work.{newest, scopes_of}
use Rattle.local_evaluation.proofs.StepLaws.{expression_law, expression_falls}
use Rattle.local_evaluation.proofs.step.compute.Goals as goal

pub returns : goal.returns
returns c = λ q.
    let t = table c.args.trees.now in
    let e = expression_at t c.args.e in
    let rest = pending t c.args.work.now.pieces.items in
    let values = newest c.args.work.now.values.items in
    let scopes = scopes_of t c.args.work.now.scopes.items in
    let made : pending t c.expression-2.new.pieces.items ≡ expression_pieces e c.args.n rest =
    c.in_ok-expression.ensures ∙ ap (λ x. expression_pieces x c.args.n rest) c.expression.ensures
    in
    record {
      meaning = ap (λ f. f values scopes) (expression_law e c.args.n rest) ∙ ap (λ ps. local ps values scopes) (sym made);
      falls = λ _. rw made (expression_falls e c.args.n rest);
    }
