use Rattle.std.proofs.Common.{◌+◌, sym, ap, ◌∙◌}
use Rattle.c_semantics.specs.Points.{size}
use Rattle.resolved_tree.specs.Nodes.{statement_at, expression_at}
use Rattle.local_evaluation.specs.Pieces.{pending}
use Rattle.resolved_tree.specs.Trees.{table}
use Rattle.local_evaluation.specs.Values.{seen}
use Rattle.local_evaluation.specs.Work.{newest, scopes_of}
use Rattle.local_evaluation.proofs.Following.{repeat_stops}
use Rattle.local_evaluation.proofs.step.repeat.Goals as goal

pub returns : goal.returns
returns c = λ q.
    let t = table c.args.trees.now in
    record {
      meaning = repeat_stops (statement_at t c.args.body) (expression_at t c.args.c) c.args.n c.in_ok-at.at (pending t c.args.work.now.pieces.items)
          (pending t c.put.new.pieces.items) (seen c.in-Some.value) (newest c.args.work.now.values.items) (newest c.pop.new.values.items)
          (scopes_of t c.args.work.now.scopes.items) c.in-Some.ensures (sym c.is_true.ensures ∙ c.if-not-is_true.false)
          (c.in_ok-at.ensures ∙ ap (λ m. m + size (expression_at t c.args.c)) c.in_ok-condition.ensures) (c.in_ok-put.ensures t);
      falls = λ h. cc;
    }
