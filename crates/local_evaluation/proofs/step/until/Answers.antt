use Rattle.std.proofs.Common.{ap, sym, arith}
use Rattle.c_semantics.specs.Evaluation.{local}
use Rattle.resolved_tree.specs.Trees.{table}
use Rattle.local_evaluation.specs.Work.{newest, scopes_of}
use Rattle.local_evaluation.proofs.step.until.Goals as goal

pub returns : goal.returns
returns c = λ q.
    let t = table c.args.trees.now in
    let values = newest c.args.work.now.values.items in
    let scopes = scopes_of t c.args.work.now.scopes.items in
    record {
      meaning = ap (λ ps. local ps values scopes) (sym c.in_ok-until.ensures);
      falls = λ _. rw c.in_ok-until.ensures (omega arith);
    }
