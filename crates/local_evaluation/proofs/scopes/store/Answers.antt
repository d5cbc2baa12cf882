use Rattle.std.proofs.Common.{sym, ap, ◌∙◌, arith}
use Rattle.c_semantics.specs.Evaluation.{stored}
use Rattle.local_evaluation.specs.declared.work.Local.TheVariants.{Block}
use Rattle.resolved_tree.specs.Nodes.{word}
use Rattle.resolved_tree.specs.Trees.{table}
use Rattle.local_evaluation.specs.Values.{seen}
use Rattle.local_evaluation.specs.Work.{scopes_of}
use Rattle.local_evaluation.proofs.Variables.{store_found, store_passes, store_leaves}
use Rattle.local_evaluation.proofs.scopes.store.Goals as goal

pub returns-then-same : goal.returns-then-same
returns-then-same c =
    let t = table c.args.trees.now in
    let name = word t c.args.name in
    store_found t c.loop-left.scopes c.loop-left.left Block c.in-Variable.other c.in-Variable.field-1 c.args.value name
    (omega arith) c.loop-left.invariant.within c.in-Variable.is (sym c.same.ensures ∙ c.if-same.true)
    ∙ sym c.loop-left.invariant.rest
    ∙ ap (λ ls. stored name (seen c.args.value) (scopes_of t ls)) c.loop-left.invariant.same

pub loop-left-preserved-else-same : goal.loop-left-preserved-else-same
loop-left-preserved-else-same c =
    let t = table c.args.trees.now in
    record {
      within = omega arith;
      same = c.loop-left.invariant.same;
      rest = c.loop-left.invariant.rest
          ∙ store_passes t c.loop-left.scopes c.loop-left.left Block c.in-Variable.other c.in-Variable.field-1 (word t c.args.name) (seen c.args.value)
          (omega arith) c.loop-left.invariant.within c.in-Variable.is (sym c.same.ensures ∙ c.if-same.false);
    }

pub loop-left-preserved : goal.loop-left-preserved
loop-left-preserved c =
    let t = table c.args.trees.now in
    record {
      within = omega arith;
      same = c.loop-left.invariant.same;
      rest = c.loop-left.invariant.rest
          ∙ store_leaves t c.loop-left.scopes c.loop-left.left Block (word t c.args.name) (seen c.args.value)
          (omega arith) c.loop-left.invariant.within c.in_default.is;
    }
