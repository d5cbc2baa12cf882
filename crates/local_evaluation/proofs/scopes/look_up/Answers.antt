use Rattle.std.proofs.Common.{sym, ◌∙◌, arith}
use Rattle.local_evaluation.specs.declared.work.Local.TheVariants.{Block}
use Rattle.resolved_tree.specs.Nodes.{word}
use Rattle.resolved_tree.specs.Trees.{table}
use Rattle.local_evaluation.proofs.Variables.{look_up_found, look_up_passes, look_up_leaves}
use Rattle.local_evaluation.proofs.scopes.look_up.Goals as goal

pub returns-then-same : goal.returns-then-same
returns-then-same c =
    let t = table c.args.trees.now in
    sym (look_up_found t c.args.scopes.now c.loop-left.left Block c.in-Variable.other c.in-Variable.value (word t c.args.name)
    (omega arith) c.loop-left.invariant.within c.in-Variable.is (sym c.same.ensures ∙ c.if-same.true))
    ∙ c.loop-left.invariant.same

pub loop-left-preserved-else-same : goal.loop-left-preserved-else-same
loop-left-preserved-else-same c =
    let t = table c.args.trees.now in
    record {
      within = omega arith;
      same = look_up_passes t c.args.scopes.now c.loop-left.left Block c.in-Variable.other c.in-Variable.value (word t c.args.name)
          (omega arith) c.loop-left.invariant.within c.in-Variable.is (sym c.same.ensures ∙ c.if-same.false)
          ∙ c.loop-left.invariant.same;
    }

pub loop-left-preserved : goal.loop-left-preserved
loop-left-preserved c =
    let t = table c.args.trees.now in
    record {
      within = omega arith;
      same = look_up_leaves t c.args.scopes.now c.loop-left.left Block (word t c.args.name)
          (omega arith) c.loop-left.invariant.within c.in_default.is
          ∙ c.loop-left.invariant.same;
    }
