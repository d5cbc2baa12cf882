use Rattle.std.proofs.Common.{[], ◌∷◌, ◌++◌, ◌-◌, length, ap, sym, ◌∙◌}
use Rattle.std.proofs.lemmas.Result.{on_ok_weaker}
use Rattle.resolved_tree.specs.Nodes.{expression_at, expression_if}
use Rattle.tree_code.specs.Code.{condition_code, negated, unless_jump}
use Rattle.bytecode_gen.specs.Loops.{guard_code}
use Rattle.bytecode_gen.specs.Tails.{trees_of, look_of}
use Rattle.bytecode_gen.proofs.Preceding.{precedes_as, precedes_nothing}
use Rattle.bytecode_gen.proofs.statement.guard.Goals as goal

pub returns-in_default : goal.returns-in_default
returns-in_default c =
    let s = c.args.source.now in
    let t = trees_of s in
    let items = c.args.tail.now.items in
    record {
      code = λ env scope.
          precedes_as (ap (λ o. guard_code (look_of s) env (expression_if t o) c.args.l.first (length items - c.args.past)) (sym c.in_default.is))
          (precedes_nothing t items);
    }

pub returns : goal.returns
returns c =
    let s = c.args.source.now in
    let t = trees_of s in
    let tree = expression_at t c.in-Some.c in
    on_ok_weaker c.condition.result
    (λ h. record {
      code = λ env scope.
          precedes_as
          (ap (λ d. condition_code (look_of s) env tree (negated tree) c.args.l.first ++ unless_jump (negated tree) d ∷ []) c.in_ok-over.ensures
          ∙ ap (λ o. guard_code (look_of s) env (expression_if t o) c.args.l.first (length c.args.tail.now.items - c.args.past)) (sym c.in-Some.is))
          (h.code env scope);
    })
    c.condition.ensures
