use Rattle.std.proofs.Common.{[], ◌∷◌, ◌++◌, ap}
use Rattle.std.proofs.lemmas.Result.{on_ok_weaker}
use Rattle.resolved_tree.specs.Nodes.{expression_at}
use Rattle.tree_code.specs.Code.{condition_code, unless_jump}
use Rattle.bytecode_gen.specs.Tails.{trees_of, look_of}
use Rattle.bytecode_gen.proofs.Preceding.{precedes_as, precedes_more}
use Rattle.bytecode_gen.proofs.part.condition.Goals as goal

pub returns-in_ok-precede-in-None : goal.returns-in_ok-precede-in-None
returns-in_ok-precede-in-None c =
    let s = c.args.source.now in
    let t = trees_of s in
    on_ok_weaker c.value.result
    (λ h. record {
      code = λ env scope.
          precedes_as
          (ap (λ o. condition_code (look_of s) env (expression_at t c.args.c) o c.args.n ++ unless_jump o c.args.over ∷ []) c.in-None.ensures)
          (precedes_more (c.in_ok-precede-in-None.ensures t) (h.code env scope));
    })
    c.value.ensures

pub returns-in_ok-precede-in-Some : goal.returns-in_ok-precede-in-Some
returns-in_ok-precede-in-Some c =
    let s = c.args.source.now in
    let t = trees_of s in
    on_ok_weaker c.value-in-Some.result
    (λ h. record {
      code = λ env scope.
          precedes_as
          (ap (λ o. condition_code (look_of s) env (expression_at t c.args.c) o c.args.n ++ unless_jump o c.args.over ∷ []) c.in-Some.ensures)
          (precedes_more (c.in_ok-precede-in-Some.ensures t) (h.code env scope));
    })
    c.value-in-Some.ensures
