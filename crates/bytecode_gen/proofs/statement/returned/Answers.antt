use Rattle.std.proofs.Common.{[], ◌∷◌, ◌++◌, ap}
use Rattle.std.proofs.lemmas.Result.{on_ok_weaker}
use Rattle.c_semantics.specs.Stops as stop
use Rattle.resolved_tree.specs.Nodes.{expression_at}
use Rattle.bytecode.specs.Instructions.{Halt}
use Rattle.tree_code.specs.Code.{value}
use Rattle.bytecode_gen.specs.Tails.{trees_of, look_of}
use Rattle.bytecode_gen.proofs.Preceding.{precedes_as, precedes_more}
use Rattle.bytecode_gen.proofs.statement.returned.Goals as goal

pub returns : goal.returns
returns c =
    let s = c.args.source.now in
    let t = trees_of s in
    on_ok_weaker c.value.result
    (λ h. record {
      code = λ env scope.
          precedes_as (ap (λ m. value (look_of s) env (expression_at t c.args.e) c.args.n ++ Halt stop.Return m ∷ []) c.in_ok-point.ensures)
          (precedes_more (c.in_ok-precede.ensures t) (h.code env scope));
    })
    c.value.ensures
