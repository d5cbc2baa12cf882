use Rattle.std.proofs.Common.{[], ◌∷◌, ap, ◌∙◌, add-one}
use Rattle.std.proofs.lemmas.Result.{on_ok_weaker}
use Rattle.run_types.specs.CheckIns as check_in
use Rattle.c_semantics.specs.Evaluation.{count}
use Rattle.c_semantics.specs.Stops as stop
use Rattle.resolved_tree.specs.Nodes.{word, arguments_at}
use Rattle.bytecode.specs.Instructions.{Halt, CheckIn}
use Rattle.expr_gen.specs.Scope.{trees_of}
use Rattle.expr_gen.proofs.Adding.{adds_as}
use Rattle.expr_gen.proofs.ending.call.Goals as goal

pub returns : goal.returns
returns c =
    let t = trees_of c.args.context.now in
    let at = c.args.at in
    on_ok_weaker c.put.result
    (λ h.
    adds_as
    (ap (λ n. Halt (stop.Call (word t c.args.called.0) n) at ∷ CheckIn check_in.Call c.in_ok-sum.field-0 ∷ []) c.in_ok-count.ensures
    ∙ ap (λ m. Halt (stop.Call (word t c.args.called.0) (count (arguments_at t c.args.called.1))) at ∷ CheckIn check_in.Call m ∷ [])
    (c.in_ok-sum.ensures ∙ add-one at))
    (h t))
    c.put.ensures
