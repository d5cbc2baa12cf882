use Rattle.std.proofs.Common.{[], ◌∷◌, ◌++◌, ap, sym, ◌∙◌}
use Rattle.std.proofs.lemmas.Result.{on_ok_weaker}
use Rattle.c_semantics.specs.Resolved as tree
use Rattle.resolved_tree.specs.Nodes.{word, place_of, type_of}
use Rattle.bytecode.specs.Instructions.{Drop}
use Rattle.tree_code.specs.Code.{value, effect}
use Rattle.expr_gen.specs.Scope.{trees_of, look_of, scope_of}
use Rattle.expr_gen.proofs.Adding.{adds_as, adds_more}
use Rattle.expr_gen.proofs.Effects.{stepped, stepped_elsewhere}
use Rattle.expr_gen.proofs.effect_code.step_only.Goals as goal

pub returns-in-Local : goal.returns-in-Local
returns-in-Local c =
    let t = trees_of c.args.context.now in
    let look = look_of c.args.context.now in
    let env = scope_of c.args.context.now in
    let type = type_of t c.args.step.1 in
    on_ok_weaker c.step_variable.result
    (λ h.
    adds_as
    (stepped look env type c.args.step.2 (word t c.in-Local.name) c.args.n
    ∙ ap (λ q. effect look env (tree.Postfix type c.args.step.2 (place_of t q)) c.args.n) (sym c.in-Local.is)
    ∙ ap (λ x. effect look env x c.args.n) (sym c.requires))
    h)
    c.step_variable.ensures

pub returns-in_ok-expression-in_default : goal.returns-in_ok-expression-in_default
returns-in_ok-expression-in_default c =
    let t = trees_of c.args.context.now in
    let look = look_of c.args.context.now in
    let env = scope_of c.args.context.now in
    on_ok_weaker c.put.result
    (λ h.
    adds_as
    (ap (λ x. value look env x c.args.n ++ Drop ∷ []) c.requires
    ∙ stepped_elsewhere t look env (type_of t c.args.step.1) c.args.step.2 c.args.step.3 c.args.n c.in_default.not-Local
    ∙ ap (λ x. effect look env x c.args.n) (sym c.requires))
    (adds_more c.in_ok-expression-in_default.ensures.code (h t)))
    c.put.ensures
