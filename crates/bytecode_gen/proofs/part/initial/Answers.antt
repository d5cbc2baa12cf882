use Rattle.std.proofs.Common.{◌≡◌, [], ◌∷◌, ap, sym, ◌∙◌, append-nil}
use Rattle.std.proofs.lemmas.Result.{on_ok_weaker}
use Rattle.typed_trees.specs.ValueTypes.{in_scope}
use Rattle.resolved_tree.specs.Nodes.{expression_if, word, type_of}
use Rattle.bytecode.specs.Instructions.{Store}
use Rattle.tree_code.specs.Code.{initial, zero_code}
use Rattle.expr_gen.specs.Scope.{variables_of}
use Rattle.expr_gen.proofs.Scopes.{slots}
use Rattle.bytecode_gen.specs.Tails.{trees_of, look_of}
use Rattle.bytecode_gen.proofs.Preceding.{precedes_as, precedes_more}
use Rattle.bytecode_gen.proofs.part.initial.Goals as goal

pub returns-in_default : goal.returns-in_default
returns-in_default c =
    let s = c.args.source.now in
    let t = trees_of s in
    let d = c.args.declared in
    let vs = variables_of t c.args.variables.now in
    on_ok_weaker c.precede.result
    (λ h. record {
      code = λ env scope.
          let same : in_scope (vs ∷ []) ≡ in_scope env = append-nil vs ∙ sym scope.same in
          let number = c.in_ok-number.ensures ∙ slots (vs ∷ []) env same (word t d.1) in
          precedes_as
          (ap (λ i. i ∷ Store c.in_ok-number.number ∷ []) (c.zero.ensures t) ∙ ap (λ k. zero_code (type_of t d.0) ∷ Store k ∷ []) number
          ∙ ap (λ o. initial (look_of s) env (type_of t d.0) (word t d.1) (expression_if t o) c.args.n) (sym c.in_default.is))
          (h t);
    })
    c.precede.ensures

pub returns : goal.returns
returns c =
    let s = c.args.source.now in
    let t = trees_of s in
    let d = c.args.declared in
    let vs = variables_of t c.args.variables.now in
    on_ok_weaker c.precede-3.result
    (λ h. record {
      code = λ env scope.
          let same : in_scope (vs ∷ []) ≡ in_scope env = append-nil vs ∙ sym scope.same in
          let number = c.in_ok-number.ensures ∙ slots (vs ∷ []) env same (word t d.1) in
          precedes_as (ap (λ o. initial (look_of s) env (type_of t d.0) (word t d.1) (expression_if t o) c.args.n) (sym c.in-Some.is))
          (precedes_more
          (precedes_more (precedes_as (ap (λ k. Store k ∷ []) number) (c.in_ok-precede.ensures t)) (c.in_ok-value.ensures.code env scope))
          (precedes_as (ap (λ i. i ∷ Store c.in_ok-number.number ∷ []) (c.zero-2.ensures t) ∙ ap (λ k. zero_code (type_of t d.0) ∷ Store k ∷ []) number) (h t)));
    })
    c.precede-3.ensures
