use Rattle.std.proofs.Common.{◌≡◌, [], ◌∷◌, sym, ◌∙◌, append-nil}
use Rattle.std.proofs.lemmas.Result.{on_ok_weaker}
use Rattle.typed_trees.specs.ValueTypes.{in_scope}
use Rattle.resolved_tree.specs.Nodes.{expression_at}
use Rattle.expr_gen.specs.Scope.{variables_of}
use Rattle.expr_gen.proofs.Scopes.{same_effect}
use Rattle.bytecode_gen.specs.Tails.{trees_of, look_of}
use Rattle.bytecode_gen.proofs.Preceding.{precedes_made}
use Rattle.bytecode_gen.proofs.part.dropped.Goals as goal

pub returns : goal.returns
returns c =
    let s = c.args.source.now in
    let t = trees_of s in
    let vs = variables_of t c.args.variables.now in
    on_ok_weaker c.precede.result
    (λ h. record {
      code = λ env scope.
          let same : in_scope (vs ∷ []) ≡ in_scope env = append-nil vs ∙ sym scope.same in
          precedes_made c.as_slice.ensures.value c.new-code.ensures.items c.in_ok-effect.ensures
          (same_effect (look_of s) (vs ∷ []) env same (expression_at t c.args.e) c.args.n) (h t);
    })
    c.precede.ensures
