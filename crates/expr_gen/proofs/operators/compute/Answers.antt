use Rattle.std.proofs.Common.{◌∷◌, ap, ◌∙◌}
use Rattle.std.proofs.lemmas.Result.{on_ok_weaker}
use Rattle.expr_gen.specs.Kinds.{combining, converting}
use Rattle.expr_gen.specs.Scope.{code_if}
use Rattle.expr_gen.proofs.Adding.{adds_as, adds_more}
use Rattle.expr_gen.proofs.operators.compute.Goals as goal

pub returns : goal.returns
returns c =
    on_ok_weaker c.put_if.result
    (λ h t.
    adds_as
    (ap (λ i. i ∷ code_if t c.conversion.result) (c.combination.ensures t)
    ∙ ap (λ x. combining c.args.op c.args.a c.args.b ∷ x)
    (c.conversion.ensures t ∙ ap (converting c.args.a) c.combined_kind.ensures))
    (adds_more (c.in_ok-put.ensures t) (h t)))
    c.put_if.ensures
