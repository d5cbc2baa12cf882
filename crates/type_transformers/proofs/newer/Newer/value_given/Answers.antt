use Rattle.std.proofs.Common.{ap, sym, ◌∙◌, option_copied, option_map}
use Rattle.std.specs.Prelude.{option_and_then}
use Rattle.c_tree.specs.Bare.{bare_expr}
use Rattle.type_transformers.specs.Newer.{expr_in}
use Rattle.type_transformers.proofs.Transforming.{value_given}
use Rattle.type_transformers.proofs.newer.Newer.value_given.Goals as goal

pub returns-in-Some : goal.returns-in-Some
returns-in-Some c =
    ap (option_map bare_expr) c.expr_in.ensures
    ∙ ap (λ o. option_map bare_expr (option_and_then (λ d. expr_in d.kind) o)) (sym (ap option_copied c.in-Some.is) ∙ c.transformer.ensures)
    ∙ sym (value_given c.args.self.now c.args.name.now)

pub returns-in-None : goal.returns-in-None
returns-in-None c =
    ap (λ o. option_map bare_expr (option_and_then (λ d. expr_in d.kind) o)) (sym (ap option_copied c.in-None.is) ∙ c.transformer.ensures)
    ∙ sym (value_given c.args.self.now c.args.name.now)
