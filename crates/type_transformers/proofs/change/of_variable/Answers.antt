use Rattle.std.proofs.Common.{◌≡◌, ℕ, List, map, refl, ap, sym, ◌∙◌, subst, option_map, option_copied}
use Rattle.c_tree.specs.Bare.{bare_declaration, bare_def, bare_expr, bare_kind}
use Rattle.c_tree.specs.BareDef.{Global}
use Rattle.c_semantics.specs.Transformers.{given_value}
use Rattle.type_transformers.specs.declared.change.Change.TheVariants as change
use Rattle.type_transformers.specs.Made.{IsMadeFrom}
use Rattle.type_transformers.proofs.Changing.{global_made}
use Rattle.type_transformers.proofs.change.of_variable.Goals as goal

pub returns : goal.returns
returns c =
    let a = bare_kind c.args.old.now in
    let b = Global (bare_declaration c.args.variable.now) in
    let q = map bare_def c.args.text.now in
    let own = c.args.variable.now.name.text in
    let given : option_map bare_expr (option_copied c.value_given-given.result) ≡ given_value q own =
    c.value_given-given.ensures ∙ ap (given_value q) c.as_str.ensures
    in
    subst {A = List ℕ} (λ name. IsMadeFrom a b q (change.Global name c.in_ok-change.change)) (sym c.in_ok-name.ensures.cases)
    (global_made a b own q (option_map bare_expr (option_copied c.value_given-given.result)) c.in_ok-change.change refl refl given c.in_ok-change.ensures)
