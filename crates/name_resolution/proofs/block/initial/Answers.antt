use Rattle.std.proofs.Common.{◌∷◌, Option, Some, option_map, ap, sym, ◌∙◌}
use Rattle.c_tree.specs.BareExpr.{BareExpr}
use Rattle.c_tree.specs.BareDef.{BareBinding}
use Rattle.c_tree.specs.Bare.{bare_expr, bare_declaration}
use Rattle.c_semantics.specs.Resolved.{Convert, Declare}
use Rattle.c_semantics.specs.Resolution.{tree_of}
use Rattle.name_resolution.specs.Known.{known_of, locals_of}
use Rattle.name_resolution.proofs.block.initial.Goals as goal

pub returns-in_ok-id-in-Some-clause-tree : goal.returns-in_ok-id-in-Some-clause-tree
returns-in_ok-id-in-Some-clause-tree c = λ u g.
    let d = bare_declaration c.args.declaration.now in
    let look = known_of c.args.known.now in
    let own : BareBinding = record { declared = d.declared; name = d.name } in
    let e = bare_expr c.in-Some.value in
    let inside = ap locals_of c.as_slice.ensures.value ∙ c.in_ok-declare_local-in-Some.ensures ∙ ap (λ ls. own ∷ locals_of ls) c.in_ok-inner-in-Some.ensures in
    ap (λ x. Declare d.declared d.name (Some x))
    (c.in_ok-id-in-Some.ensures.tree u g ∙ ap (λ ls. Convert d.declared (tree_of look ls e)) inside)
    ∙ ap (λ (o : Option BareExpr). Declare d.declared d.name (option_map (λ x. Convert d.declared (tree_of look (own ∷ locals_of c.args.locals.now) x)) o)) (sym (ap (option_map bare_expr) c.in-Some.is))
