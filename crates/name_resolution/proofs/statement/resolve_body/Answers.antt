use Rattle.std.proofs.Common.{ap, ◌∙◌, map, reverse, option_map}
use Rattle.std.specs.Prelude.{unwrap_or}
use Rattle.c_tree.specs.Bare.{bare_type, bare_binding, bare_stmt, bare_block}
use Rattle.c_semantics.specs.Texts.{int}
use Rattle.c_semantics.specs.Resolution.{statements}
use Rattle.resolved_tree.specs.Nodes.{statements_at}
use Rattle.name_resolution.specs.Known.{known_of, locals_of}
use Rattle.name_resolution.proofs.Kept.{later_as}
use Rattle.name_resolution.proofs.statement.resolve_body.Goals as goal

pub returns-clause-body : goal.returns-clause-body
returns-clause-body c =
    let look = known_of c.args.known.now in
    let body = bare_block (map bare_stmt c.args.function.now.body) in
    later_as statements_at _ c.sequence.result _ _ c.sequence.ensures.tree
    (λ u g.
    ap (λ type. statements look type (locals_of c.in_ok-locals.locals.items) body) c.value_type-returned.ensures
    ∙ ap (λ bs. statements look (unwrap_or (option_map bare_type c.args.function.now.result) int) (reverse bs) body) c.in_ok-locals.ensures
    ∙ ap (λ ps. statements look (unwrap_or (option_map bare_type c.args.function.now.result) int) (reverse (map bare_binding ps)) body) c.as_slice.ensures)
