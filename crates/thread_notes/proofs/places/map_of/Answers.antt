use Rattle.std.proofs.Common.{◌≡◌, Some}
use Rattle.c_tree.specs.Bare.{bare_function}
use Rattle.c_semantics.specs.Resolution.{resolved_body}
use Rattle.name_resolution.specs.Known.{known_of}
use Rattle.resolved_tree.specs.Nodes.{statements_at}
use Rattle.resolved_tree.specs.Trees.{table}
use Rattle.name_resolution.proofs.Kept.{grows_refl}
use Rattle.thread_notes.proofs.places.map_of.Goals as goal

pub returns : goal.returns
returns c =
    let f = c.args.function.now in
    let t = table c.resolve_body.new.trees in
    let body : statements_at t c.in_ok-body.body ≡ resolved_body (known_of c.args.known.now) (Some (bare_function f)) =
    c.in_ok-body.ensures.body t (grows_refl t)
    in
    record { named = c.in_ok-function.ensures.cases; places = c.in_ok-places.ensures.text (known_of c.args.known.now) body }
