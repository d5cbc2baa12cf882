use Rattle.std.proofs.Common.{◌≡◌, Some, Err, inr, length, ap, sym, subst, ◌∙◌}
use Rattle.std.proofs.lemmas.List.{length-map}
use Rattle.run_types.specs.Skeleton.{Skeleton}
use Rattle.c_tree.specs.Bare.{bare_function}
use Rattle.c_semantics.specs.Resolved.{Statements}
use Rattle.c_semantics.specs.Resolution.{resolved_body}
use Rattle.c_semantics.specs.Skeletons.{skeleton}
use Rattle.name_resolution.specs.Known.{known_of}
use Rattle.resolved_tree.specs.Nodes.{statements_at}
use Rattle.resolved_tree.specs.Trees.{table}
use Rattle.name_resolution.proofs.Kept.{grows_refl}
use Rattle.skeletons.specs.Meaning.{point_of}
use Rattle.skeleton_gen.specs.Naming.{HasUnknown}
use Rattle.check_in_places.proofs.bodies.outline_of.Goals as goal

pub returns-in-Ok-clause-outline : goal.returns-in-Ok-clause-outline
returns-in-Ok-clause-outline c =
    let f = c.args.function.now in
    let t = table c.resolve_body.new.trees in
    let body : statements_at t c.in_ok-body.body ≡ resolved_body (known_of c.args.known.now) (Some (bare_function f)) =
    c.in_ok-body.ensures.body t (grows_refl t)
    in
    record {
      skeleton = c.in-Ok.ensures.skeleton ∙ ap skeleton body;
      known = c.in-Ok.ensures.known;
      at = c.in_ok-places.ensures.text (known_of c.args.known.now) body;
    }

pub returns-in-Ok-clause-places : goal.returns-in-Ok-clause-places
returns-in-Ok-clause-places c =
    let f = c.args.function.now in
    let look = known_of c.args.known.now in
    let t = table c.resolve_body.new.trees in
    let body : statements_at t c.in_ok-body.body ≡ resolved_body look (Some (bare_function f)) = c.in_ok-body.ensures.body t (grows_refl t) in
    let names = c.args.names.now in
    let points = c.in-Ok.skeleton.points.items in
    ap length (c.in_ok-places.ensures.text look body) ∙ c.each_point_has_ways_and_a_place.ensures.place look f
    ∙ sym (ap (λ (s : Skeleton). length s.points) (c.in-Ok.ensures.skeleton ∙ ap skeleton body)) ∙ length-map points (point_of names)

-- the table has each name
pub unreachable-requires : goal.unreachable-requires
unreachable-requires c =
    let look = known_of c.args.known.now in
    let t = table c.resolve_body.new.trees in
    let body : statements_at t c.in_ok-body.body ≡ resolved_body look (Some (bare_function c.args.function.now)) =
    c.in_ok-body.ensures.body t (grows_refl t)
    in
    c.requires (inr (subst {A = Statements} (λ b. HasUnknown c.args.names.now (skeleton b).points) body (c.in-Err-Unknown.ensures.unknown (ap Err c.in-Err-Unknown.field-0-is))))
