use Rattle.std.proofs.Common.{◌++◌, refl, ap, ◌∙◌}
use Rattle.std.proofs.lemmas.Option.{slice_get_read}
use Rattle.contextual_effects.specs.Edges.{present}
use Rattle.contextual_effects.proofs.EdgeLists.{parts_more}
use Rattle.checkin_rows.specs.Edges.{of_point}
use Rattle.checkin_rows.proofs.constraints.add_points.Goals as goal

pub loop-place-preserved : goal.loop-place-preserved
loop-place-preserved c =
    parts_more (λ i x. present (of_point c.args.nodes.now.points c.args.nodes.now.names c.args.points.now i x))
    c.args.edges.now.items c.loop-place.edges.items c.add_present.new.edges.items c.args.points.now c.loop-place.place c.index-points-place.result
    (c.in_ok-add_present.ensures ∙ ap (λ os. c.loop-place.edges.items ++ present os) c.of_point-found.ensures) c.loop-place.invariant
    (slice_get_read c.args.points.now _ c.loop-place.place c.index-points-place.result refl c.loop-place-test.true c.index-points-place.is)
