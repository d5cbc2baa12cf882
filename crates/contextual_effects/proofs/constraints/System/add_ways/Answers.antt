use Rattle.std.proofs.Common.{◌++◌, ap, ◌∙◌}
use Rattle.std.proofs.lemmas.Option.{slice_get-get_or}
use Rattle.contextual_effects.specs.Edges.{present, of_way}
use Rattle.contextual_effects.proofs.EdgeLists.{parts_more}
use Rattle.contextual_effects.proofs.constraints.System.add_ways.Goals as goal

pub loop-way-preserved : goal.loop-way-preserved
loop-way-preserved c =
    parts_more (λ i w. present (of_way c.args.self c.args.nodes.now.points c.args.nodes.now.names c.args.nested.now c.args.points.now w))
    c.args.edges.now.items c.loop-way.edges.items c.add_present.new.edges.items c.args.ways.now c.loop-way.way-index _
    (c.in_ok-add_present.ensures ∙ ap (λ os. c.loop-way.edges.items ++ present os) c.of_way.ensures) c.loop-way.invariant
    (slice_get-get_or c.args.ways.now c.loop-way.way-index _ c.loop-way-test.true)
