use Rattle.std.proofs.Common.{◌++◌, ap, ◌∙◌}
use Rattle.std.specs.Prelude.{slice_get}
use Rattle.std.specs.Option.{option_to_list}
use Rattle.std.proofs.lemmas.Option.{slice_get-get_or}
use Rattle.contextual_effects.proofs.EdgeLists.{parts_more}
use Rattle.checkin_rows.specs.Edges.{of_ends}
use Rattle.checkin_rows.proofs.constraints.add_ways.Goals as goal

pub loop-way-preserved : goal.loop-way-preserved
loop-way-preserved c =
    parts_more (λ i w. option_to_list (of_ends c.args.nodes.now.points w (slice_get c.args.points.now w.from) (slice_get c.args.points.now w.to)))
    c.args.edges.now.items c.loop-way.edges.items c.add.new.edges.items c.args.ways.now c.loop-way.way-index _
    (c.in_ok-add.ensures ∙ ap (λ o. c.loop-way.edges.items ++ option_to_list o) c.of_way.ensures) c.loop-way.invariant
    (slice_get-get_or c.args.ways.now c.loop-way.way-index _ c.loop-way-test.true)
