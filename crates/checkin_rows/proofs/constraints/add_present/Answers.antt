use Rattle.std.proofs.lemmas.Option.{slice_get-get_or}
use Rattle.contextual_effects.proofs.EdgeLists.{options_more}
use Rattle.checkin_rows.proofs.constraints.add_present.Goals as goal

pub loop-edge-preserved : goal.loop-edge-preserved
loop-edge-preserved c =
    options_more c.args.edges.now.items c.loop-edge.edges.items c.add.new.edges.items c.args.found.now c.loop-edge.edge-index _
    c.in_ok-add.ensures c.loop-edge.invariant
    (slice_get-get_or c.args.found.now c.loop-edge.edge-index _ c.loop-edge-test.true)
