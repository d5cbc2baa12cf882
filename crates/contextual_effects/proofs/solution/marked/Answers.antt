use Rattle.std.proofs.Common.{◌<◌, length, arith}
use Rattle.contextual_effects.proofs.Solutions.{marked_more}
use Rattle.contextual_effects.proofs.solution.marked.Goals as goal

pub loop-id-preserved : goal.loop-id-preserved
loop-id-preserved c =
    let l : c.loop-id.id < length c.args.sets.now = omega arith in
    marked_more c.args.sets.now c.loop-id.id c.loop-id.nested c.add_if_marked.new.nested c.index-sets-id.result c.loop-id.invariant l
    c.index-sets-id.is c.add_if_marked.ensures
