use Rattle.std.proofs.Common.{refl}
use Rattle.version_copies.proofs.Places.{same_more}
use Rattle.version_copies.proofs.names.same_names.Goals as goal

pub loop-index-preserved : goal.loop-index-preserved
loop-index-preserved c =
    same_more (λ t. t) c.args.names.now c.args.other.now c.loop-index.index c.text_at.result.now c.text_at-in-loop-index.result.now
    c.text_at.ensures c.text_at-in-loop-index.ensures (c.if-not-is_same.ensures.0 refl) c.loop-index.invariant
