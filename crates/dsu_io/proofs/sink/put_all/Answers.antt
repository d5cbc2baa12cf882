use Rattle.std.proofs.Common.{rules}
use Rattle.dsu_io.proofs.Written.{pieces-more, pieces-front}
use Rattle.dsu_io.proofs.sink.put_all.Goals as goal

pub returns-in-Err-clause-bytes : goal.returns-in-Err-clause-bytes
returns-in-Err-clause-bytes g c =
    pieces-front _ _ _ c.args.pieces.now c.loop-piece.piece-index _ c.loop-piece-test.true c.loop-piece.invariant.1 c.in-Err.ensures.bytes

pub loop-piece-preserved : goal.loop-piece-preserved
loop-piece-preserved g c =
    (search rules, pieces-more _ _ _ c.args.pieces.now c.loop-piece.piece-index _ c.loop-piece-test.true c.loop-piece.invariant.1 c.in-Ok.ensures.bytes)
