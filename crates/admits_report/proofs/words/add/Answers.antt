use Rattle.std.proofs.Common.{append-nil, sym}
use Rattle.admits_report.proofs.Adding.{pieces_more, pieces_all}
use Rattle.admits_report.proofs.words.add.Goals as goal

pub loop-piece-init : goal.loop-piece-init
loop-piece-init c = sym (append-nil _)

pub loop-piece-preserved : goal.loop-piece-preserved
loop-piece-preserved c =
    pieces_more _ _ _ c.args.pieces.now c.loop-piece.piece-index _ c.loop-piece-test.true c.loop-piece.invariant
    c.in_ok-extend_from_slice.ensures.items

pub returns : goal.returns
returns c = pieces_all _ _ c.args.pieces.now c.loop-piece.piece-index c.loop-piece-test.false c.loop-piece.invariant
