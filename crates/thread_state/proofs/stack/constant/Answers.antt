use Rattle.std.proofs.Common.{refl, arith}
use Rattle.thread_state.proofs.TurnLaws.{puts}
use Rattle.thread_state.proofs.stack.constant.Goals as goal

pub returns : goal.returns
returns c = puts c.args.spot.height c.requires refl refl (omega arith) refl (omega arith) (omega arith)
