use Rattle.std.proofs.Common.{sym}
use Rattle.word_frames.proofs.FrameLists.{room_is}
use Rattle.word_frames.proofs.blocks.variables.Goals as goal

pub returns-clause-value : goal.returns-clause-value
returns-clause-value c = sym room_is
