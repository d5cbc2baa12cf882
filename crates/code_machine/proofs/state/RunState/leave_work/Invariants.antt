use Rattle.std.proofs.Common.{◌≡◌, length, true}
use Rattle.code_image.specs.declared.image.CodeImage.{CodeImage}
use Rattle.code_machine.specs.Keeping.{SameRun}
use Rattle.code_machine.specs.Kept.{IsKeptRun}
use Rattle.code_machine.proofs.state.RunState.leave_work.Given as goal

abbrev pub invariant-loop-slot : goal.invariant-loop-slot
invariant-loop-slot l = record {
  leaves : l.self.leaves_work ≡ true;
  long : length l.self.slots.items ≡ length l.fn.self.slots.items;
  same : (image : CodeImage) → IsKeptRun image l.fn.self → SameRun image l.fn.self l.self;
}
