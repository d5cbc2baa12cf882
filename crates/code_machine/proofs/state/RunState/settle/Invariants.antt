use Rattle.std.proofs.Common.{◌≡◌, ℕ, ◌<◌, length, Some, false}
use Rattle.std.specs.Prelude.{slice_get}
use Rattle.code_machine.specs.declared.running.Running.{Running}
use Rattle.code_machine.specs.Keeping.{SameRun}
use Rattle.code_machine.proofs.state.RunState.settle.Given as goal

abbrev pub invariant-loop-slot : goal.invariant-loop-slot
invariant-loop-slot l = record {
  same : SameRun l.image l.fn.self l.self;
  long : length l.self.slots.items ≡ length l.fn.self.slots.items;
  done : (n : ℕ) (r : Running) → n < l.slot → slice_get l.self.slots.items n ≡ Some r → r.leaves_work ≡ false;
}
