use Rattle.std.proofs.Common.{◌≡◌, ◌<◌, ◌≤◌, ℕ, Some}
use Rattle.std.specs.Prelude.{slice_get}
use Rattle.code_image.specs.declared.function.CodeFunction.{CodeFunction}
use Rattle.code_image.specs.StopHeights.{IsNeverHigher}
use Rattle.code_image.specs.Stacks.{AreNeverHigher}
use Rattle.image_load.proofs.stacks.highest_stack.Given as goal

abbrev pub invariant-loop-function : goal.invariant-loop-function
invariant-loop-function l = record {
  never_higher : (n : ℕ) (f : CodeFunction) → n < l.function-index → slice_get l.functions n ≡ Some f
      → IsNeverHigher l.most f.verified.heights.items;
  least : (other : ℕ) → AreNeverHigher other l.functions → l.most ≤ other;
}
