use Rattle.std.proofs.Common.{◌<◌, ◌≤◌, ℕ}
use Rattle.thread_state.specs.Heights.{HasHeight}
use Rattle.code_image.specs.StopHeights.{IsNeverHigher}
use Rattle.image_load.proofs.stacks.highest_with.Given as goal

abbrev pub invariant-loop-height : goal.invariant-loop-height
invariant-loop-height l = record {
  higher : l.least ≤ l.most;
  never_higher : (place height : ℕ) → place < l.height-index → HasHeight l.heights place height → height ≤ l.most;
  least : (other : ℕ) → l.least ≤ other → IsNeverHigher other l.heights → l.most ≤ other;
}
