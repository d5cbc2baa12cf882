use Rattle.std.proofs.Common.{◌≡◌, ℕ, ◌+◌, ◌<◌}
use Rattle.std.specs.Prelude.{slice_index}
use Rattle.thread_state.specs.Frames.{IsSameOutside}
use Rattle.word_frames.proofs.blocks.copy.Given as goal

abbrev pub invariant-loop-i : goal.invariant-loop-i
invariant-loop-i l = record {
  copied : (k : ℕ) → k < l.i → slice_index l.to (l.start + k) ≡ slice_index l.from (l.at + k);
  elsewhere : IsSameOutside l.start (l.start + l.i) l.fn.to l.to;
}
