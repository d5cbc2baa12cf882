use Rattle.std.proofs.Common.{◌≡◌, ℕ, ◌+◌, ◌<◌, ◌≤◌}
use Rattle.std.specs.Prelude.{slice_index}
use Rattle.thread_state.specs.Frames.{IsSameOutside}
use Rattle.word_frames.proofs.blocks.copy_reversed.Given as goal

abbrev pub invariant-loop-i : goal.invariant-loop-i
invariant-loop-i l = record {
  copied : (i j : ℕ) → l.to ≤ i → i < l.to + l.i → i + j + 1 ≡ l.to + l.from + l.count → slice_index l.words i ≡ slice_index l.fn.words j;
  elsewhere : IsSameOutside l.to (l.to + l.i) l.fn.words l.words;
}
