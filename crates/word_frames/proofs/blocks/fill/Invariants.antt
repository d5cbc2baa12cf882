use Rattle.std.proofs.Common.{◌≡◌, ℕ, ◌-◌, ◌<◌, ◌≤◌, length, vec_len, vec_capacity}
use Rattle.std.specs.Prelude.{slice_index}
use Rattle.word_frames.proofs.blocks.fill.Given as goal

abbrev pub invariant-loop-words : goal.invariant-loop-words
invariant-loop-words l = record {
  longer : length l.fn.words.items ≤ length l.words.items;
  same : (i : ℕ) → i < length l.fn.words.items → slice_index l.words.items i ≡ slice_index l.fn.words.items i;
  capacity : vec_capacity l.words ≡ vec_capacity l.fn.words;
}

abbrev pub decreases-loop-words : goal.decreases-loop-words
decreases-loop-words l = l.count - vec_len l.words
