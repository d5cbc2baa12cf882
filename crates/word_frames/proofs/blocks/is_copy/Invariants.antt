use Rattle.std.proofs.Common.{◌≡◌, ℕ, ◌+◌, ◌<◌}
use Rattle.std.specs.Prelude.{slice_index}
use Rattle.word_frames.proofs.blocks.is_copy.Given as goal

abbrev pub invariant-loop-i : goal.invariant-loop-i
invariant-loop-i l = (k : ℕ) → k < l.i → slice_index l.to (l.start + k) ≡ slice_index l.from (l.at + k)
