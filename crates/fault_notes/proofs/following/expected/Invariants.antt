use Rattle.std.proofs.Common.{◌≡◌, ◌++◌, length}
use Rattle.std.specs.Vec.Iter.{into_iter_items, into_iter_len}
use Rattle.fault_notes.specs.Expected.{AreTried}
use Rattle.fault_notes.proofs.following.expected.Given as goal

-- the candidates so far were tried, after tokens that stay
abbrev pub invariant-loop-candidate : goal.invariant-loop-candidate
invariant-loop-candidate l = record {
  rest : l.fn.candidates.items ≡ l.yielded ++ into_iter_items l.candidate-iterator;
  left : into_iter_len l.candidate-iterator ≡ length (into_iter_items l.candidate-iterator);
  tried : AreTried l.fn.before.items l.yielded l.fits.items;
  same : l.tokens.items ≡ l.fn.before.items;
}
