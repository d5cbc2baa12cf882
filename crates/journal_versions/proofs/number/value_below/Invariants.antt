use Rattle.std.proofs.Common.{◌≡◌, ◌<◌, drop}
use Rattle.journal_versions.proofs.Numbers.{value_below}
use Rattle.journal_versions.proofs.number.value_below.Given as goal

-- the value so far is below the end, and the other digits come after it
abbrev pub invariant-loop-byte : goal.invariant-loop-byte
invariant-loop-byte l = record {
  below : l.n < l.end;
  same : value_below l.end 0 l.text ≡ value_below l.end l.n (drop l.byte-index l.text);
}
