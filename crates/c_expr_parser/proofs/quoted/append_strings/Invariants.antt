use Rattle.std.proofs.Common.{◌≡◌, ◌≤◌, ℕ, length, string_bytes}
use Rattle.c_expr_parser.specs.Readings.{most_depth}
use Rattle.c_expr_parser.specs.Plans.{MoreStrings, reads}
use Rattle.c_expr_parser.proofs.quoted.append_strings.Given as goal

abbrev pub invariant-loop-token : goal.invariant-loop-token
invariant-loop-token l = record {
  reads : (depth place : ℕ) → depth ≤ most_depth
      → reads (MoreStrings depth place (string_bytes l.fn.into)) l.fn.tokens ≡ reads (MoreStrings depth place (string_bytes l.into)) l.rest;
  within : length l.rest ≤ length l.fn.tokens;
}

abbrev pub decreases-loop-token : goal.decreases-loop-token
decreases-loop-token l = length l.rest
