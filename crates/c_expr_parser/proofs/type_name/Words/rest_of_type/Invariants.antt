use Rattle.std.proofs.Common.{◌≡◌, ◌≤◌, ℕ, List, length, Some}
use Rattle.c_expr_parser.specs.Readings.{most_depth}
use Rattle.c_expr_parser.specs.WordCounts.{seen}
use Rattle.c_expr_parser.specs.Tables.{kind_of}
use Rattle.c_expr_parser.specs.TypeNames.{counts}
use Rattle.c_expr_parser.specs.Plans.{Words, reads}
use Rattle.c_expr_parser.proofs.type_name.Words.rest_of_type.Given as goal

abbrev pub invariant-loop-token : goal.invariant-loop-token
invariant-loop-token l = record {
  reads : (words : List (List ℕ)) (depth : ℕ) → seen l.fn.self ≡ counts words → kind_of words ≡ Some l.fn.kind → depth ≤ most_depth
      → (more : List (List ℕ)) × (seen l.words ≡ counts more) × (kind_of more ≡ Some l.kind)
      × (reads (Words depth words) l.fn.tokens ≡ reads (Words depth more) l.rest);
  within : length l.rest ≤ length l.fn.tokens;
}

abbrev pub decreases-loop-token : goal.decreases-loop-token
decreases-loop-token l = length l.rest
