-- The lines of a crosscheck.
use Rattle.std.specs.Prelude.{ℕ, List, ◌++◌, codes}
use Rattle.std.specs.Fmt.{decimal}
use Rattle.std.specs.List.{flat_map}
use Rattle.source_model.specs.Spans.{Span}
use Rattle.run_crosscheck.specs.declared.comparison.Comparison.{Comparison}
use Rattle.run_crosscheck.specs.declared.comparison.Comparison.TheVariants.{Agrees, DiffersAt}

-- how kept bytes compare with an output
abbrev pub comparison_line : Comparison → List ℕ
comparison_line Agrees = codes "agrees\n"
comparison_line (DiffersAt place) = codes "differs at byte " ++ decimal place ++ codes "\n"

-- the status with which the program ends
abbrev pub comparison_status : Comparison → ℕ
comparison_status Agrees = 0
comparison_status (DiffersAt place) = 4

-- the versions that the definitions of a transaction share
abbrev pub span_line : Span → List ℕ
span_line s =
    codes "transaction thread " ++ decimal s.slot ++ codes ": versions " ++ decimal s.first ++ codes " to " ++ decimal s.last ++ codes "\n"

-- those of all
abbrev pub spans_text : List Span → List ℕ
spans_text spans = flat_map span_line spans

-- the comparison, the lines of an ending, and the spans
abbrev pub crosscheck_text : Comparison → List ℕ → List Span → List ℕ
crosscheck_text comparison ending spans = comparison_line comparison ++ (ending ++ spans_text spans)
