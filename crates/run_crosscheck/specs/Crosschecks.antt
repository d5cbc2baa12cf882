-- What is answered of kept bytes and a journal's moves.
use Rattle.std.specs.Prelude.{◌≡◌, ℕ, List, map, Some}
use Rattle.c_tree.specs.BareDef.{BareDef}
use Rattle.source_model.specs.Worlds.{Limits}
use Rattle.source_model.specs.Runs.{Result, SourceMove, source_run}
use Rattle.source_model.specs.Spans.{spans}
use Rattle.version_spans.specs.Kept.{span_of}
use Rattle.run_crosscheck.specs.declared.check.SourceAnswer.{SourceAnswer}
use Rattle.run_crosscheck.specs.Comparisons.{comparison_of, first_difference}

-- the source machine makes the moves; the answer is agreement where the bytes are its output, else the first place at which
-- they differ; and the spans are those of its records
pub record IsCrosscheck (texts : List (List BareDef)) (limits : Limits) (moves : List SourceMove) (bytes : List ℕ) (c : SourceAnswer) : Type 0 where
  pub run : Result
  pub ran : source_run texts limits moves ≡ Some run
  pub compared : c.comparison ≡ comparison_of (first_difference run.output bytes)
  pub shared : map span_of c.spans.items ≡ spans run.world
