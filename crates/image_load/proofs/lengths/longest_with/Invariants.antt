use Rattle.std.proofs.Common.{◌≡◌, ◌<◌, ◌≤◌, ℕ, Some}
use Rattle.std.specs.Prelude.{slice_get}
use Rattle.resolved_tree.specs.Trees.{table}
use Rattle.word_data.specs.Lengths.{most_printed}
use Rattle.code_image.specs.declared.act.StopPlace.{StopPlace}
use Rattle.code_image.specs.StopHeights.{act_prints}
use Rattle.image_load.proofs.lengths.longest_with.Given as goal

abbrev pub invariant-loop-stop : goal.invariant-loop-stop
invariant-loop-stop l = record {
  short : l.most ≤ most_printed;
  longer : l.least ≤ l.most;
  prints : (place : ℕ) (x : StopPlace) → place < l.stop-index → slice_get l.stops place ≡ Some (Some x)
      → act_prints (table l.trees) x.act ≤ l.most;
}
