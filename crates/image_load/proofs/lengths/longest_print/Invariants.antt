use Rattle.std.proofs.Common.{◌≡◌, ◌<◌, ◌≤◌, ℕ, Some}
use Rattle.std.specs.Prelude.{slice_get}
use Rattle.resolved_tree.specs.Trees.{table}
use Rattle.word_data.specs.Lengths.{most_printed}
use Rattle.code_image.specs.declared.function.CodeFunction.{CodeFunction}
use Rattle.code_image.specs.StopHeights.{StopsPrint}
use Rattle.image_load.proofs.lengths.longest_print.Given as goal

abbrev pub invariant-loop-function : goal.invariant-loop-function
invariant-loop-function l = record {
  short : l.most ≤ most_printed;
  prints : (n : ℕ) (f : CodeFunction) → n < l.function-index → slice_get l.functions n ≡ Some f
      → StopsPrint (table l.trees) l.most f.stops.items;
}
