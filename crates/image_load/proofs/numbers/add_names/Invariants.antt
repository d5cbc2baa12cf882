use Rattle.std.proofs.Common.{List, map, take}
use Rattle.std.specs.Prelude.{filter_map}
use Rattle.c_tree.specs.Bare.{bare_def}
use Rattle.c_tree.specs.BareExpr.{Bytes}
use Rattle.code_image.specs.Images.{with_more}
use Rattle.image_load.specs.Numbering.{IsTable, name_by}
use Rattle.image_load.proofs.numbers.add_names.Given as goal

abbrev pub invariant-loop-definition : goal.invariant-loop-definition
invariant-loop-definition l =
    (names : List Bytes) → IsTable names l.fn.table
    → IsTable (with_more names (filter_map (name_by l.named) (map bare_def (take l.definition-index l.text)))) l.table
