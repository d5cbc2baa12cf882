use Rattle.std.proofs.Common.{List, map, take}
use Rattle.std.specs.Prelude.{filter_map, flat_map}
use Rattle.c_tree.specs.BareExpr.{Bytes}
use Rattle.source_programs.specs.Programs.{text_in}
use Rattle.code_image.specs.Images.{with_more}
use Rattle.image_load.specs.Numbering.{IsTable, name_by}
use Rattle.image_load.proofs.numbers.add_texts.Given as goal

abbrev pub invariant-loop-text : goal.invariant-loop-text
invariant-loop-text l =
    (names : List Bytes) → IsTable names l.fn.table
    → IsTable (with_more names (flat_map (filter_map (name_by l.named)) (map text_in (take l.text-index l.texts)))) l.table
