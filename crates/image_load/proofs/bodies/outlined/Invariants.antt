use Rattle.std.proofs.Common.{◌≡◌, map, take}
use Rattle.name_resolution.specs.Found.{Grows}
use Rattle.resolved_tree.specs.Nodes.{Table}
use Rattle.resolved_tree.specs.Trees.{table}
use Rattle.source_programs.specs.Programs.{text_in}
use Rattle.text_code.specs.Bodies.{outlined}
use Rattle.image_load.specs.MadeTexts.{functions_in}
use Rattle.image_load.proofs.bodies.outlined.Given as goal

abbrev pub invariant-loop-text : goal.invariant-loop-text
invariant-loop-text l =
    (u : Table) → Grows (table l.trees) u
    → map (λ v. map (outlined u) v.items) l.outlines.items ≡ map functions_in (map text_in (take l.text-index l.texts))
