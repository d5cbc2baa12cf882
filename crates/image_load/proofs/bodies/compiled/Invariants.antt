use Rattle.std.proofs.Common.{◌≡◌, map, take}
use Rattle.resolved_tree.specs.Trees.{table}
use Rattle.source_programs.specs.Programs.{text_in}
use Rattle.text_code.specs.Bodies.{body_of}
use Rattle.image_load.specs.MadeTexts.{code_in}
use Rattle.image_load.proofs.bodies.compiled.Given as goal

abbrev pub invariant-loop-number : goal.invariant-loop-number
invariant-loop-number l =
    map (λ v. map (body_of (table l.trees)) v.items) l.bodies.items ≡ map code_in (map text_in (take l.number l.texts))
