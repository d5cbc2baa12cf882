use Rattle.std.proofs.Common.{take}
use Rattle.std.specs.Prelude.{flat_map}
use Rattle.resolved_tree.specs.Trees.{table}
use Rattle.code_image.specs.Images.{each_once}
use Rattle.image_load.specs.MadeTexts.{AreCallees, body_names}
use Rattle.image_load.proofs.callees.callees_of.Given as goal

abbrev pub invariant-loop-of_text : goal.invariant-loop-of_text
invariant-loop-of_text l =
    AreCallees (table l.trees) (each_once (flat_map (λ v. body_names (table l.trees) v.items) (take l.of_text-index l.bodies))) l.callees
