use Rattle.std.proofs.Common.{List, take}
use Rattle.c_tree.specs.BareExpr.{Bytes}
use Rattle.resolved_tree.specs.Trees.{table}
use Rattle.code_image.specs.Images.{with_more}
use Rattle.image_load.specs.MadeTexts.{AreCallees, body_names}
use Rattle.image_load.proofs.callees.Callees.add_bodies.Given as goal

abbrev pub invariant-loop-body : goal.invariant-loop-body
invariant-loop-body l =
    (names : List Bytes) → AreCallees (table l.trees) names l.fn.self
    → AreCallees (table l.trees) (with_more names (body_names (table l.trees) (take l.body-index l.bodies))) l.self
