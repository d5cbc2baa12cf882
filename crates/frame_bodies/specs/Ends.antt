-- The functions of an accepted text leave transactions at their ends alone.
use Rattle.std.specs.Prelude.{IsTrue}
use Rattle.c_tree.specs.BareExpr.{Bytes}
use Rattle.c_semantics.specs.Leaving.{leaves_at_ends}
use Rattle.c_semantics.specs.Resolution.{resolved_body}
use Rattle.c_semantics.specs.SourceTexts.{Text}
use Rattle.frame_bodies.specs.AcceptedTexts.{IsAccepted, looked_up}

abbrev pub AcceptedLeaveAtEnds : Type 0
AcceptedLeaveAtEnds =
    (text : Text) (function : Bytes) → IsAccepted text
    → IsTrue (leaves_at_ends (resolved_body (looked_up text) (looked_up text function)))
