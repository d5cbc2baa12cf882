-- How the body of a function is resolved depends on its direct uses alone.
use Rattle.std.specs.Prelude.{◌≡◌, true, Contains}
use Rattle.std.specs.Option.{is_some}
use Rattle.c_tree.specs.BareExpr.{Bytes}
use Rattle.c_semantics.specs.Texts.{Definitions}
use Rattle.c_semantics.specs.Changes.{same_interface, agree}
use Rattle.c_semantics.specs.Resolution.{resolved_body}
use Rattle.c_semantics.specs.Skeletons.{skeleton_of, direct_uses}
use Rattle.c_semantics.specs.SourceTexts.{Text}
use Rattle.frame_bodies.specs.AcceptedTexts.{IsAccepted, looked_up}

-- each name that a function of the text uses directly under other definitions has the interface there that it has in the
-- text, where the text defines it
abbrev pub UsesAgree : Text → Definitions → Bytes → Type 0
UsesAgree text other function =
    (used : Bytes)
    → Contains (direct_uses (skeleton_of other (looked_up text function))) used → is_some (looked_up text used) ≡ true
    → agree same_interface (looked_up text used) (other used) ≡ true

-- then these resolve the function's body as its text does. For a text that doesn't type it needn't be so: `a + b = 1` has the
-- type of `a + b`, and no use of a or b
abbrev pub ResolvedByUses : Type 0
ResolvedByUses =
    (text : Text) (other : Definitions) (function : Bytes)
    → IsAccepted text → UsesAgree text other function
    → resolved_body (looked_up text) (looked_up text function) ≡ resolved_body other (looked_up text function)
