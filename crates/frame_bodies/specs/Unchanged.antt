-- A function without a new body is resolved as before.
use Rattle.std.specs.Prelude.{◌≡◌, false, true}
use Rattle.c_tree.specs.BareExpr.{Bytes}
use Rattle.c_semantics.specs.Resolution.{resolved_body}
use Rattle.c_semantics.specs.Skeletons.{skeleton_of}
use Rattle.c_semantics.specs.Store.{is_new}
use Rattle.c_semantics.specs.SourceTexts.{Text}
use Rattle.frame_bodies.specs.AcceptedTexts.{IsAccepted, is_function, looked_up}

-- a function has the same definition in two texts, and the same body, with its names resolved in each
pub record Stays (p q : Text) (function : Bytes) : Type 0 where
  pub definition_stays : looked_up p function ≡ looked_up q function
  pub body_stays : resolved_body (looked_up p) (looked_up p function) ≡ resolved_body (looked_up q) (looked_up q function)

-- where text q follows the accepted text p, a function of q that has no new body stays
abbrev pub OldBodiesStay : Type 0
OldBodiesStay =
    (p q : Text) (function : Bytes)
    → IsAccepted p → is_function (looked_up q function) ≡ true
    → is_new p.definitions q.definitions function (skeleton_of (looked_up q) (looked_up q function)) ≡ false
    → Stays p q function
