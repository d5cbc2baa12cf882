-- The body of a function that is in force in a version.
use Rattle.std.specs.Prelude.{◌≡◌, ℕ, ◌≤◌, true, List, ◌++◌, length, Some}
use Rattle.c_tree.specs.BareExpr.{Bytes}
use Rattle.c_semantics.specs.Texts.{Definitions, definition}
use Rattle.c_semantics.specs.Skeletons.{skeleton_of}
use Rattle.c_semantics.specs.SourceTexts.{Text}
use Rattle.c_semantics.specs.Store.{Body, store, generation_by, body_in}
use Rattle.version_laws.specs.Histories.{text_in}
use Rattle.frame_bodies.specs.AcceptedTexts.{AreAccepted, definitions_of, is_function}

-- the definitions of version n, where version 1 is the first
abbrev pub version_in : List Text → ℕ → Definitions
version_in texts n = definition (text_in (definitions_of texts) n)

-- the body of a function that is in force in version n: the last that was brought by then. Its skeleton is that of the
-- function in version n
pub record InForce (texts : List Text) (n : ℕ) (function : Bytes) : Type 0 where
  pub body : Body
  pub found : body_in (store texts) function (generation_by function n (store texts)) ≡ Some body
  pub function_is : body.function ≡ function
  pub generation_is : body.generation ≡ generation_by function n (store texts)
  pub brought : 1 ≤ body.generation
  pub by_then : body.generation ≤ n
  pub skeleton_is : body.skeleton ≡ skeleton_of (version_in texts n) (version_in texts n function)

-- each function of each version has a body in force
abbrev pub EachHasABody : Type 0
EachHasABody =
    (texts : List Text) (n : ℕ) (function : Bytes)
    → AreAccepted texts → is_function (version_in texts n function) ≡ true → InForce texts n function

-- later texts leave the bodies in force in the versions so far
pub record LaterLeave (texts more : List Text) (function : Bytes) (n : ℕ) : Type 0 where
  pub version_is : version_in (texts ++ more) n ≡ version_in texts n
  pub generation_is : generation_by function n (store (texts ++ more)) ≡ generation_by function n (store texts)
  pub body_is : body_in (store (texts ++ more)) function n ≡ body_in (store texts) function n

abbrev pub LaterTextsLeave : Type 0
LaterTextsLeave =
    (texts more : List Text) (function : Bytes) (n : ℕ) → n ≤ length texts → LaterLeave texts more function n
