-- Accepted texts define each name that their functions use.
use Rattle.std.specs.Prelude.{List, Contains}
use Rattle.c_tree.specs.BareExpr.{Bytes}
use Rattle.c_semantics.specs.SourceTexts.{Text}
use Rattle.c_semantics.specs.Texts.{names}
use Rattle.frame_bodies.specs.AcceptedTexts.{IsAccepted}
use Rattle.brought_bodies.specs.Undefined.{HasUndefinedUse}
use Rattle.brought_bodies.specs.Unknown.{HasUnknownFunction}

-- no function of an accepted text uses a name at its points that the text doesn't define
abbrev pub AcceptedTextsDefineEachUse : Type 0
AcceptedTextsDefineEachUse = (text : Text) → IsAccepted text → ¬ HasUndefinedUse text.definitions

-- so a table with the names of the text has each of its functions, and each name that one uses
abbrev pub AcceptedTextsAreKnown : Type 0
AcceptedTextsAreKnown =
    (table : List Bytes) (text : Text) → IsAccepted text → ((name : Bytes) → Contains (names text.definitions) name → Contains table name)
    → ¬ HasUnknownFunction table text.definitions
