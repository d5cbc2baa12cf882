-- Texts of a run that are accepted.
use Rattle.std.specs.Prelude.{◌≡◌, Bool, true, false, List, map, All, Option, Some}
use Rattle.c_tree.specs.BareExpr.{Bytes}
use Rattle.c_tree.specs.BareDef.{BareDef, Function}
use Rattle.c_tree.specs.declared.def.Program.{Program}
use Rattle.c_front.specs.Accepted.{Accepted}
use Rattle.c_semantics.specs.SourceTexts.{Text, text_of}
use Rattle.c_semantics.specs.Texts.{Definitions, definition}

-- a text is that of a program that some bytes are accepted as
pub record IsAccepted (text : Text) : Type 0 where
  pub bytes : Bytes
  pub accepted : Accepted bytes text.tree
  pub is : text ≡ text_of text.tree

-- each of some texts is
abbrev pub AreAccepted : List Text → Type 0
AreAccepted = All IsAccepted

-- the definitions of some texts
abbrev pub definitions_of : List Text → List (List BareDef)
definitions_of = map (λ t. t.definitions)

-- the definitions of a text by name
abbrev pub looked_up : Text → Definitions
looked_up text = definition text.definitions

-- a name is defined as a function
abbrev pub is_function : Option BareDef → Bool
is_function (Some (Function result name parameters body)) = true
is_function _ = false

-- the text of an accepted program is accepted
abbrev pub TextsOfProgramsAreAccepted : Type 0
TextsOfProgramsAreAccepted = (bytes : Bytes) (program : Program) → Accepted bytes program → IsAccepted (text_of program)
