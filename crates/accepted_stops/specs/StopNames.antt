-- What the stops of a text's code name.
use Rattle.std.specs.Prelude.{◌≡◌, ◌≤◌, ◌<◌, List, map, Some, bytes_eq}
use Rattle.std.specs.List.{position}
use Rattle.name_sets.specs.Limit.{most_names}
use Rattle.c_tree.specs.BareExpr.{Bytes}
use Rattle.c_tree.specs.BareDef.{BareBinding, BareDef}
use Rattle.c_semantics.specs.Texts.{definition}
use Rattle.c_semantics.specs.Stops.{Stop, ReadGlobal, WriteGlobal, ReadElement, WriteElement, ReadField, WriteField, New, InitMutex, Lock, Unlock, Spawn, Call, Back}
use Rattle.code_kinds.specs.WellFormed.{most_variables}
use Rattle.text_code.specs.Bodies.{code_of_text}
use Rattle.code_runs.specs.CodeData.{field_number, most_fields, number_of}
use Rattle.code_runs.specs.SharedStops.{members_in}
use Rattle.code_image.specs.Images.{names_of}

-- the names of a text's functions, in its order
abbrev pub function_names : List BareDef → List Bytes
function_names text = map (λ c. c.name) (code_of_text (definition text) text)

-- a name is in a list, and its number is below that of the names that a text may have
pub record IsNumbered (names : List Bytes) (name : Bytes) : Type 0 where
  pub there : position (λ n. bytes_eq name n) names ≡ Some (number_of names name)
  pub few : number_of names name < most_names

-- a struct has a member of a name, and its number is below that of the fields that an object may have
pub record IsMember (members : List BareBinding) (name : Bytes) : Type 0 where
  pub there : position (λ b. bytes_eq name b.name) members ≡ Some (field_number members name)
  pub few : field_number members name < most_fields

-- what a stop names is defined by a text with these names of functions, each name as what the stop needs. A back edge is an
-- instruction of its own
abbrev pub IsNamed : List BareDef → List Bytes → Stop → Type 0
IsNamed text functions (ReadGlobal name) = IsNumbered (names_of text).cells name
IsNamed text functions (WriteGlobal name) = IsNumbered (names_of text).cells name
IsNamed text functions (ReadElement name) = IsNumbered (names_of text).cells name
IsNamed text functions (WriteElement name) = IsNumbered (names_of text).cells name
IsNamed text functions (ReadField tag name) = IsMember (members_in text tag) name
IsNamed text functions (WriteField tag name) = IsMember (members_in text tag) name
IsNamed text functions (New tag) = IsNumbered (names_of text).tags tag
IsNamed text functions (InitMutex name) = IsNumbered (names_of text).mutexes name
IsNamed text functions (Lock name) = IsNumbered (names_of text).mutexes name
IsNamed text functions (Unlock name) = IsNumbered (names_of text).mutexes name
IsNamed text functions (Spawn name) = IsNumbered functions name
IsNamed text functions (Call name count) = IsNumbered functions name × (count ≤ most_variables)
IsNamed text functions Back = ⊥
IsNamed text functions s = Unit {0}
