-- Code whose instructions fit what they name and what follows them.
use Rattle.std.specs.Prelude.{◌≡◌, ◌≤◌, ℕ, suc, List, length, codes, slice_get, Some}
use Rattle.run_types.specs.CheckIns.{CheckInKind}
use Rattle.run_types.specs.Skeleton.{check_in_after}
use Rattle.name_sets.specs.Limit.{most_names}
use Rattle.c_tree.specs.BareExpr.{Bytes}
use Rattle.c_tree.specs.BareDef.{BareDef}
use Rattle.c_semantics.specs.SourceTexts.{Text}
use Rattle.c_semantics.specs.Names.{struct_name}
use Rattle.c_semantics.specs.Stops.{Stop, kind_of}
use Rattle.c_semantics.specs.Texts.{definition, members_of}
use Rattle.typed_trees.specs.ExpressionTypes.{IsStruct}
use Rattle.frame_bodies.specs.AcceptedTexts.{IsAccepted}
use Rattle.bytecode.specs.Instructions.{Instruction, Back, CheckIn, Halt}
use Rattle.tree_code.specs.Code.{Code}
use Rattle.accepted_code.specs.AcceptedCode.{coded_in}
use Rattle.code_runs.specs.CodeData.{most_fields}
use Rattle.code_image.specs.Images.{names_of}
use Rattle.accepted_stops.specs.StopNames.{IsNamed, IsNumbered, function_names}

-- a stop at a place of some code has what each stop is to have, and the check-in that is to follow it does
pub record StopFits (Has : Stop → Type 0) (code : Code) (place : ℕ) (s : Stop) (n : ℕ) : Type 0 where
  pub has : Has s
  pub followed : (kind : CheckInKind) → check_in_after (kind_of s) ≡ Some kind → slice_get code (suc place) ≡ Some (CheckIn kind (suc n))

-- and a back edge leads to a place of the code
abbrev pub InstructionFits : (Stop → Type 0) → Code → ℕ → Instruction → Type 0
InstructionFits Has code place (Halt s n) = StopFits Has code place s n
InstructionFits Has code place (Back d n v) = d ≤ place
InstructionFits Has code place i = Unit {0}

abbrev pub CodeFits : (Stop → Type 0) → Code → Type 0
CodeFits Has code = (place : ℕ) (i : Instruction) → slice_get code place ≡ Some i → InstructionFits Has code place i

-- in an accepted text the code of each function does, and its stops name what the text defines
abbrev pub AcceptedCodeFits : Type 0
AcceptedCodeFits =
    (text : Text) (function : Bytes) → IsAccepted text
    → CodeFits (IsNamed text.definitions (function_names text.definitions)) (coded_in text function).code

-- it has a main, few mutexes and few tags
pub record NamesAreFew (text : List BareDef) : Type 0 where
  pub main : IsNumbered (function_names text) (codes "main")
  pub mutexes : length (names_of text).mutexes ≤ most_names
  pub tags : length (names_of text).tags ≤ most_names

abbrev pub AcceptedNamesAreFew : Type 0
AcceptedNamesAreFew = (text : Text) → IsAccepted text → NamesAreFew text.definitions

-- what it defines as a struct's name is a struct, with few members
pub record StructIsSmall (text : List BareDef) (tag : Bytes) (d : BareDef) : Type 0 where
  pub struct : IsStruct (Some d)
  pub few : length (members_of (Some d)) ≤ most_fields

abbrev pub AcceptedStructsAreSmall : Type 0
AcceptedStructsAreSmall =
    (text : Text) (tag : Bytes) (d : BareDef) → IsAccepted text → definition text.definitions (struct_name tag) ≡ Some d
    → StructIsSmall text.definitions tag d
