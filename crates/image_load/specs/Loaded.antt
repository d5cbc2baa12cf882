-- What loading promises.
use Rattle.std.specs.Prelude.{◌≡◌, ◌≤◌, ℕ, List, [], ◌∷◌, map, length, slice_get, slice_index_or, Contains, Some}
use Rattle.c_tree.specs.BareExpr.{Bytes}
use Rattle.c_tree.specs.BareDef.{BareDef}
use Rattle.c_semantics.specs.SourceTexts.{Text}
use Rattle.source_model.specs.Worlds.{Limits, cells_of, first_world}
use Rattle.frame_bodies.specs.AcceptedTexts.{AreAccepted, IsAccepted, definitions_of}
use Rattle.name_sets.specs.Limit.{most_names}
use Rattle.bytecode.specs.Words.{Naming, word_of}
use Rattle.code_runs.specs.CodeData.{number_of}
use Rattle.code_image.specs.declared.image.CodeImage.{CodeImage}
use Rattle.code_image.specs.Images.{IsImage, names_in}

-- some texts are the definitions of accepted ones
pub record AreAcceptedAs (texts : List (List BareDef)) : Type 0 where
  pub whole : List Text
  pub accepted : AreAccepted whole
  pub are : definitions_of whole ≡ texts

-- all mutexes and all tags of some texts have numbers
pub record HasFewNames (texts : List (List BareDef)) : Type 0 where
  pub mutexes : length (names_in texts).mutexes ≤ most_names
  pub tags : length (names_in texts).tags ≤ most_names

-- so it is where there is one text, which is accepted
abbrev pub AcceptedTextHasFewNames : Type 0
AcceptedTextHasFewNames = (text : Text) → IsAccepted text → HasFewNames (text.definitions ∷ [])

-- where the texts are accepted, an image is that of the texts
abbrev pub AreLoaded : List (List BareDef) → CodeImage → Type 0
AreLoaded texts image = (whole : List Text) → AreAccepted whole → definitions_of whole ≡ texts → IsImage (definitions_of whole) image

-- rows have the words of the first cells of a first text's globals and arrays, by the numbers of their names; names of other texts have
-- no words
abbrev pub HasFirstCells : List (List BareDef) → List (List ℕ) → Type 0
HasFirstCells texts rows =
    (limits : Limits) (naming : Naming) (first : List BareDef) (name : Bytes) → slice_get texts 0 ≡ Some first
    → Contains (names_in texts).cells name
    → slice_index_or rows (number_of (names_in texts).cells name) [] ≡ map (word_of naming) (cells_of (first_world first limits) name)
