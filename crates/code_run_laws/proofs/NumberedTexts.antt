-- What words rest on in each text of a run: its globals, arrays and mutexes have numbers, no struct has more fields than an object has
-- words, and no array is so long that the word of a negative index is the number of an element.
use Rattle.std.proofs.Common.{◌≡◌, ◌≤◌, ◌^◌, List, [], ◌∷◌, length, Option, Some, All, Contains}
use Rattle.std.proofs.lemmas.List.Elements.{All-cons, All-head, All-nil, All-tail}
use Rattle.c_ints.specs.declared.int.Int.{Int}
use Rattle.c_tree.specs.BareExpr.{Bytes, BareExpr, BareType}
use Rattle.c_tree.specs.BareDef.{BareDef, Array}
use Rattle.c_semantics.specs.Constants.{elements}
use Rattle.c_semantics.specs.Names.{struct_name}
use Rattle.c_semantics.specs.SourceTexts.{Text}
use Rattle.c_semantics.specs.Texts.{definition, members_of}
use Rattle.frame_bodies.specs.AcceptedTexts.{AreAccepted, IsAccepted, definitions_of}
use Rattle.typed_transformers.specs.TransformerTypes.{HasCells}
use Rattle.typed_trees.specs.ExpressionTypes.{IsMutex}
use Rattle.code_runs.specs.CodeData.{Names, most_fields}
use Rattle.code_run_laws.specs.WorldMatches.{Numbers}
use Rattle.code_run_laws.proofs.SmallTexts.{few_fields, short_arrays}

pub record Numbered (names : Names) (text : List BareDef) : Type 0 where
  pub cells : (name : Bytes) → HasCells (definition text name) → Contains names.cells name
  pub mutexes : (name : Bytes) → IsMutex (definition text name) → Contains names.mutexes name
  pub fields : (tag : Bytes) → length (members_of (definition text (struct_name tag))) ≤ most_fields
  pub short : (name own : Bytes) (type : BareType) (n : Int) (values : Option (List BareExpr))
      → definition text name ≡ Some (Array type own n values) → elements n ≤ 2 ^ 63

-- an accepted text has few fields and short arrays
numbered_text : (names : Names) (text : Text) → IsAccepted text → Numbers names text.definitions → Numbered names text.definitions
numbered_text names text a h = record {
  cells = h.cells;
  mutexes = h.mutexes;
  fields = λ tag. few_fields text tag a;
  short = λ name own type n values e. short_arrays text name own type n values a e;
}

pub numbered_texts : (names : Names) (texts : List Text) → AreAccepted texts → All (Numbers names) (definitions_of texts)
    → All (Numbered names) (definitions_of texts)
numbered_texts names [] a h = All-nil (Numbered names)
numbered_texts names (text ∷ texts) a h =
    All-cons (Numbered names) text.definitions (definitions_of texts)
    (numbered_text names text (All-head IsAccepted text texts a) (All-head (Numbers names) text.definitions (definitions_of texts) h))
    (numbered_texts names texts (All-tail IsAccepted text texts a) (All-tail (Numbers names) text.definitions (definitions_of texts) h))
