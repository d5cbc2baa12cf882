-- What the versioned definitions of a run are, by the texts of its versions.
use Rattle.std.specs.Prelude.{◌≡◌, ℕ, zero, suc, IsTrue, List, [], ◌∷◌, length, slice_index_or, Option, Some, None}
use Rattle.c_tree.specs.BareExpr.{Bytes}
use Rattle.c_tree.specs.BareDef.{BareDef}
use Rattle.c_semantics.specs.Texts.{definition}
use Rattle.c_semantics.specs.Changes.{same_definition}
use Rattle.source_model.specs.Versions.{Table, current, in_version}
use Rattle.source_model.specs.Runs.{SourceMove, Move, Install}

-- two definitions say the same of a name: both define it, and alike, or neither does
abbrev pub Alike : Option BareDef → Option BareDef → Type 0
Alike None None = Unit {0}
Alike (Some a) (Some b) = IsTrue (same_definition a b)
Alike (Some a) None = ⊥
Alike None (Some b) = ⊥

-- the text of version n, where version 1 is the first; there is no version 0
abbrev pub text_in : List (List BareDef) → ℕ → List BareDef
text_in texts zero = []
text_in texts (suc n) = slice_index_or texts n []

-- the last of the texts
abbrev pub last_text : List (List BareDef) → List BareDef
last_text texts = text_in texts (length texts)

-- a table is that of some texts, one a version
pub record IsHistory (texts : List (List BareDef)) (table : Table) : Type 0 where
  pub count : current table ≡ length texts
  pub alike : (n : ℕ) (name : Bytes) → Alike (in_version table n name) (definition (text_in texts n) name)

-- the texts that some moves install, in order
abbrev pub texts_installed : List (List BareDef) → List SourceMove → List (List BareDef)
texts_installed texts [] = []
texts_installed texts (Move t ∷ ms) = texts_installed texts ms
texts_installed texts (Install k ∷ ms) = slice_index_or texts k [] ∷ texts_installed texts ms

-- the texts of a run's versions: the first text, and those that its moves install
abbrev pub versions_by : List (List BareDef) → List SourceMove → List (List BareDef)
versions_by texts ms = slice_index_or texts 0 [] ∷ texts_installed texts ms
