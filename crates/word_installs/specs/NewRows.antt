-- The words that globals and arrays get at an install.
use Rattle.std.specs.Prelude.{◌≡◌, ℕ, ◌==◌, IsTrue, List, [], ◌∷◌, Option, Some, None, if◌then◌else◌}
use Rattle.c_tree.specs.BareExpr.{Bytes}
use Rattle.c_tree.specs.BareDef.{BareDef}
use Rattle.c_semantics.specs.Texts.{definition, int}
use Rattle.source_model.specs.Installs.{has_cells}
use Rattle.constant_values.specs.Kinds.{kind_of}
use Rattle.constant_values.specs.declared.kind.ValueKind.{ValueKind}
use Rattle.type_transformers.specs.declared.change.Change.{Change}
use Rattle.type_transformers.specs.declared.global.GlobalChange.{GlobalChange}
use Rattle.source_install.specs.declared.changes.Data.TheVariants.{Global as OfGlobal}
use Rattle.source_install.specs.FoundChanges.{cells_in, found}
use Rattle.code_runs.specs.CodeData.{Data, number_of, row, with_row}
use Rattle.code_runs.specs.CodeInstalls.{Carries}
use Rattle.word_installs.specs.declared.rows.NewRow.{NewRow}
use Rattle.word_installs.specs.declared.rows.TextRow.{TextRow}
use Rattle.word_installs.specs.TextRows.{IsRowOf}

-- the words under a number once rows are put in place: the last of theirs, or those that were there
abbrev pub words_after : List NewRow → ℕ → List ℕ → List ℕ
words_after [] n words = words
words_after (r ∷ rs) n words = words_after rs n (if r.number == n then r.words.items else words)

-- what is shared, with rows in place
abbrev pub with_rows : List NewRow → Data → Data
with_rows [] d = d
with_rows (r ∷ rs) d = with_rows rs (with_row d r.number r.words.items)

-- rows have what becomes of the words of the globals and arrays of text q, which follows text p
abbrev pub AreNewRows : List Bytes → (p q : List BareDef) → Data → List NewRow → Type 0
AreNewRows names p q old rows =
    (name : Bytes) (d : BareDef) → definition q name ≡ Some d → IsTrue (has_cells d)
    → let n = number_of names name in Carries p q name d (definition p name) (row old n) (words_after rows n (row old n))

-- ---- how rows are made

-- new words, or else those that were there
abbrev pub words_or : Option (List ℕ) → List ℕ → List ℕ
words_or None words = words
words_or (Some made) words = made

-- what becomes of the words of a name of text q, which follows text p, by its rows in both: it gets words, or keeps its own
abbrev pub GetsWords : (p q : List BareDef) → (old new : Option TextRow) → List ℕ → Option (List ℕ) → Type 0
GetsWords p q old new words made =
    (name : Bytes) (d : BareDef) → IsRowOf p name old → IsRowOf q name new → definition q name ≡ Some d → IsTrue (has_cells d)
    → Carries p q name d (definition p name) words (words_or made words)

-- there is a row more, of a number, if there are words for it
abbrev pub AddsWords : ℕ → Option (List ℕ) → (old new : List NewRow) → Type 0
AddsWords number made old new =
    (n : ℕ) (words : List ℕ) → words_after new n words
    ≡ (if number == n then words_or made (words_after old n words) else words_after old n words)

-- the change of the cells of a global, by its name
abbrev pub cells_change : List Change → Bytes → Option GlobalChange
cells_change changes name = cells_in (found OfGlobal changes name)

-- the kind of the old cells; of what had none, that of `int`
abbrev pub kind_in : Option TextRow → ValueKind
kind_in None = kind_of int
kind_in (Some r) = r.kind

-- the first words of a global that is new
abbrev pub first_if_new : Option TextRow → TextRow → Option (List ℕ)
first_if_new None r = Some r.first.items
first_if_new (Some old) r = None
