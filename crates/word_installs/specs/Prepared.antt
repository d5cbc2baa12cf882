-- The install of a newer text in what threads share.
use Rattle.std.specs.Prelude.{◌≡◌, ℕ, ◌+◌, ◌<◌, ◌==◌, Bool, not, IsTrue, List, [], ◌∷◌, length, slice_set, Contains, Some, None}
use Rattle.std.specs.List.{list_any}
use Rattle.c_tree.specs.BareExpr.{Bytes}
use Rattle.c_tree.specs.BareDef.{BareDef}
use Rattle.c_semantics.specs.Texts.{definition}
use Rattle.source_model.specs.Installs.{has_cells, is_mutex}
use Rattle.version_laws.specs.Histories.{last_text}
use Rattle.code_runs.specs.CodeData.{Data, Names, number_of}
use Rattle.code_runs.specs.SharedStops.{with_holders}
use Rattle.word_installs.specs.declared.rows.NewRow.{NewRow}
use Rattle.word_installs.specs.NewRows.{AreNewRows, with_rows}

-- the mutexes with these numbers are held by nobody
abbrev pub without_holders : List ℕ → Data → Data
without_holders [] d = d
without_holders (n ∷ ns) d = without_holders ns (with_holders d (slice_set d.holders n None))

-- one text more was installed
abbrev pub in_next_version : Data → Data
in_next_version d = record d { version = d.version + 1 }

-- what is shared after an install that puts rows in place, and where the mutexes with some numbers are gone
abbrev pub installed : List NewRow → (gone : List ℕ) → Data → Data
installed rows gone d = in_next_version (without_holders gone (with_rows rows d))

-- a number is among some
abbrev pub has_number : List ℕ → ℕ → Bool
has_number ns n = list_any (λ m. m == n) ns

-- numbers are those of the mutexes among some names that a text doesn't have
abbrev pub AreGone : (names : List Bytes) → (text : List BareDef) → (gone : List ℕ) → Type 0
AreGone names text gone =
    (name : Bytes) → Contains names name → has_number gone (number_of names name) ≡ not (is_mutex (definition text name))

-- rows and numbers are those of the install of text q, which follows some texts: its globals and arrays have places, the rows have what
-- becomes of their words, and the numbers are those of the mutexes that it doesn't have
pub record ArePrepared (texts : List (List BareDef)) (names : Names) (q : List BareDef) (old : Data) (rows : List NewRow) (gone : List ℕ)
    : Type 0 where
  pub places : (name : Bytes) (d : BareDef) → definition q name ≡ Some d → IsTrue (has_cells d)
      → number_of names.cells name < length old.cells
  pub words : AreNewRows names.cells (last_text texts) q old rows
  pub mutexes : AreGone names.mutexes q gone
