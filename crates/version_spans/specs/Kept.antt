-- What is kept of the texts of a run and of a transaction's record, and when it is theirs.
use Rattle.std.specs.Prelude.{◌≡◌, ◌<◌, ◌≤◌, ℕ, suc, nat_le, true, ◌&&◌, List, ◌++◌, All, IfSome, Some, None, length, map, unwrap_or, slice_get}
use Rattle.std.specs.List.{list_all}
use Rattle.c_tree.specs.BareExpr.{Bytes}
use Rattle.c_tree.specs.BareDef.{BareDef}
use Rattle.name_sets.specs.NameLists.{is_among}
use Rattle.name_sets.specs.Texts.{with_text}
use Rattle.c_semantics.specs.Names.{struct_name}
use Rattle.c_semantics.specs.Threads.{Record}
use Rattle.source_model.specs.Versions.{Table, current}
use Rattle.source_model.specs.Uses.{use_of}
use Rattle.source_model.specs.Spans.{has_version}
use Rattle.source_model.specs.Spans as source
use Rattle.version_laws.specs.Histories.{text_in}
use Rattle.version_spans.specs.declared.names.NameForm.{NameForm}
use Rattle.version_spans.specs.declared.names.NameForm.TheVariants.{Plain, Struct}
use Rattle.version_spans.specs.declared.names.NameSet.{NameSet}
use Rattle.version_spans.specs.declared.began.Began.{Began}
use Rattle.version_spans.specs.declared.record.Record.{Record as Kept}
use Rattle.version_spans.specs.declared.record.Span.{Span}
use Rattle.version_spans.specs.Beginnings.{differ, is_entry}

-- a name by its form and its text: that of a struct by its tag
abbrev pub name_of : NameForm → Bytes → Bytes
name_of Plain text = text
name_of Struct tag = struct_name tag

-- the texts of the names of a form
abbrev pub texts_in : NameSet → NameForm → List Bytes
texts_in s Plain = s.plain
texts_in s Struct = s.tags

-- all names of a set
abbrev pub names_in : NameSet → List Bytes
names_in s = s.plain ++ map struct_name s.tags

-- a set with one name more
abbrev pub with_name : NameSet → NameForm → Bytes → NameSet
with_name s Plain text = record s { plain = with_text s.plain text }
with_name s Struct tag = record s { tags = with_text s.tags tag }

-- a set has the names on which two texts differ, in each form
abbrev pub AreDifferences : List BareDef → List BareDef → NameSet → Type 0
AreDifferences p q s = (form : NameForm) (text : Bytes) → is_among (texts_in s form) text ≡ differ p q (name_of form text)

-- for each text the names on which it differs from the one before; the first one is after a text without definitions
pub record AreBeginnings (texts : List (List BareDef)) (b : Began) : Type 0 where
  pub count : length b.differences.items ≡ length texts
  pub each : (n : ℕ) (s : NameSet) → slice_get b.differences.items n ≡ Some s → AreDifferences (text_in texts n) (text_in texts (suc n)) s

-- the last version that all entries of a record share, where so many versions are there
abbrev pub last_of : Kept → ℕ → ℕ
last_of r count = unwrap_or r.last count

-- what is kept of a record: its entries share the versions from `first` on, up to `last` where one of them has ended; until
-- then the entries are the current ones of its names, and these are kept
pub record IsKept (table : Table) (uses : Record) (r : Kept) : Type 0 where
  pub begins : (1 ≤ r.first) × (r.first ≤ current table)
  pub ended : IfSome r.last (λ v. v < current table)
  pub shared : (v : ℕ) → 1 ≤ v → v ≤ current table
      → list_all (has_version table v) uses ≡ (nat_le r.first v && nat_le v (last_of r (current table)))
  pub entries : list_all (is_entry table) uses ≡ true
  pub newest : r.last ≡ None → All (λ u. u ≡ use_of table u.name) uses
  pub names : r.last ≡ None → (name : Bytes) → is_among (names_in r.names) name ≡ is_among (map (λ u. u.name) uses) name

-- a span
abbrev pub span_of : Span → source.Span
span_of s = record { slot = s.slot; first = s.first; last = s.last }
