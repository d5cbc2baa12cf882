-- Since which version names have their definitions, by the texts of the versions.
use Rattle.std.specs.Prelude.{◌≡◌, ◌≤◌, ℕ, zero, suc, nat_le, nat_lt, Bool, false, not, IsTrue, List, length, Option, None, if◌then◌else◌}
use Rattle.std.specs.Option.{is_some}
use Rattle.c_tree.specs.BareExpr.{Bytes}
use Rattle.c_tree.specs.BareDef.{BareDef}
use Rattle.c_semantics.specs.Texts.{definition}
use Rattle.c_semantics.specs.Changes.{agree, same_definition}
use Rattle.c_semantics.specs.Threads.{Use}
use Rattle.source_model.specs.Versions.{Table, current, entries_of, in_version}
use Rattle.source_model.specs.Uses.{use_of}
use Rattle.source_model.specs.Spans.{has_version}
use Rattle.version_laws.specs.Histories.{IsHistory, text_in}

-- two texts differ on a name: one of them defines it, and they don't define it alike
abbrev pub differ_by : Option BareDef → Option BareDef → Bool
differ_by None None = false
differ_by a b = not (agree same_definition a b)

abbrev pub differ : List BareDef → List BareDef → Bytes → Bool
differ p q name = differ_by (definition p name) (definition q name)

-- the last version up to n whose text differs on a name from the text before; 0 where there is none
abbrev pub began_by : List (List BareDef) → Bytes → ℕ → ℕ
began_by texts name zero = 0
began_by texts name (suc n) = if differ (text_in texts n) (text_in texts (suc n)) name then suc n else began_by texts name n

-- the version since which a name has its current definition
abbrev pub since : List (List BareDef) → Bytes → ℕ
since texts name = began_by texts name (length texts)

-- whether a name has a current definition
abbrev pub is_defined : Table → Bytes → Bool
is_defined table name = is_some (in_version table (current table) name)

-- whether the entry of a use is there
abbrev pub is_entry : Table → Use → Bool
is_entry table use_made = nat_lt use_made.entry (length (entries_of table use_made.name))

-- a table is that of some texts, one a version, and the current entry of a name has the versions since its definition began
pub record IsTableOf (texts : List (List BareDef)) (table : Table) : Type 0 where
  pub history : IsHistory texts table
  pub entries : (name : Bytes) (v : ℕ) → IsTrue (is_defined table name) → v ≤ current table
      → has_version table v (use_of table name) ≡ nat_le (since texts name) v
