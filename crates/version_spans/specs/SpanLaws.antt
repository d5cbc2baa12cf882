-- Laws of the versions of recorded entries.
use Rattle.std.specs.Prelude.{◌≡◌, ℕ, suc, ◌≤◌, ◌<◌, ◌&&◌, IsTrue, List, [], ◌∷◌, ◌++◌, All, Some}
use Rattle.std.specs.Option.{option_and_then}
use Rattle.c_tree.specs.BareDef.{BareDef}
use Rattle.c_semantics.specs.Changes.{agree, same_definition}
use Rattle.c_semantics.specs.Texts.{definition}
use Rattle.c_semantics.specs.Threads.{Use}
use Rattle.source_model.specs.Versions.{Table, current, next_table}
use Rattle.source_model.specs.Worlds.{World, Limits}
use Rattle.source_model.specs.Spans.{has_version}
use Rattle.source_model.specs.Runs.{SourceMove, run, start}
use Rattle.source_model.specs.JournalLaws.{HasMain}
use Rattle.version_laws.specs.Histories.{last_text, versions_by}
use Rattle.version_spans.specs.Beginnings.{IsTableOf, is_entry}

-- an install leaves to each use its versions so far
abbrev pub VersionsStay : Type 0
VersionsStay =
    (p q : List BareDef) (table : Table) (v : ℕ) (u : Use) → v ≤ current table
    → has_version (next_table (current table) p q table) v u ≡ has_version table v u

-- and gives the next version to those that have the current one and whose definition is the same in the newer text
abbrev pub NextVersion : Type 0
NextVersion =
    (p q : List BareDef) (table : Table) (u : Use) → IsTrue (is_entry table u)
    → has_version (next_table (current table) p q table) (suc (current table)) u
    ≡ (has_version table (current table) u && agree same_definition (definition p u.name) (definition q u.name))

-- where a text that defines `main` follows the last one, the next table is that of the texts with this one more
abbrev pub TablesFollow : Type 0
TablesFollow =
    (texts : List (List BareDef)) (table : Table) (q : List BareDef)
    → IsTableOf texts table → HasMain q → IsTableOf (texts ++ q ∷ []) (next_table (current table) (last_text texts) q table)

-- in each world that a run comes to, the table is that of the texts installed so far, and there is a version
abbrev pub TablesOfRuns : Type 0
TablesOfRuns =
    (texts : List (List BareDef)) (limits : Limits) (ms : List SourceMove) (w : World)
    → All HasMain texts → option_and_then (run texts ms) (start texts limits) ≡ Some w
    → IsTableOf (versions_by texts ms) w.table × (0 < current w.table)
