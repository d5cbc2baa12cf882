-- Laws of versioned definitions: what they are by the texts of a run.
use Rattle.std.specs.Prelude.{◌≡◌, ℕ, List, [], ◌∷◌, ◌++◌, All, Some}
use Rattle.std.specs.Option.{option_and_then}
use Rattle.c_tree.specs.BareExpr.{Bytes}
use Rattle.c_tree.specs.BareDef.{BareDef}
use Rattle.c_semantics.specs.Texts.{Definitions, definition}
use Rattle.c_semantics.specs.Changes.{agree, same_interface}
use Rattle.c_semantics.specs.Values.{Value}
use Rattle.c_semantics.specs.Threads.{entered}
use Rattle.source_model.specs.Versions.{Table, current, first_table, next_table}
use Rattle.source_model.specs.Worlds.{World, Limits}
use Rattle.source_model.specs.Uses.{is_right}
use Rattle.source_model.specs.Runs.{SourceMove, run, start}
use Rattle.source_model.specs.JournalLaws.{HasMain}
use Rattle.version_laws.specs.Histories.{Alike, IsHistory, text_in, last_text, versions_by}
use Rattle.version_laws.specs.Fitting.{ObjectsFit}

-- the table of a first text is that of this text alone
abbrev pub FirstHistory : Type 0
FirstHistory = (text : List BareDef) → HasMain text → IsHistory (text ∷ []) (first_table text)

-- the next table is that of one text more
abbrev pub NextHistory : Type 0
NextHistory =
    (texts : List (List BareDef)) (table : Table) (q : List BareDef)
    → IsHistory texts table → HasMain q → IsHistory (texts ++ q ∷ []) (next_table (current table) (last_text texts) q table)

-- definitions that are alike give each function the same frame
abbrev pub EntersAlike : Type 0
EntersAlike =
    (look other : Definitions) → ((name : Bytes) → Alike (look name) (other name))
    → (f : Bytes) (version : ℕ) (arguments : List Value) → entered look f version arguments ≡ entered other f version arguments

-- a use of a name on behalf of version n is right where the text of version n and the last one give it the same interface
abbrev pub RightByTexts : Type 0
RightByTexts =
    (texts : List (List BareDef)) (table : Table) → IsHistory texts table → (n : ℕ) (name : Bytes)
    → is_right table n name ≡ agree same_interface (definition (text_in texts n) name) (definition (last_text texts) name)

-- in each world that a run comes to, the table is that of the texts installed so far, and the text is the last of them
abbrev pub TextIsLast : Type 0
TextIsLast =
    (texts : List (List BareDef)) (limits : Limits) (ms : List SourceMove) (w : World)
    → All HasMain texts → option_and_then (run texts ms) (start texts limits) ≡ Some w
    → IsHistory (versions_by texts ms) w.table × (w.text ≡ last_text (versions_by texts ms))

-- and each object fits the layout of its struct
abbrev pub ObjectsAlwaysFit : Type 0
ObjectsAlwaysFit =
    (texts : List (List BareDef)) (limits : Limits) (ms : List SourceMove) (w : World)
    → All HasMain texts → option_and_then (run texts ms) (start texts limits) ≡ Some w → ObjectsFit w
