-- What threads of code use of the names of their texts, where newer texts are installed.
use Rattle.std.specs.Prelude.{◌≡◌, ℕ, true, false, List, Some, None}
use Rattle.run_types.specs.declared.run.Event.{Event}
use Rattle.c_tree.specs.BareExpr.{Bytes}
use Rattle.c_tree.specs.BareDef.{BareDef}
use Rattle.c_semantics.specs.Changes.{agree, same_interface}
use Rattle.c_semantics.specs.SourceTexts.{Text}
use Rattle.c_semantics.specs.Stops.{Stop}
use Rattle.c_semantics.specs.Texts.{definition}
use Rattle.effects.specs.Rows.{AreRows}
use Rattle.source_model.specs.Guards.{Guard, Rules, Setup, seat_of}
use Rattle.source_model.specs.Journals.{guard_after}
use Rattle.source_model.specs.Uses.{use_at}
use Rattle.source_model.specs.Worlds.{World}
use Rattle.version_laws.specs.Histories.{last_text, text_in}
use Rattle.frame_bodies.specs.AcceptedTexts.{definitions_of}
use Rattle.accepted_runs.specs.AcceptedRuns.{TextsAreAccepted}
use Rattle.tree_code.specs.CodedPieces.{Stops}
use Rattle.code_runs.specs.CodeData.{Names}
use Rattle.code_runs.specs.CodeMoves.{frame_code}
use Rattle.code_runs.specs.CodeThreads.{CodeEnter, CodeFrame, CodeNext, CodeThread, CodeWorld, Enters, Live, Rests}
use Rattle.code_runs.specs.CodeWaits.{WaitsNext, in_slot}
use Rattle.code_runs.specs.Layouts.{field_tag}
use Rattle.code_runs.specs.SharedStops.{members_in}
use Rattle.code_run_laws.specs.MoveLaws.{Stands, UsesWell}

-- in the world that a legal journal of accepted texts comes to, no move of a thread that isn't at a check-in misuses a definition,
-- over rules whose rows are those of the definitions of effects
abbrev pub JournalsUseWell : Type 0
JournalsUseWell =
    (rules : Rules) (setup : Setup) (events : List Event) (g : Guard) (t : ℕ)
    → AreRows rules.row → TextsAreAccepted setup → guard_after rules setup events ≡ Some g → (seat_of g t).at_check_in ≡ false
    → UsesWell g.world t

-- a thread of code uses a name next, on behalf of a version: that of the frame that called or spawned, or of the frame that stops
pub data UsesNext (texts : List (List BareDef)) : CodeNext → (version : ℕ) → Bytes → Type 0 where
  at_enter : (e : CodeEnter) → UsesNext texts (Enters e) e.version e.function
  at_stop : (f : CodeFrame) (s : Stop) (point after : ℕ) (name : Bytes) → Stops (frame_code texts f) s point f.state.place after
      → use_at s ≡ Some name → UsesNext texts (Rests f) f.version name

-- where the move of a thread misuses nothing, the last text has what it uses with the interface that the version's text gives it: the
-- function that it enters, the variable, array or mutex that it uses, the struct of whose object it makes, uses or ends
abbrev pub UsedNamesStay : Type 0
UsedNamesStay =
    (texts : List Text) (names : Names) (w : World) (own : CodeWorld) (t : ℕ) (th : CodeThread) (version : ℕ) (name : Bytes)
    → Stands texts names w own → UsesWell w t → own.finish ≡ None → in_slot own t ≡ Live th
    → WaitsNext (definitions_of texts) names own t th.next None → UsesNext (definitions_of texts) th.next version name
    → let defs = definitions_of texts in
    agree same_interface (definition (text_in defs version) name) (definition (last_text defs) name) ≡ true

-- so at a stop that uses a field, whatever its handle is, the number of the field is the same by the frame's text and by the last one
abbrev pub FieldsStayAtTheirPlaces : Type 0
FieldsStayAtTheirPlaces =
    (texts : List Text) (names : Names) (w : World) (own : CodeWorld) (t : ℕ) (th : CodeThread) (f : CodeFrame) (s : Stop)
    (point after : ℕ) (tag : Bytes)
    → Stands texts names w own → UsesWell w t → own.finish ≡ None → in_slot own t ≡ Live th → th.next ≡ Rests f
    → Stops (frame_code (definitions_of texts) f) s point f.state.place after → field_tag s ≡ Some tag
    → let defs = definitions_of texts in members_in (text_in defs f.version) tag ≡ members_in (last_text defs) tag
