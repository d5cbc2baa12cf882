-- What the steps promise one another.
use Rattle.std.specs.Prelude.{◌≡◌, ℕ, List, ◌++◌, All, map, Some, Option, slice_get}
use Rattle.std.specs.List.{flat_map, AllZip}
use Rattle.name_sets.specs.Texts.{IsTable}
use Rattle.c_tree.specs.BareExpr.{Bytes}
use Rattle.c_semantics.specs.Store.{Body, Mark, Start, CheckInOf}
use Rattle.con_freeness.specs.declared.refusal.Effect.{Effect as EffectOfIds}
use Rattle.con_freeness.specs.Decisions.{IsListOf}
use Rattle.con_freeness.specs.Rows.{Names}
use Rattle.code_store.specs.Stored.{IsStoreOf}
use Rattle.checkin_rows.specs.Rows.{AreRowsOf}
use Rattle.patch_build.specs.declared.fault.PatchFault.{PatchFault}
use Rattle.patch_build.specs.declared.fault.PatchFault.TheVariants.{Not, UndefinedName, Memory}
use Rattle.check_in_places.specs.declared.section.Spot.{Spot}
use Rattle.check_in_places.specs.declared.section.Section.{Section}
use Rattle.admits_report.specs.declared.admission.Admission.{Admission}
use Rattle.admits_report.specs.declared.answers.CheckInAnswer.{CheckInAnswer}
use Rattle.admits_report.specs.declared.answers.FunctionAnswers.{FunctionAnswers}
use Rattle.admits_report.specs.AdmitsText.{IsAnswer, block_text, cause_text, end_text}
use Rattle.admits_report.specs.Shown.{answer_shown, block_of}

-- the rows are those of a store, and the sets have the names that change and those whose interface changes
pub record IsAdmissionOver (bodies : List Body) (changed interface : Names) (a : Admission) : Type 0 where
  pub table : IsTable a.names.now
  pub store : IsStoreOf a.names.now bodies a.bodies.now
  pub rows : AreRowsOf a.names.now bodies a.rows
  pub changed_is : IsListOf a.names.now a.changed changed
  pub interface_is : IsListOf a.names.now a.interface interface

-- an answer is that of the row of a mark, whichever the store and the names are
abbrev pub AnswersFor : Admission → Mark → Option EffectOfIds → Type 0
AnswersFor a mark answer =
    (bodies : List Body) (changed interface : Names)
    → IsAdmissionOver bodies changed interface a → IsAnswer bodies changed interface mark (answer_shown a.names.now answer)

-- the check-in of a line
abbrev pub spot_of : CheckInAnswer → Spot
spot_of line = line.spot

-- lines have the answers of the rows of check-ins of a function's first body
abbrev pub AreLinesFor : Admission → ℕ → List CheckInAnswer → Type 0
AreLinesFor a function lines =
    (f : Bytes) → slice_get a.names.now function ≡ Some f
    → All (λ line. AnswersFor a (CheckInOf f 1 line.spot.before) line.answer) lines

-- what the rows of a function answer
pub record AreAnswersOf (a : Admission) (section : Section) (f : FunctionAnswers) : Type 0 where
  pub function : f.function ≡ section.function
  pub spots : map spot_of f.lines.items ≡ section.spots.items
  pub start : (name : Bytes) → slice_get a.names.now section.function ≡ Some name → AnswersFor a (Start name) f.start
  pub lines : AreLinesFor a section.function f.lines.items

-- a text has the blocks of what the rows of some functions answer, and then the count
pub record IsSectionsText (a : Admission) (text : Bytes) (sections : List Section) (output : Bytes) : Type 0 where
  pub functions : List FunctionAnswers
  pub are : AllZip (AreAnswersOf a) sections functions
  pub printed : let blocks = map (block_of a.names.now) functions in
      output ≡ flat_map (block_text text) blocks ++ end_text blocks

-- the text of a fault; there is none for a name that isn't defined, and out of memory
abbrev pub IsFaultText : PatchFault → Bytes → Bytes → Type 0
IsFaultText (Not cause) newer output = output ≡ cause_text cause newer
IsFaultText UndefinedName newer output = ⊥
IsFaultText Memory newer output = ⊥
