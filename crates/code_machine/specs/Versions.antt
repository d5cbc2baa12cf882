-- Runs of code over the versions of their texts.
use Rattle.std.specs.Prelude.{◌≡◌, ℕ, suc, ◌-◌, ◌<◌, List, [], ◌∷◌, All, map, length, slice_get, slice_index_or, None, Some}
use Rattle.c_tree.specs.BareExpr.{Bytes}
use Rattle.c_tree.specs.BareDef.{BareDef}
use Rattle.c_semantics.specs.Stops.{Stop}
use Rattle.version_laws.specs.Histories.{last_text, text_in}
use Rattle.resolved_tree.specs.Nodes.{word}
use Rattle.tree_code.specs.CodedPieces.{Stops}
use Rattle.code_runs.specs.CodeData.{Data, Names}
use Rattle.code_runs.specs.CodeThreads.{CodeFrame, CodeThread, CodeWorld, Live, Rests}
use Rattle.code_runs.specs.CodeMoves.{frame_code}
use Rattle.code_runs.specs.CodeWaits.{in_slot}
use Rattle.code_runs.specs.Layouts.{field_tag}
use Rattle.code_runs.specs.SharedStops.{members_in}
use Rattle.word_frames.specs.declared.frame.Frame.{Frame}
use Rattle.word_frames.specs.Seen.{frames_of}
use Rattle.word_layouts.specs.declared.layouts.WordLayouts.{WordLayouts}
use Rattle.word_layouts.specs.WordChanges.{StandFor}
use Rattle.word_installs.specs.Freshened.{HasLayouts, NumbersStructs}
use Rattle.code_image.specs.declared.function.CodeFunction.{CodeFunction}
use Rattle.code_image.specs.declared.image.CodeImage.{CodeImage}
use Rattle.code_image.specs.Images.{IsImage, names_in}
use Rattle.code_machine.specs.declared.machine.CodeMachine.{CodeMachine}
use Rattle.code_machine.specs.declared.running.Running.{Running}
use Rattle.code_machine.specs.declared.state.RunState.{RunState}
use Rattle.code_machine.specs.Seen.{name_at, words_of, world_of}

-- the texts of versions, by their numbers among all texts of a run
abbrev pub texts_by : List (List BareDef) → List ℕ → List (List BareDef)
texts_by all versions = map (λ n. slice_index_or all n []) versions

-- ---- a thread

-- a frame was entered under one of some versions, of whose text its function is
pub record IsOfVersion (functions : List CodeFunction) (versions : List ℕ) (f : Frame) : Type 0 where
  pub before : ℕ
  pub version : f.version ≡ suc before
  pub text : (g : CodeFunction) → slice_get functions f.unit ≡ Some g → slice_get versions before ≡ Some g.text

-- the frames of a slot run the code of these versions of some texts
pub record RunsCode (all : List (List BareDef)) (versions : List ℕ) (image : CodeImage) (r : Running) : Type 0 where
  pub image_is : IsImage all image
  pub frames : All (IsOfVersion image.functions.items versions) r.frames.frames.items

-- a function is that which the last of some versions gives the name with a number
pub record IsInForce (image : CodeImage) (versions : List ℕ) (name function : ℕ) : Type 0 where
  pub some : 0 < length versions
  pub named : (g : CodeFunction) → slice_get image.functions.items function ≡ Some g → word (words_of image) g.name ≡ name_at image name
  pub last : (g : CodeFunction) → slice_get image.functions.items function ≡ Some g → slice_get versions (length versions - 1) ≡ Some g.text

-- ---- stops that use fields

-- a struct whose field a frame uses next has the same fields by the frame's text and by the last one
abbrev pub FieldsStay : List (List BareDef) → CodeFrame → Type 0
FieldsStay texts f =
    (s : Stop) (point after : ℕ) (tag : Bytes) → Stops (frame_code texts f) s point f.state.place after → field_tag s ≡ Some tag
    → members_in (text_in texts f.version) tag ≡ members_in (last_text texts) tag

-- objects have the layouts of versions so far, and the last text's structs are numbered; so an object can be brought to that text
pub record HasLayoutsOf (all : List (List BareDef)) (versions : List ℕ) (layouts : WordLayouts) (d : Data) : Type 0 where
  pub stand : StandFor (texts_by all versions) (names_in all).tags layouts.versions.items
  pub version : suc d.version ≡ length versions
  pub known : HasLayouts d
  pub tags : NumbersStructs (names_in all) (last_text (texts_by all versions))

-- so where the innermost frame of a slot uses a field next, its object can be brought, and has the field at the same place
pub record UsesObjectsWell (all : List (List BareDef)) (versions : List ℕ) (layouts : WordLayouts) (image : CodeImage) (r : Running) (d : Data)
    : Type 0 where
  pub layouts_of : HasLayoutsOf all versions layouts d
  pub fields : (f : CodeFrame) (below : List CodeFrame) → frames_of (words_of image) r.frames ≡ f ∷ below → FieldsStay (texts_by all versions) f

-- ---- a run

-- nothing changed of the versions of a run, nor of what brings objects to them
pub record SameVersions (old new : RunState) : Type 0 where
  pub versions : new.versions ≡ old.versions
  pub in_force : new.in_force ≡ old.in_force
  pub layouts : new.layouts ≡ old.layouts

-- a run is one of some texts, of which those with the numbers of its versions were installed
pub record IsRunOf (all : List (List BareDef)) (image : CodeImage) (run : RunState) : Type 0 where
  pub image_is : IsImage all image
  pub known : All (λ n. n < length all) run.versions.items
  pub version : suc run.shared.version ≡ length run.versions.items
  pub last : slice_get run.versions.items run.shared.version ≡ Some run.in_force
  pub stand : StandFor (texts_by all run.versions.items) (names_in all).tags run.layouts.versions.items
  pub frames : (n : ℕ) (r : Running) → slice_get run.slots.items n ≡ Some r
      → All (IsOfVersion image.functions.items run.versions.items) r.frames.frames.items

-- what the move of the thread in a slot needs of a world, where newer texts were installed
pub record MovesWell (texts : List (List BareDef)) (names : Names) (w : CodeWorld) (t : ℕ) : Type 0 where
  pub known : HasLayouts w.shared
  pub tags : NumbersStructs names (last_text texts)
  pub fields : (th : CodeThread) (f : CodeFrame) → w.finish ≡ None → in_slot w t ≡ Live th → th.next ≡ Rests f → FieldsStay texts f

-- the texts of a run's versions
abbrev pub texts_of : List (List BareDef) → RunState → List (List BareDef)
texts_of all run = texts_by all run.versions.items

-- a run of some texts in which the thread in a slot may move
pub record IsReady (all : List (List BareDef)) (image : CodeImage) (run : RunState) (t : ℕ) : Type 0 where
  pub run_is : IsRunOf all image run
  pub well : MovesWell (texts_of all run) (names_in all) (world_of image run) t

-- ---- a machine

-- the numbers of the texts of its versions
abbrev pub versions_of : CodeMachine → List ℕ
versions_of m = m.run.versions.items

abbrev pub IsMachineOf : List (List BareDef) → CodeMachine → Type 0
IsMachineOf all m = IsRunOf all m.image.value m.run

abbrev pub IsReadyAt : List (List BareDef) → CodeMachine → ℕ → Type 0
IsReadyAt all m t = IsReady all m.image.value m.run t
