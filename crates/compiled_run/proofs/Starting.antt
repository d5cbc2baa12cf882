-- The start of a run of the first of some texts.
use Rattle.std.proofs.Common.{◌≡◌, ℕ, ◌<◌, List, [], ◌∷◌, length, slice_index_or, refl, sym, ap, subst, ◌∙◌, arith}
use Rattle.std.proofs.lemmas.List.Elements.{All-cons, All-head, All-nil}
use Rattle.c_tree.specs.BareDef.{BareDef}
use Rattle.c_semantics.specs.SourceTexts.{Text}
use Rattle.source_model.specs.JournalLaws.{HasMain}
use Rattle.source_model.specs.Worlds.{Limits, World, first_world}
use Rattle.version_laws.proofs.RunHistories.{runs_are_of}
use Rattle.frame_bodies.specs.AcceptedTexts.{AreAccepted, IsAccepted, definitions_of}
use Rattle.world_laws.proofs.Accepted.{main_in}
use Rattle.world_laws.proofs.Runs.{worlds_hold}
use Rattle.typed_runs.specs.TypedRunLaws.{IsWorldOf}
use Rattle.typed_runs.proofs.AcceptedWorlds.{each_has, first_world_typed}
use Rattle.progress_laws.specs.ProgressLaws.{ThreadsOfRunsGoOn}
use Rattle.code_runs.specs.CodeData.{number_of}
use Rattle.code_runs.specs.CodeThreads.{CodeWorld}
use Rattle.code_run_laws.specs.MoveLaws.{CodeStartsAlike, IsCoded, Stands, Starts}
use Rattle.code_run_laws.specs.WorldMatches.{Numbers}
use Rattle.code_run_laws.proofs.SmallTexts.{few_fields}
use Rattle.code_install_laws.specs.InstalledTexts.{AcceptedTextsAreCoded}
use Rattle.word_layouts.specs.WordChanges.{HasFewFields}
use Rattle.code_image.specs.Images.{IsImage, names_in}
use Rattle.code_image.specs.declared.image.CodeImage.{CodeImage}
use Rattle.code_machine.specs.declared.machine.CodeMachine.{CodeMachine}
use Rattle.code_machine.specs.Seen.{code_world, output_of}
use Rattle.code_machine.specs.Steps.{IsStart}
use Rattle.code_machine.specs.Versions.{IsMachineOf, texts_by, versions_of}
use Rattle.image_load.specs.declared.text_data.TextData.{TextData}
use Rattle.image_load.specs.TextTables.{AreDataOf}
use Rattle.image_load.specs.Loaded.{AreAcceptedAs, AreLoaded, HasFirstCells}
use Rattle.compiled_run.specs.CodeOfRuns.{IsRunOf}
use Rattle.compiled_run.proofs.NumberedNames.{numbers_in}

module _ (coded : AcceptedTextsAreCoded) (starts_alike : CodeStartsAlike) (go_on : ThreadsOfRunsGoOn) (first : Text) (rest : List Text)
    (accepted : AreAccepted (first ∷ rest)) (limits : Limits) (m : CodeMachine) (tables : List TextData)
    (of : IsMachineOf (definitions_of (first ∷ rest)) m) (are : AreDataOf (definitions_of (first ∷ rest)) tables)
    (versions : versions_of m ≡ 0 ∷ []) (starts : Starts first.definitions limits (names_in (definitions_of (first ∷ rest))) (code_world m))
    (silent : output_of m ≡ []) where
  abbrev texts : List (List BareDef)
  texts = definitions_of (first ∷ rest)

  abbrev world : World
  world = first_world first.definitions limits

  own : IsAccepted first
  own = All-head IsAccepted first rest accepted

  one : AreAccepted (first ∷ [])
  one = All-cons IsAccepted first [] own (All-nil IsAccepted)

  numbered : Numbers (names_in texts) first.definitions
  numbered = numbers_in texts 0 first.definitions refl

  is_world_of : IsWorldOf (first ∷ []) world
  is_world_of =
      let of = runs_are_of (first.definitions ∷ []) limits [] world (each_has HasMain main_in (first ∷ []) one) refl in
      let holds = worlds_hold (first ∷ []) limits [] world one refl in
      record { history = of.history; last = of.last; holds = holds.0 }

  first_stands : Stands (first ∷ []) (names_in texts) world (code_world m)
  first_stands = record {
    accepted = one;
    coded = All-cons IsCoded first.definitions [] (coded first own) (All-nil IsCoded);
    numbers = All-cons (Numbers (names_in texts)) first.definitions [] numbered (All-nil (Numbers (names_in texts)));
    of = is_world_of;
    typed = first_world_typed first limits own;
    matches = starts_alike first limits (names_in texts) (code_world m) one numbered starts;
  }

  pub first_run : IsRunOf texts limits [] m tables 0
  first_run = record {
    machine_is = of;
    tables_are = are;
    versions = first ∷ [];
    are = refl;
    installed = ap (texts_by texts) versions;
    world = world;
    ran = refl;
    stands = first_stands;
    goes_on = λ going t th lives. go_on (first ∷ []) limits [] world t th one tt refl going lives;
    within = omega arith;
    output_is = silent;
    few = omega arith;
  }

-- a machine over code starts so, by the words of the first text's cells
starts_from : (first : List BareDef) (rest : List (List BareDef)) (limits : Limits) (cells : List (List ℕ)) (w : CodeWorld)
    → IsStart (names_in (first ∷ rest)) cells limits.objects limits.slots w → length cells ≡ length (names_in (first ∷ rest)).cells
    → HasFirstCells (first ∷ rest) cells → Starts first limits (names_in (first ∷ rest)) w
starts_from first rest limits cells w start rows has = record {
  rows = ap length start.cells_are ∙ rows;
  cells =
      λ naming name known.
      ap (λ (cs : List (List ℕ)). slice_index_or cs (number_of (names_in (first ∷ rest)).cells name) []) start.cells_are
      ∙ has limits naming first name refl known;
  objects = start.objects_are;
  holders = start.holders;
  slots = start.slots_are;
  version = start.version;
  threads = start.threads;
  finish = start.finish;
}

-- the run of accepted texts, by what loading them and starting a machine promise
pub begins : AcceptedTextsAreCoded → CodeStartsAlike → ThreadsOfRunsGoOn → (texts : List (List BareDef)) → 0 < length texts → AreAcceptedAs texts
    → (limits : Limits) (image : CodeImage) → AreLoaded texts image → (cells : List (List ℕ))
    → length cells ≡ length (names_in texts).cells → HasFirstCells texts cells → (tables : List TextData) → AreDataOf texts tables
    → (m : CodeMachine) → ((ts : List (List BareDef)) → IsImage ts image → IsStart (names_in ts) cells limits.objects limits.slots (code_world m))
    → ((text : List BareDef) (ts : List (List BareDef)) → IsImage (text ∷ ts) image → HasFewFields text → IsMachineOf (text ∷ ts) m)
    → versions_of m ≡ 0 ∷ [] → output_of m ≡ [] → IsRunOf texts limits [] m tables 0
begins coded starts_alike go_on texts some a limits image loaded cells rows has tables are m starts run versions silent =
    by a.whole a.accepted a.are
  where
    by : (whole : List Text) → AreAccepted whole → definitions_of whole ≡ texts → IsRunOf texts limits [] m tables 0
    by [] accepted e = let none : 0 ≡ length texts = ap length e in absurd (omega (arith, some, none))
    by (first ∷ rest) accepted e =
        let is : IsImage (definitions_of (first ∷ rest)) image = loaded (first ∷ rest) accepted e in
        let few : HasFewFields first.definitions = λ tag. few_fields first tag (All-head IsAccepted first rest accepted) in
        subst (λ (ts : List (List BareDef)). IsRunOf ts limits [] m tables 0) e
        (first_run coded starts_alike go_on first rest accepted limits m tables (run first.definitions (definitions_of rest) is few)
        (subst (λ (ts : List (List BareDef)). AreDataOf ts tables) (sym e) are) versions
        (starts_from first.definitions (definitions_of rest) limits cells (code_world m) (starts (definitions_of (first ∷ rest)) is)
        (subst (λ (ts : List (List BareDef)). length cells ≡ length (names_in ts).cells) (sym e) rows)
        (subst (λ (ts : List (List BareDef)). HasFirstCells ts cells) (sym e) has)) silent)
