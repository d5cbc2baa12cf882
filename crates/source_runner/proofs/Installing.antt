-- A run that installs a text.
use Rattle.std.proofs.Common.{◌≡◌, ℕ, ◌<◌, Bool, true, false, List, [], ◌∷◌, ◌++◌, map, length, Option, Some, None, refl, sym, ap, subst, ◌∙◌, if◌then◌else◌, All}
use Rattle.std.specs.Prelude.{slice_get, slice_index_or}
use Rattle.c_tree.specs.BareDef.{BareDef}
use Rattle.source_model.specs.Installs.{installed}
use Rattle.source_model.specs.Runs.{SourceMove, Install, install}
use Rattle.source_model.specs.Worlds.{World, Limits, is_over}
use Rattle.source_model.specs.JournalLaws.{HasMain}
use Rattle.version_laws.specs.Histories.{last_text, versions_by}
use Rattle.type_transformers.specs.declared.change.Change.{Change}
use Rattle.type_transformers.specs.Changes.{IsChange, changing, name_of}
use Rattle.source_programs.specs.Programs.{text_at, trees_of, versions_of}
use Rattle.source_runner.specs.Machines.{Stands}
use Rattle.source_install.specs.NewData.{IsInstall}
use Rattle.source_runner.specs.SourceRuns.{IsRun, world_after}
use Rattle.source_runner.specs.declared.run.SourceRun.{SourceRun}
use Rattle.source_runner.proofs.AfterMoves.{installed_versions, then_install}
use Rattle.version_laws.proofs.ObjectsOfRuns.{objects_always_fit}
use Rattle.source_data.proofs.Texts.{no_text, text_there, texts_are, texts_have_main}

-- what an install comes to in a world that isn't over
install_going : (w : World) (q : List BareDef) → is_over w ≡ false → install w (Some q) ≡ Some (installed q w)
install_going w q going = let by : Bool → Option World = λ b. if b then None else Some (installed q w) in ap by going

-- in one that is over nothing is installed, nor where there is no text
install_over : (w : World) (o : Option (List BareDef)) → is_over w ≡ true → install w o ≡ None
install_over w None over = refl
install_over w (Some q) over = let by : Bool → Option World = λ b. if b then None else Some (installed q w) in ap by over

pub over_cannot : (texts : List (List BareDef)) (limits : Limits) (ms : List SourceMove) (k : ℕ) (r : SourceRun) (h : IsRun texts limits ms r)
    → is_over h.world ≡ true → world_after texts limits (ms ++ Install k ∷ []) ≡ None
over_cannot texts limits ms k r h over = then_install texts limits ms k h.world h.ran ∙ install_over h.world (slice_get texts k) over

pub none_cannot : (texts : List (List BareDef)) (limits : Limits) (ms : List SourceMove) (k : ℕ) (r : SourceRun) (h : IsRun texts limits ms r)
    → slice_get (trees_of r.machine.program) k ≡ None → world_after texts limits (ms ++ Install k ∷ []) ≡ None
none_cannot texts limits ms k r h none =
    then_install texts limits ms k h.world h.ran
    ∙ ap (install h.world) (ap (λ ts. slice_get ts k) (sym h.loaded) ∙ no_text r.machine.program k none)

-- the changes of data are those of the install in the run's world
pub installs : (texts : List (List BareDef)) (limits : Limits) (ms : List SourceMove) (k : ℕ) (r : SourceRun) (changes : List Change)
    → (h : IsRun texts limits ms r)
    → map name_of changes ≡ changing (last_text (versions_by texts ms)) (slice_index_or texts k [])
    → All (IsChange (last_text (versions_by texts ms)) (slice_index_or texts k [])) changes
    → IsInstall r.machine.program k changes r.machine.store h.world
installs texts limits ms k r changes h named are = record {
  follows = record {
    programs = h.stands.all.program;
    text = h.stands.all.text;
    named = subst (λ p. map name_of changes ≡ changing p q) older (subst (λ x. map name_of changes ≡ changing p x) newer named);
    are = subst (λ p. All (IsChange p q) changes) older (subst (λ x. All (IsChange p x) changes) newer are);
  };
  shared = h.stands.all.store;
  fits = (objects_always_fit texts limits ms h.world (subst (All HasMain) h.loaded (texts_have_main r.machine.program h.stands.all.program)) h.ran).each;
}
  where
    p : List BareDef
    p = last_text (versions_by texts ms)

    q : List BareDef
    q = text_at r.machine.program k

    older : p ≡ h.world.text
    older = sym (h.stands.all.text ∙ ap last_text h.versions)

    newer : slice_index_or texts k [] ≡ q
    newer = ap (λ ts. slice_index_or ts k []) (sym h.loaded)

-- a text was installed
pub installed_run : (texts : List (List BareDef)) (limits : Limits) (ms : List SourceMove) (k : ℕ) (old new : SourceRun)
    → (h : IsRun texts limits ms old) → is_over h.world ≡ false → k < length (trees_of old.machine.program)
    → Stands new.machine (installed (text_at old.machine.program k) h.world)
    → trees_of new.machine.program ≡ trees_of old.machine.program
    → versions_of new.machine.program ≡ versions_of old.machine.program ++ text_at old.machine.program k ∷ []
    → IsRun texts limits (ms ++ Install k ∷ []) new
installed_run texts limits ms k old new h going below stands same longer = record {
  world = installed (text_at old.machine.program k) h.world;
  ran =
      then_install texts limits ms k h.world h.ran
      ∙ ap (install h.world) there
      ∙ install_going h.world (slice_index_or texts k []) going
      ∙ ap (λ q. Some (installed q h.world)) (sym text);
  stands = stands;
  loaded = texts_are new.machine.program _ same ∙ sym (texts_are old.machine.program _ refl) ∙ h.loaded;
  versions = versions ∙ sym (installed_versions texts ms k);
}
  where
    text : text_at old.machine.program k ≡ slice_index_or texts k []
    text = ap (λ ts. slice_index_or ts k []) h.loaded

    there : slice_get texts k ≡ Some (slice_index_or texts k [])
    there = ap (λ ts. slice_get ts k) (sym h.loaded) ∙ text_there old.machine.program k below ∙ ap Some text

    versions : versions_of new.machine.program ≡ versions_by texts ms ++ slice_index_or texts k [] ∷ []
    versions = longer ∙ ap (λ vs. vs ++ text_at old.machine.program k ∷ []) h.versions ∙ ap (λ q. versions_by texts ms ++ q ∷ []) text
