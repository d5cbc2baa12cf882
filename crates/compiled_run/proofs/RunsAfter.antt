-- When a machine is the run over some moves: what the run's world needs is known, and code matches it; or it is as a machine that was.
use Rattle.std.proofs.Common.{◌≡◌, ℕ, ◌+◌, ◌≤◌, ◌<◌, List, [], All, drop, length, Some, sym, ap, subst, ◌∙◌, arith}
use Rattle.std.specs.Prelude.{◌^◌}
use Rattle.std.proofs.lemmas.List.{drop_all, length-drop}
use Rattle.std.proofs.lemmas.Option.{same_Some}
use Rattle.c_tree.specs.BareDef.{BareDef}
use Rattle.source_model.specs.Worlds.{World, Limits}
use Rattle.source_model.specs.Runs.{SourceMove}
use Rattle.version_laws.specs.Histories.{versions_by}
use Rattle.typed_runs.proofs.AcceptedWorlds.{each_has}
use Rattle.source_runner.specs.SourceRuns.{world_after}
use Rattle.code_runs.specs.CodeThreads.{CodeWorld}
use Rattle.code_run_laws.specs.MoveLaws.{IsCoded, Stands}
use Rattle.code_run_laws.specs.WorldMatches.{Numbers, WorldMatches}
use Rattle.code_install_laws.specs.InstalledTexts.{AcceptedTextsAreCoded}
use Rattle.code_image.specs.Images.{names_in}
use Rattle.code_machine.specs.declared.machine.CodeMachine.{CodeMachine}
use Rattle.code_machine.specs.Seen.{code_world, output_of}
use Rattle.code_machine.specs.Versions.{IsMachineOf, texts_by, versions_of}
use Rattle.image_load.specs.declared.text_data.TextData.{TextData}
use Rattle.image_load.specs.TextTables.{AreDataOf}
use Rattle.compiled_run.specs.CodeOfRuns.{IsRunOf}
use Rattle.compiled_run.specs.Needs.{NeedsOf}
use Rattle.compiled_run.proofs.NumberedNames.{numbers_of_versions}

-- ---- a machine that matches the world of the moves

module _ (coded : AcceptedTextsAreCoded) (texts : List (List BareDef)) (limits : Limits) (ms : List SourceMove) (n : NeedsOf texts limits ms)
    (m : CodeMachine) (tables : List TextData) (kept : ℕ) (of : IsMachineOf texts m) (are : AreDataOf texts tables)
    (installed : texts_by texts (versions_of m) ≡ versions_by texts ms) where
  abbrev Matches : World → Type 0
  Matches w = WorldMatches (versions_by texts ms) (names_in texts) w (code_world m)

  stands : Matches n.world → Stands n.versions (names_in texts) n.world (code_world m)
  stands matches = record {
    accepted = n.accepted;
    coded = each_has IsCoded coded n.versions n.accepted;
    numbers = subst (All (Numbers (names_in texts))) (installed ∙ n.are) (numbers_of_versions texts (versions_of m) of.known);
    of = n.of;
    typed = n.typed;
    matches = subst (λ (ts : List (List BareDef)). WorldMatches ts (names_in texts) n.world (code_world m)) n.are matches;
  }

  there : Matches n.world → kept ≤ length n.world.output → output_of m ≡ drop kept n.world.output → length n.world.output < 2 ^ 64
      → IsRunOf texts limits ms m tables kept
  there matches within output few = record {
    machine_is = of;
    tables_are = are;
    versions = n.versions;
    are = n.are;
    installed = installed ∙ n.are;
    world = n.world;
    ran = n.ran;
    stands = stands matches;
    goes_on = n.goes_on;
    within = within;
    output_is = output;
    few = few;
  }

  pub at_world : (w : World) → world_after texts limits ms ≡ Some w → Matches w → kept ≤ length w.output → output_of m ≡ drop kept w.output
      → length w.output < 2 ^ 64 → IsRunOf texts limits ms m tables kept
  at_world w ran matches within output few =
      let is : w ≡ n.world = same_Some w n.world (sym ran ∙ n.ran) in
      there (subst Matches is matches) (subst (λ (v : World). kept ≤ length v.output) is within)
      (subst (λ (v : World). output_of m ≡ drop kept v.output) is output) (subst (λ (v : World). length v.output < 2 ^ 64) is few)

-- ---- a machine that is as another that is the run

pub still : (texts : List (List BareDef)) (limits : Limits) (ms : List SourceMove) (old : CodeMachine) (tables : List TextData) (kept : ℕ)
    (h : IsRunOf texts limits ms old tables kept) (new : CodeMachine) (kept_now : ℕ) → IsMachineOf texts new
    → versions_of new ≡ versions_of old → code_world new ≡ code_world old → kept_now ≤ length h.world.output
    → output_of new ≡ drop kept_now h.world.output → IsRunOf texts limits ms new tables kept_now
still texts limits ms old tables kept h new kept_now of versions world within output = record {
  machine_is = of;
  tables_are = h.tables_are;
  versions = h.versions;
  are = h.are;
  installed = ap (texts_by texts) versions ∙ h.installed;
  world = h.world;
  ran = h.ran;
  stands = subst (λ (w : CodeWorld). Stands h.versions (names_in texts) h.world w) (sym world) h.stands;
  goes_on = h.goes_on;
  within = within;
  output_is = output;
  few = h.few;
}

pub unchanged : (texts : List (List BareDef)) (limits : Limits) (ms : List SourceMove) (old : CodeMachine) (tables : List TextData) (kept : ℕ)
    → IsRunOf texts limits ms old tables kept → (new : CodeMachine) → IsMachineOf texts new → versions_of new ≡ versions_of old
    → code_world new ≡ code_world old → output_of new ≡ output_of old → IsRunOf texts limits ms new tables kept
unchanged texts limits ms old tables kept h new of versions world output =
    still texts limits ms old tables kept h new kept of versions world h.within (output ∙ h.output_is)

-- ---- a machine whose output is forgotten

pub forgotten : (texts : List (List BareDef)) (limits : Limits) (ms : List SourceMove) (old : CodeMachine) (tables : List TextData) (kept : ℕ)
    → IsRunOf texts limits ms old tables kept → (new : CodeMachine) (kept_now : ℕ) → kept_now ≡ kept + length (output_of old)
    → IsMachineOf texts new → versions_of new ≡ versions_of old → code_world new ≡ code_world old → output_of new ≡ []
    → IsRunOf texts limits ms new tables kept_now
forgotten texts limits ms old tables kept h new kept_now counts of versions world silent =
    let long = ap length h.output_is ∙ length-drop kept h.world.output in
    let within = h.within in
    let all : kept_now ≡ length h.world.output = omega (arith, counts, long, within) in
    still texts limits ms old tables kept h new kept_now of versions world (omega (arith, all))
    (silent ∙ sym (drop_all kept_now h.world.output (omega (arith, all))))
