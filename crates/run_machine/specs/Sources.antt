-- What is said of the source machine: it keeps all that was printed, and needs nothing of a run.
use Rattle.std.specs.Prelude.{◌≡◌, List, length, Some}
use Rattle.std.proofs.Common.{ap, sym, ◌∙◌}
use Rattle.std.proofs.lemmas.Option.{same_Some}
use Rattle.c_tree.specs.BareDef.{BareDef}
use Rattle.source_model.specs.Versions.{current}
use Rattle.source_model.specs.Worlds.{World, Limits}
use Rattle.source_model.specs.Runs.{SourceMove}
use Rattle.version_laws.specs.Histories.{versions_by}
use Rattle.source_runner.specs.SourceRuns.{IsRun, trees_of, words_of, world_after}
use Rattle.source_runner.specs.declared.run.SourceRun.{SourceRun}
use Rattle.run_machine.specs.Machines.{Shown}

-- its current version is the last one that was installed
pub counted : (texts : List (List BareDef)) (limits : Limits) (moves : List SourceMove) (r : SourceRun) (w : World)
    → IsRun texts limits moves r → world_after texts limits moves ≡ Some w → current w.table ≡ length (versions_by texts moves)
counted texts limits moves r w is reached =
    ap (λ (w : World). current w.table) (same_Some w is.world (sym reached ∙ is.ran))
    ∙ is.stands.all.history.count
    ∙ ap length is.versions

abbrev pub source_shown : SourceRun → Shown
source_shown r = record {
  is_run = λ texts limits moves. IsRun texts limits moves r;
  needs = λ texts limits moves. Unit {0};
  trees = trees_of r;
  words = words_of r;
  kept = 0;
  reached = λ texts limits moves is. (is.world, is.ran);
  counted = λ texts limits moves w is reached. counted texts limits moves r w is reached;
}
