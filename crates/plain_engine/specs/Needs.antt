-- The guards that a run comes to, and what a machine needs of the runs to them.
use Rattle.std.specs.Prelude.{◌≡◌, List, map, Some}
use Rattle.run_types.specs.declared.run.Event.{Event}
use Rattle.c_tree.specs.BareDef.{BareDef}
use Rattle.c_semantics.specs.SourceTexts.{Text}
use Rattle.source_model.specs.Worlds.{Limits}
use Rattle.source_model.specs.Runs.{SourceMove}
use Rattle.source_model.specs.Guards.{Guard, Rules, Setup}
use Rattle.source_model.specs.Journals.{guard_after}
use Rattle.source_model.specs.JournalLaws.{texts_of}
use Rattle.effects.specs.Rows.{AreRows}
use Rattle.version_laws.specs.Histories.{versions_by}
use Rattle.source_runner.specs.SourceRuns.{world_after}

-- a legal journal comes to a guard
pub record IsReached (setup : Setup) (g : Guard) : Type 0 where
  pub events : List Event
  pub legal : (rules : Rules) → AreRows rules.row → guard_after rules setup events ≡ Some g

-- at each guard that a legal journal of a setup comes to, what is needed holds of each run to its world and its versions
abbrev pub MeetsNeeds : (List (List BareDef) → Limits → List SourceMove → Type 0) → Setup → Type 0
MeetsNeeds needs setup =
    (rules : Rules) (events : List Event) (g : Guard) (moves : List SourceMove) → AreRows rules.row
    → guard_after rules setup events ≡ Some g
    → world_after (texts_of setup) setup.limits moves ≡ Some g.world
    → versions_by (texts_of setup) moves ≡ map (λ (t : Text). t.definitions) g.versions
    → needs (texts_of setup) setup.limits moves
