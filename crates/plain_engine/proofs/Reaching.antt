-- The guards that a run comes to, event by event, and what its machine needs there.
use Rattle.std.proofs.Common.{◌≡◌, List, [], ◌∷◌, ◌++◌, map, Some, refl}
use Rattle.run_types.specs.declared.run.Event.{Event}
use Rattle.c_semantics.specs.SourceTexts.{Text}
use Rattle.source_model.specs.Runs.{SourceMove}
use Rattle.source_model.specs.Guards.{Guard, Rules, Setup, first_guard}
use Rattle.source_model.specs.Journals.{happens}
use Rattle.source_model.specs.JournalLaws.{texts_of}
use Rattle.effects.specs.Rows.{AreRows}
use Rattle.version_laws.specs.Histories.{versions_by}
use Rattle.run_machine.specs.Machines.{NeedsNoMore, Shown}
use Rattle.source_runner.specs.SourceRuns.{world_after}
use Rattle.dsu_runs.proofs.Coming.{legal_more}
use Rattle.dsu_runs.proofs.Happening.{any_are_rows, any_rules}
use Rattle.plain_engine.specs.Needs.{IsReached, MeetsNeeds}

-- no event comes to the first guard
pub first_reached : (setup : Setup) → IsReached setup (first_guard setup)
first_reached setup = record { events = []; legal = λ rules rows. refl }

-- an event that happens comes to the guard after it
pub then_reached : (setup : Setup) (e : Event) (g after : Guard) → IsReached setup g
    → ((rules : Rules) → AreRows rules.row → happens rules setup e g ≡ Some after) → IsReached setup after
then_reached setup e g after reached made = record {
  events = reached.events ++ e ∷ [];
  legal = λ rules rows. legal_more rules setup reached.events e g after (reached.legal rules rows) (made rules rows);
}

-- what a machine needs holds at a guard that is reached
pub needed_there : (setup : Setup) (g : Guard) (r : Shown) (moves : List SourceMove) → MeetsNeeds r.needs setup → IsReached setup g
    → world_after (texts_of setup) setup.limits moves ≡ Some g.world
    → versions_by (texts_of setup) moves ≡ map (λ (t : Text). t.definitions) g.versions → r.needs (texts_of setup) setup.limits moves
needed_there setup g r moves meets reached =
    meets any_rules reached.events g moves any_are_rows (reached.legal any_rules any_are_rows)

-- a machine that needs no more
pub still_meets : (setup : Setup) (old new : Shown) → NeedsNoMore old new → MeetsNeeds old.needs setup → MeetsNeeds new.needs setup
still_meets setup old new less meets = λ rules events g moves rows legal world versions.
    less (texts_of setup) setup.limits moves (meets rules events g moves rows legal world versions)
