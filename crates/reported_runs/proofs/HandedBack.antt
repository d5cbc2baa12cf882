-- What is handed back of a run, and the status with which it ends.
use Rattle.std.proofs.Common.{◌≡◌, ℕ, ◌≤◌, List, Option, Some, None, ◌∙◌, ap, arith}
use Rattle.std.specs.Prelude.{length, map}
use Rattle.run_types.specs.declared.run.Ending.{Ending}
use Rattle.run_types.specs.declared.run.Ending.TheVariants.{Finished, Trap, Deadlock, Cut}
use Rattle.source_model.specs.declared.answer.OfferAnswer.{OfferAnswer}
use Rattle.source_model.specs.Answers.{answer_seen}
use Rattle.source_model.specs.Guards.{Guard, Setup}
use Rattle.source_model.specs.Journals.{answers}
use Rattle.source_model.specs.Patches.{all_names}
use Rattle.patch_build.specs.Versions.{IsTableOf}
use Rattle.dsu_report.specs.Statuses.{status_of_ending}
use Rattle.job_answers.specs.declared.outcome.InForce.{InForce}
use Rattle.reported_runs.specs.Schedules.{Hands, IsKept}

-- the version in force and the answers are those of the guard
in_force_is : (f : InForce) (version : ℕ) → f.version ≡ version → f ≡ record { version = version; names = f.names }
in_force_is f version is = ap (λ (v : ℕ). record { version = v; names = f.names }) is

pub hands_back : (setup : Setup) (at : Guard → Type 0) (ending : Option Ending) (left given : List OfferAnswer) (f : InForce)
    (installed : Option InForce) → IsKept ending left f given installed
    → ((g : Guard) → at g → f.version ≡ length g.versions)
    → ((g : Guard) → at g → IsTableOf (all_names g.versions) f.names)
    → ((g : Guard) → at g → map (answer_seen f.names) left ≡ answers setup g)
    → Hands setup at ending given installed
hands_back setup at None left given f installed kept version named shown = kept
hands_back setup at (Some end) left given f installed (same, is) version named shown = λ g there. record {
  names = f.names;
  named = named g there;
  in_force = is ∙ ap Some (in_force_is f (length g.versions) (version g there));
  answered = ap (map (answer_seen f.names)) same ∙ shown g there;
}

-- a run that ended has a status of at most 3
ending_done : (e : Ending) → status_of_ending e ≤ 3
ending_done (Finished value) = omega arith
ending_done (Trap kind thread) = omega arith
ending_done Deadlock = omega arith
ending_done Cut = omega arith

pub done_by : (status : ℕ) (e : Ending) → status ≡ status_of_ending e → status ≤ 3
done_by status e is = let small = ending_done e in omega (arith, is, small)
