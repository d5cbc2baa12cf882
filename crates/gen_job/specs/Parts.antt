-- What the private functions say that make a generated program and print the summary of its run.
use Rattle.std.specs.Prelude.{◌≡◌, ◌⊎◌, ℕ, List, [], ◌∷◌, Some}
use Rattle.c_tree.specs.declared.def.Program.{Program}
use Rattle.dsu_report.specs.declared.fault.FaultLine.{FaultLine}
use Rattle.dsu_report.specs.declared.fault.FaultLine.TheVariants.{Memory}
use Rattle.job_answers.specs.Jobs.{IsKnownProgram}
use Rattle.reported_runs.specs.declared.offers.Offers.{Offers}
use Rattle.run_types.specs.declared.run.Event.{Event}
use Rattle.run_types.specs.declared.run.Ending.{Ending}
use Rattle.source_model.specs.Guards.{Guard, Setup}
use Rattle.dsu_report.specs.Statuses.{status_of_ending}
use Rattle.job_answers.specs.Calls.{Call, Shows, Untouched}
use Rattle.reported_runs.specs.Schedules.{Hands}

-- a known text was read with its number of lines, and no other
pub record IsOnlyOffer (text : List ℕ) (lines : ℕ) (offers : Offers) : Type 0 where
  pub next : Program
  pub known : IsKnownProgram (Some text) next
  pub texts : offers.texts.items ≡ text ∷ []
  pub programs : offers.programs.items ≡ next ∷ []
  pub counts : offers.lines.items ≡ lines ∷ []

-- of a text in memory the known fault was answered, or memory ran out
abbrev pub IsTold : FaultLine → FaultLine → Type 0
IsTold known line = (line ≡ known) ⊎ (line ≡ Memory)

-- the same with the name of the text
abbrev pub IsToldAt : FaultLine → List ℕ → FaultLine → List ℕ → Type 0
IsToldAt known at line file = ((line ≡ known) × (file ≡ at)) ⊎ (line ≡ Memory)

-- the summary of a run that ended so was printed; the versions are those of each guard at which an engine may be
pub record Printed (setup : Setup) (at : Guard → Type 0) (history : List Event) (end : Ending) (summary : List ℕ) (call : Call) : Type 0 where
  pub status : call.status ≡ status_of_ending end
  pub ending : call.ending ≡ Some end
  pub history_is : call.history ≡ history
  pub versions : Hands setup at (Some end) call.answers call.installed
  pub out : Shows call.out summary
  pub err : Untouched call.err
