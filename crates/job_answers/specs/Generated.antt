-- The run of a generated program with its offer, the summary that `gen` prints of it, and what the command came to.
use Rattle.std.specs.Prelude.{◌≡◌, ℕ, ◌+◌, ◌/◌, ◌==◌, List, [], ◌∷◌, ◌++◌, count_by, nat_lt, codes, Some, if◌then◌else◌, false}
use Rattle.std.specs.Fmt.{decimal}
use Rattle.run_types.specs.declared.run.Event.{Event}
use Rattle.c_tree.specs.declared.def.Program.{Program}
use Rattle.program_gen.specs.Generated.{offer_text}
use Rattle.source_model.specs.Endings.{ending as ending_of}
use Rattle.source_model.specs.Guards.{Guard, Setup}
use Rattle.dsu_report.specs.Faults.{fault_line}
use Rattle.dsu_report.specs.Statuses.{status_of_ending}
use Rattle.dsu_report.specs.declared.fault.FaultLine.TheVariants.{Write}
use Rattle.dsu_runs.specs.Setups.{setup_of}
use Rattle.job_answers.specs.Calls.{Call, NoEnd, Shows, ShowsPrefix, Untouched, Writes}
use Rattle.job_answers.specs.Plans.{Plan, BySchedule, Ends}
use Rattle.job_answers.specs.Runs.{HandsBack, Made, report_of}

-- ---- the run

-- by the solo schedule, with at most 1,000,000 moves
abbrev pub generated_plan : Plan
generated_plan = BySchedule 1000000

-- the offer is due once half as many lines were printed as the program has functions, and 4,096 objects may live at once
abbrev pub generated_setup : ℕ → Program → Program → Setup
generated_setup size program next = setup_of program (next ∷ []) (size / 2 ∷ []) 4096

-- ---- the summary

-- a report without the first two bytes of each line, which are its `# `; the text begins at that column of a line
abbrev pub unmarked_from : ℕ → List ℕ → List ℕ
unmarked_from column [] = []
unmarked_from column (c ∷ text) =
    (if nat_lt column 2 then [] else c ∷ []) ++ unmarked_from (if c == 10 then 0 else column + 1) text

abbrev pub unmarked : List ℕ → List ℕ
unmarked report = unmarked_from 0 report

-- how many lines end in some bytes
abbrev pub lines_in : List ℕ → ℕ
lines_in bytes = count_by (λ c. c == 10) bytes

-- the words of the command, the number of lines that the program printed, and the report of the run
abbrev pub summary_text : ℕ → ℕ → ℕ → List ℕ → List ℕ
summary_text seed size lines report =
    codes "gen " ++ decimal seed ++ codes " " ++ decimal size ++ codes "\nlines " ++ decimal lines ++ codes "\n" ++ unmarked report

-- the summary of a run that made these events, with this output; the offer's text is that of the seed
abbrev pub generated_summary : ℕ → ℕ → Setup → List Event → List ℕ → Guard → List ℕ
generated_summary seed size setup history output g =
    summary_text seed size (lines_in output) (report_of false history setup (offer_text seed size ∷ []) g)

-- ---- what the command came to

-- the run ended, and its summary was printed
pub record Summed (seed size : ℕ) (setup : Setup) (call : Call) : Type 0 where
  pub made : Made generated_plan setup call.history
  pub ends : Ends generated_plan setup call.history made.guard
  pub ending : call.ending ≡ Some (ending_of made.guard)
  pub status : call.status ≡ status_of_ending (ending_of made.guard)
  pub versions : HandsBack setup made.guard call.answers call.installed
  pub out : Shows call.out (generated_summary seed size setup call.history made.machine.output made.guard)
  pub err : Untouched call.err

-- a text couldn't be printed whole, and nothing is handed back of a run
pub record Unprinted (text : List ℕ) (call : Call) : Type 0 where
  pub status : call.status ≡ 13
  pub history : call.history ≡ []
  pub no_end : NoEnd call
  pub out : ShowsPrefix call.out text
  pub err : Writes call.err (fault_line Write [])

-- the run ended after these events, and its summary couldn't be printed whole
pub record SummaryFailed (seed size : ℕ) (setup : Setup) (call : Call) : Type 0 where
  pub events : List Event
  pub made : Made generated_plan setup events
  pub ends : Ends generated_plan setup events made.guard
  pub failed : Unprinted (generated_summary seed size setup events made.machine.output made.guard) call
