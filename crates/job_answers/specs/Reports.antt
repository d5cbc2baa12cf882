-- What is printed: the number of a text's names, and the report of a run.
use Rattle.std.specs.Prelude.{◌≡◌, ℕ, Bool, List, [], ◌++◌, length, codes, Some, if◌then◌else◌}
use Rattle.std.specs.Fmt.{decimal}
use Rattle.std.specs.List.{flat_map, range_with_len}
use Rattle.std.specs.Option.{option_map_or}
use Rattle.run_types.specs.declared.run.Event.{Event}
use Rattle.run_types.specs.declared.run.Ending.{Ending}
use Rattle.run_types.specs.declared.run.Ending.TheVariants.{Finished, Trap, Deadlock, Cut}
use Rattle.c_semantics.specs.Threads.{Thread}
use Rattle.source_model.specs.Answers.{Answer}
use Rattle.source_model.specs.Worlds.{World, Live, in_slot}
use Rattle.source_model.specs.Waits.{Waiting, ForMutex, ForThread, waits_for}
use Rattle.source_model.specs.Guards.{Guard}
use Rattle.source_model.specs.Endings.{ending as ending_of}
use Rattle.dsu_journal.specs.Journals.{journal_text}
use Rattle.dsu_report.specs.Answers.{answers_text}
use Rattle.dsu_report.specs.Endings.{report_text}
use Rattle.dsu_report.specs.Waits.{mutex_wait_line, thread_wait_line}
use Rattle.dsu_runs.specs.Engines.{waits_in}

-- the line of a text's number of names
abbrev pub names_line : ℕ → List ℕ
names_line names = codes "ok " ++ decimal names ++ codes " names\n"

-- the line of a thread that waits
abbrev pub wait_line : ℕ → Waiting → List ℕ
wait_line thread (ForMutex mutex holder) = mutex_wait_line thread mutex holder
wait_line thread (ForThread joined) = thread_wait_line thread joined

-- the line of a slot, if its thread waits
abbrev pub wait_in : World → ℕ → List ℕ
wait_in w slot = option_map_or (wait_line slot) (waits_in w slot) []

-- the lines of all threads that wait, by slot
abbrev pub waits_text : World → List ℕ
waits_text w = flat_map (wait_in w) (range_with_len 0 (length w.slots))

-- the thread in a slot waits, and one of those lines says for what
pub record IsNamed (w : World) (t : ℕ) : Type 0 where
  pub what : Waiting
  pub waits : waits_for w t ≡ Some what
  pub above : List ℕ
  pub below : List ℕ
  pub named : waits_text w ≡ above ++ (wait_line t what ++ below)

-- in a deadlock so it is with each thread that lives
abbrev pub DeadlockNamesEach : Guard → Type 0
DeadlockNamesEach g = ending_of g ≡ Deadlock → (t : ℕ) (th : Thread) → in_slot g.world t ≡ Live th → IsNamed g.world t

-- the report of an ending; that of a deadlock says what each thread waits for
abbrev pub ending_text : Ending → World → List ℕ
ending_text (Finished value) w = report_text (Finished value)
ending_text (Trap kind thread) w = report_text (Trap kind thread)
ending_text Deadlock w = report_text Deadlock ++ waits_text w
ending_text Cut w = report_text Cut

-- the report of a run: its journal, where it was asked for, what was answered to the offers of some texts, and its ending
abbrev pub run_text : Bool → List Event → List Answer → List (List ℕ) → Ending → World → List ℕ
run_text journal history answers texts ending w =
    (if journal then journal_text history else []) ++ (answers_text answers texts ++ ending_text ending w)
