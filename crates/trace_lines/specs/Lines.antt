-- The lines of a trace: for each event its line in the journal, the event, and what it did.
use Rattle.std.specs.Prelude.{ℕ, ◌==◌, List, [], ◌++◌, codes, if◌then◌else◌}
use Rattle.std.specs.Fmt.{decimal}
use Rattle.std.specs.List.{flat_map}
use Rattle.run_types.specs.declared.run.Event.{Event}
use Rattle.dsu_journal.specs.Journals.{event_line}
use Rattle.skeletons.specs.declared.point.CheckInKind.{CheckInKind}
use Rattle.skeletons.specs.declared.point.CheckInKind.TheVariants as after
use Rattle.skeletons.specs.declared.point.Use.{Use}
use Rattle.skeletons.specs.declared.point.Use.TheVariants.{ReadGlobal, WriteGlobal, ReadElement, WriteElement, ReadField, WriteField, New, Free, InitMutex, Lock, Unlock, Spawn, Call}
use Rattle.trace_lines.specs.declared.facts.Where.{Where}
use Rattle.trace_lines.specs.declared.facts.Act.{Act}
use Rattle.trace_lines.specs.declared.facts.Act.TheVariants.{Enters, Uses, Prints, Joins, Returns, Repeats, Begins, Ends, Updates}
use Rattle.trace_lines.specs.declared.facts.After.{After}
use Rattle.trace_lines.specs.declared.facts.After.TheVariants.{Nothing, Started, NotStarted, ThreadEnded, RunEnded, Trapped}
use Rattle.trace_lines.specs.declared.facts.Facts.{Facts}
use Rattle.trace_lines.specs.declared.facts.Facts.TheVariants.{Bare, Moved, TrappedAfter, CheckedIn, Opened, Closed}

-- ---- what a thread does

-- with the name that a stop uses; that of a struct is `struct` and its tag
abbrev pub verb : Use → List ℕ
verb ReadGlobal = codes "reads"
verb WriteGlobal = codes "writes"
verb ReadElement = codes "reads an element of"
verb WriteElement = codes "writes an element of"
verb ReadField = codes "reads a field of"
verb WriteField = codes "writes a field of"
verb New = codes "allocates"
verb Free = codes "frees"
verb InitMutex = codes "initialises"
verb Lock = codes "locks"
verb Unlock = codes "unlocks"
verb Spawn = codes "starts"
verb Call = codes "calls"

-- how much it prints
abbrev pub bytes_words : ℕ → List ℕ
bytes_words count = if count == 1 then codes "prints 1 byte" else codes "prints " ++ decimal count ++ codes " bytes"

-- at a stop
abbrev pub act_words : Act → List ℕ
act_words (Enters function) = codes "enters " ++ function.now
act_words (Uses action name) = verb action ++ codes " " ++ name.now
act_words (Prints count) = bytes_words count
act_words Joins = codes "joins a thread"
act_words Returns = codes "returns"
act_words Repeats = codes "repeats its loop"
act_words Begins = codes "begins a transaction"
act_words Ends = codes "ends a transaction"
act_words Updates = codes "reaches an update point"

-- and what came of it
abbrev pub after_words : After → List ℕ
after_words Nothing = []
after_words (Started slot) = codes " as thread " ++ decimal slot
after_words NotStarted = codes ", but no slot is free"
after_words ThreadEnded = codes " and ends its thread"
after_words RunEnded = codes " and ends the run"
after_words (Trapped word) = codes " and traps: " ++ word.now

-- at a check-in
abbrev pub check_in_words : CheckInKind → List ℕ
check_in_words after.Entry = codes "checks in at the entry"
check_in_words after.Call = codes "checks in after the call"
check_in_words after.Begin = codes "checks in after the begin"
check_in_words after.End = codes "checks in after the end"
check_in_words after.Update = codes "checks in at the update point"

-- ---- the line of an event

-- where a thread is, at a place or after one: its function, the line and the column; and under which version the function was entered
abbrev pub thread_words : ℕ → List ℕ → List ℕ
thread_words thread function = codes ": thread " ++ decimal thread ++ codes " " ++ function ++ codes " "

abbrev pub point_words : List ℕ → ℕ → ℕ → List ℕ
point_words stand line column = stand ++ codes " " ++ decimal line ++ codes ":" ++ decimal column ++ codes ": "

abbrev pub place_words : Where → List ℕ → List ℕ
place_words w stand = thread_words w.thread w.function.now ++ point_words stand w.line w.column

abbrev pub version_words : ℕ → List ℕ
version_words version = codes " (version " ++ decimal version ++ codes ")"

-- a move, a check-in, and a trap after the last stop of a thread
abbrev pub doing_words : Act → After → List ℕ
doing_words act came = act_words act ++ after_words came

abbrev pub moved_words : Where → Act → After → List ℕ
moved_words w act came = place_words w (codes "at") ++ doing_words act came ++ version_words w.version

abbrev pub check_in_line : Where → CheckInKind → List ℕ
check_in_line w kind = place_words w (codes "at") ++ check_in_words kind ++ version_words w.version

abbrev pub trap_words : Where → List ℕ → List ℕ
trap_words w word = place_words w (codes "after") ++ (codes "traps: " ++ word) ++ version_words w.version

-- an offer that was opened
abbrev pub opened_words : ℕ → List ℕ
opened_words offer = codes ": offer " ++ decimal offer ++ codes " is opened"

-- the answer to an offer, with the threads that it pinned
abbrev pub pin_words : ℕ → List ℕ
pin_words slot = codes ", pins thread " ++ decimal slot

abbrev pub answer_words : ℕ → List ℕ → List ℕ → List ℕ
answer_words offer answer pinned = codes ": offer " ++ decimal offer ++ codes " " ++ answer ++ flat_map pin_words pinned

-- what is known of an event
abbrev pub facts_words : Facts → List ℕ
facts_words Bare = []
facts_words (Moved w act came) = moved_words w act came
facts_words (TrappedAfter w word) = trap_words w word.now
facts_words (CheckedIn w kind) = check_in_line w kind
facts_words (Opened offer) = opened_words offer
facts_words (Closed offer answer pinned) = answer_words offer answer.now pinned.now

-- the number of a line and its event
abbrev pub head : ℕ → Event → List ℕ
head line e = decimal line ++ codes " " ++ event_line e

-- the line of an event
abbrev pub line_text : ℕ → Event → Facts → List ℕ
line_text line e facts = head line e ++ facts_words facts ++ codes "\n"
