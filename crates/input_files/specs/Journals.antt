-- How long a journal may be, when a file holds one, and what is answered for a file whose events aren't read.
use Rattle.std.specs.Prelude.{◌≡◌, ◌⊎◌, ◌≤◌, ◌*◌, ℕ, List, length, Option, Ok, Err}
use Rattle.dsu_io.specs.Files.{IsContent}
use Rattle.run_types.specs.declared.run.Event.{Event}
use Rattle.dsu_journal.specs.Journals.{journal_in}
use Rattle.dsu_journal.specs.declared.fault.JournalFault.{JournalFault}
use Rattle.dsu_journal.specs.declared.fault.JournalFault.TheVariants as journal
use Rattle.dsu_report.specs.declared.fault.LineWord.TheVariants as word
use Rattle.dsu_report.specs.declared.fault.FaultLine.{FaultLine}
use Rattle.dsu_report.specs.declared.fault.FaultLine.TheVariants.{Line, Memory}
use Rattle.input_files.specs.Files.{IsOfFile}

-- a journal has at most so many bytes
abbrev pub journal_limit : ℕ
journal_limit = 16 * 1024 * 1024

-- the file, as far as its content is known, is a journal with these events, each with its line's number
pub record HoldsEvents (content : Option (List ℕ)) (events : List (ℕ × Event)) : Type 0 where
  pub text : List ℕ
  pub read : IsContent content text
  pub fits : length text ≤ journal_limit
  pub are : journal_in text ≡ Ok events

-- the line of why a text is no journal
abbrev pub line_of_journal : JournalFault → FaultLine
line_of_journal journal.Header = Line 1 word.Header
line_of_journal (journal.NoEvent n) = Line n word.NoEvent
line_of_journal journal.Memory = Memory

-- the file's text is no journal, for this fault
pub record IsNoJournal (content : Option (List ℕ)) (line : FaultLine) : Type 0 where
  pub text : List ℕ
  pub read : IsContent content text
  pub fits : length text ≤ journal_limit
  pub fault : JournalFault
  pub first : journal_in text ≡ Err fault
  pub line_is : line ≡ line_of_journal fault

-- a fault of a file or of its events
abbrev pub IsOfJournal : Option (List ℕ) → FaultLine → Type 0
IsOfJournal content line = IsOfFile line ⊎ IsNoJournal content line
