-- Reports with notes. Nothing but lines of notes is added, each after a mark, so a reader who passes over them has the report.
use Rattle.std.specs.Prelude.{◌≡◌, ◌==◌, ℕ, false, List, ◌++◌, codes}
use Rattle.std.specs.List.{list_any}
use Rattle.fault_notes.specs.Notes.{AreNotes}

-- what a line of notes begins with after the line of a fault
abbrev pub fault_mark : List ℕ
fault_mark = codes "  "

-- what it begins with in the report of a run
abbrev pub run_mark : List ℕ
run_mark = codes "#   "

-- a report, and notes after its last line
pub record AddsNotes (report text : List ℕ) : Type 0 where
  pub notes : List ℕ
  pub are : AreNotes fault_mark notes
  pub text_is : text ≡ report ++ notes

-- a line: its only newline is its last byte
pub record IsLine (line : List ℕ) : Type 0 where
  pub bytes : List ℕ
  pub ends : line ≡ bytes ++ codes "\n"
  pub only : list_any (λ b. b == 10) bytes ≡ false

-- a report, and the text that has notes after some of its lines
pub data WithNotes (mark : List ℕ) : List ℕ → List ℕ → Type 0 where
  rest : (report : List ℕ) → WithNotes mark report report
  line : (l notes report text : List ℕ) → IsLine l → AreNotes mark notes → WithNotes mark report text
      → WithNotes mark (l ++ report) (l ++ (notes ++ text))

-- what is kept of a report: its bytes, and how often there was no memory for more, up to the greatest number that a count can hold
pub record Kept : Type 0 where
  pub bytes : List ℕ
  pub faults : ℕ

-- a line was added, and notes after it
pub record AddsLine (mark l before after : List ℕ) : Type 0 where
  pub notes : List ℕ
  pub are : AreNotes mark notes
  pub text_is : after ≡ before ++ (l ++ notes)
