-- How long a C text may be, when a file holds a program, and what is answered for a file whose text isn't read.
use Rattle.std.specs.Prelude.{◌≡◌, ◌⊎◌, ◌≤◌, ◌*◌, ℕ, List, length, Option}
use Rattle.dsu_io.specs.Files.{IsContent}
use Rattle.c_tree.specs.declared.def.Program.{Program}
use Rattle.c_front.specs.declared.fault.FaultKind.{FaultKind}
use Rattle.c_front.specs.Accepted.{Accepted, FirstFault}
use Rattle.dsu_report.specs.declared.fault.FaultLine.{FaultLine}
use Rattle.input_files.specs.Files.{IsOfFile}
use Rattle.input_files.specs.Lines.{line_of}

-- a C text has at most so many bytes
abbrev pub text_limit : ℕ
text_limit = 1024 * 1024

-- the file, as far as its content is known, is this text, and it is accepted as this program
pub record IsSource (content : Option (List ℕ)) (text : List ℕ) (program : Program) : Type 0 where
  pub read : IsContent content text
  pub fits : length text ≤ text_limit
  pub accepted : Accepted text program

-- the file, as far as its content is known, is a text that is accepted as this program
abbrev pub HoldsProgram : Option (List ℕ) → Program → Type 0
HoldsProgram content program = (text : List ℕ) × IsSource content text program

-- the line of a text's first fault
abbrev pub IsFirstLine : List ℕ → FaultLine → Type 0
IsFirstLine text line = (what : FaultKind) × (at : ℕ) × FirstFault text what at × (line ≡ line_of text what at)

-- the line of the first fault of the file's text
pub record IsFirstOf (content : Option (List ℕ)) (line : FaultLine) : Type 0 where
  pub text : List ℕ
  pub read : IsContent content text
  pub fits : length text ≤ text_limit
  pub first : IsFirstLine text line

-- a fault of a file or of its text
abbrev pub IsOfSource : Option (List ℕ) → FaultLine → Type 0
IsOfSource content line = IsOfFile line ⊎ IsFirstOf content line
