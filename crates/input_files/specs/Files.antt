-- What is answered for a file that isn't read.
use Rattle.std.specs.Prelude.{◌≡◌, ◌⊎◌, ◌<◌, ℕ, ⊤, List, length, Option, Some, None}
use Rattle.dsu_report.specs.declared.fault.FaultLine.{FaultLine}
use Rattle.dsu_report.specs.declared.fault.FaultLine.TheVariants.{Unread, TooLong, Memory}

-- the file is longer than a limit, as far as its content is known
abbrev pub Exceeds : ℕ → Option (List ℕ) → Type 0
Exceeds limit None = ⊤
Exceeds limit (Some content) = limit < length content

-- the file or memory failed
abbrev pub IsShort : FaultLine → Type 0
IsShort line = (line ≡ Unread) ⊎ (line ≡ Memory)

-- a fault of a file
abbrev pub IsOfFile : FaultLine → Type 0
IsOfFile line = IsShort line ⊎ (line ≡ TooLong)
