-- Where the lines of a text begin.
use Rattle.std.specs.Prelude.{◌≡◌, ℕ, zero, suc, ◌+◌, ◌-◌, ◌<◌, ◌≤◌, ◌==◌, List, [], ◌∷◌, ◌++◌, length, slice_index, if◌then◌else◌}
use Rattle.dsu_report.specs.Places.{line_at, column_at}

-- the place after a byte, if a line begins there
abbrev pub start_if : ℕ → ℕ → List ℕ
start_if byte next = if byte == 10 then next ∷ [] else []

-- where the lines begin that begin at or before a place
abbrev pub starts_to : List ℕ → ℕ → List ℕ
starts_to text zero = 0 ∷ []
starts_to text (suc at) = starts_to text at ++ start_if (slice_index text at) (suc at)

-- where all lines begin
abbrev pub line_starts : List ℕ → List ℕ
line_starts text = starts_to text (length text)

-- the number of the line of a place, and by where that line begins the column
pub record IsLineAt (text : List ℕ) (at line : ℕ) : Type 0 where
  pub number : line ≡ line_at text at
  pub some : 0 < line
  pub within : line ≤ length (line_starts text)
  pub before : slice_index (line_starts text) (line - 1) ≤ at
  pub column : column_at text at + slice_index (line_starts text) (line - 1) ≡ at + 1
