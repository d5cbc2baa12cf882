-- A place as a reader counts it: lines and columns from 1. A line ends after its newline, and a column counts bytes.
use Rattle.std.specs.Prelude.{ℕ, zero, suc, ◌+◌, ◌==◌, List, slice_index, if◌then◌else◌}

-- the line of a place
abbrev pub line_at : List ℕ → ℕ → ℕ
line_at text zero = 1
line_at text (suc at) = if slice_index text at == 10 then line_at text at + 1 else line_at text at

-- its column
abbrev pub column_at : List ℕ → ℕ → ℕ
column_at text zero = 1
column_at text (suc at) = if slice_index text at == 10 then 1 else column_at text at + 1
