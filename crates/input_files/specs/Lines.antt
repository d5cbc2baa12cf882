-- The line of a fault at a byte of a text.
use Rattle.std.specs.Prelude.{ℕ, List}
use Rattle.c_front.specs.declared.fault.FaultKind.{FaultKind}
use Rattle.dsu_report.specs.declared.fault.FaultLine.{FaultLine}
use Rattle.dsu_report.specs.declared.fault.FaultLine.TheVariants.{Place}
use Rattle.dsu_report.specs.Places.{line_at, column_at}

-- the line of a fault at a byte of a text, or at its end
abbrev pub line_of : List ℕ → FaultKind → ℕ → FaultLine
line_of text what at = Place (line_at text at) (column_at text at) what
