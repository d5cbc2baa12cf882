-- What a call that writes the text has written.
use Rattle.std.specs.Prelude.{List, ℕ, Option, Result, Ok, Err}
use Rattle.std.specs.Io.KnownBytes.{Appends}
use Rattle.dsu_io.specs.Sinks.{AppendsFront}
use Rattle.c_tree.specs.BareExpr.{Bytes}
use Rattle.dsu_report.specs.declared.fault.ReportFault.{ReportFault}
use Rattle.dsu_report.specs.declared.fault.ReportFault.TheVariants.{Failed, Memory}

-- the text, or a shorter prefix of it where the sink failed
abbrev pub Writes : (Bytes → Type 0) → Option (List ℕ) → Option (List ℕ) → Result (Unit {0}) ReportFault → Type 0
Writes is_text old new (Ok done) = (text : Bytes) × is_text text × Appends old new text
Writes is_text old new (Err Failed) = (text : Bytes) × is_text text × AppendsFront old new text
Writes is_text old new (Err Memory) = Unit {0}
