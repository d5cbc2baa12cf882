-- What a call that writes the text of the effects has written.
use Rattle.std.specs.Prelude.{List, ℕ, Option, Result, Ok, Err}
use Rattle.std.specs.Io.KnownBytes.{Appends}
use Rattle.dsu_io.specs.Sinks.{AppendsFront}
use Rattle.c_tree.specs.BareExpr.{Bytes}
use Rattle.c_tree.specs.declared.def.Program.{Program}
use Rattle.dsu_report.specs.declared.fault.ReportFault.{ReportFault}
use Rattle.dsu_report.specs.declared.fault.ReportFault.TheVariants.{Failed, Memory}
use Rattle.effects_report.specs.EffectsText.{IsEffectsText}

-- a text of the effects, or a shorter prefix of one where the sink failed
abbrev pub Writes : Program → Bytes → Option (List ℕ) → Option (List ℕ) → Result (Unit {0}) ReportFault → Type 0
Writes p text old new (Ok done) = (printed : Bytes) × IsEffectsText p text printed × Appends old new printed
Writes p text old new (Err Failed) = (printed : Bytes) × IsEffectsText p text printed × AppendsFront old new printed
Writes p text old new (Err Memory) = Unit {0}
