-- The statuses with which a program ends.
use Rattle.std.specs.Prelude.{ℕ}
use Rattle.run_types.specs.declared.run.Ending.{Ending}
use Rattle.run_types.specs.declared.run.Ending.TheVariants.{Finished, Trap, Deadlock, Cut}
use Rattle.dsu_report.specs.declared.fault.FaultLine.{FaultLine}
use Rattle.dsu_report.specs.declared.fault.FaultLine.TheVariants.{Usage, Place, Unread, TooLong, Line, Write, Memory}

-- the status of a fault
abbrev pub status_of_line : FaultLine → ℕ
status_of_line Usage = 10
status_of_line (Place line column word) = 11
status_of_line Unread = 12
status_of_line Write = 13
status_of_line (Line line word) = 14
status_of_line TooLong = 15
status_of_line Memory = 20

-- the status of a run that ended so
abbrev pub status_of_ending : Ending → ℕ
status_of_ending (Finished value) = 0
status_of_ending (Trap kind thread) = 1
status_of_ending Deadlock = 2
status_of_ending Cut = 3
