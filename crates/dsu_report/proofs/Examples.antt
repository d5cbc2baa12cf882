-- The definitions on examples, by computing.
use Rattle.std.proofs.Common.{◌≡◌, refl}
use Rattle.std.specs.Prelude.{codes}
use Rattle.dsu_report.specs.declared.fault.FaultLine.TheVariants.{TooLong, Memory}
use Rattle.dsu_report.specs.Faults.{fault_line}
use Rattle.dsu_report.specs.Places.{line_at, column_at}

of_a_file : fault_line TooLong (codes "d/y.c") ≡ codes "d/y.c: too long\n"
of_a_file = refl

of_none : fault_line Memory (codes "d/y.c") ≡ codes "want of memory\n"
of_none = refl

-- the newline belongs to the line that it ends
at_newline : line_at (codes "ab\nc") 2 ≡ 1
at_newline = refl

column_of_newline : column_at (codes "ab\nc") 2 ≡ 3
column_of_newline = refl

behind_newline : line_at (codes "ab\nc") 3 ≡ 2
behind_newline = refl

at_end : column_at (codes "ab\nc") 4 ≡ 2
at_end = refl
