-- The trap of a thread whose operator traps.
use Rattle.c_ints.specs.declared.operator.ArithTrap.{ArithTrap}
use Rattle.c_ints.specs.declared.operator.ArithTrap.TheVariants.{Overflow, Divide, Shift}
use Rattle.run_types.specs.declared.trap.TrapKind.{TrapKind}
use Rattle.run_types.specs.declared.trap.TrapKind.TheVariants.{Overflow as OverflowTrap, Divide as DivideTrap, Shift as ShiftTrap}

abbrev pub trap_of : ArithTrap → TrapKind
trap_of Overflow = OverflowTrap
trap_of Divide = DivideTrap
trap_of Shift = ShiftTrap
