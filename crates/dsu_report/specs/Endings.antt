-- What standard error has for the ending of a run.
use Rattle.std.specs.Prelude.{ℕ, List, ◌++◌, codes}
use Rattle.std.specs.Fmt.{decimal, signed_decimal}
use Rattle.run_types.specs.declared.trap.TrapKind.{TrapKind}
use Rattle.run_types.specs.declared.trap.TrapKind.TheVariants.{Overflow, Divide, Shift, Null, Stale, Index, Depth, Relock, Unlock, MutexHeld, Join}
use Rattle.run_types.specs.declared.run.Ending.{Ending}
use Rattle.run_types.specs.declared.run.Ending.TheVariants.{Finished, Trap, Deadlock, Cut}

-- a trap's word
abbrev pub trap_word : TrapKind → List ℕ
trap_word Overflow = codes "overflow"
trap_word Divide = codes "divide"
trap_word Shift = codes "shift"
trap_word Null = codes "null"
trap_word Stale = codes "stale"
trap_word Index = codes "index"
trap_word Depth = codes "depth"
trap_word Relock = codes "relock"
trap_word Unlock = codes "unlock"
trap_word MutexHeld = codes "mutex held"
trap_word Join = codes "join"

-- the report of a run that ended so
abbrev pub report_text : Ending → List ℕ
report_text (Finished value) = codes "# finished " ++ signed_decimal value ++ codes "\n"
report_text (Trap kind thread) = codes "# trap " ++ trap_word kind ++ codes " thread " ++ decimal thread ++ codes "\n"
report_text Deadlock = codes "# deadlock\n"
report_text Cut = codes "# cut\n"
