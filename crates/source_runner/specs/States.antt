-- How a run stands, as the definitions have it.
use Rattle.std.specs.Prelude.{Option, Some, None}
use Rattle.c_ints.specs.Number.{reduced}
use Rattle.c_ints.specs.declared.kind.Kind.TheVariants.{I32}
use Rattle.run_types.specs.declared.run.Ending.{Ending}
use Rattle.run_types.specs.declared.run.Ending.TheVariants as ends
use Rattle.source_model.specs.Worlds.{Finish}
use Rattle.source_model.specs.Worlds as world
use Rattle.source_model.specs.Runs.{State}
use Rattle.source_model.specs.Runs as run
use Rattle.source_runner.specs.declared.can_move.SourceState.{SourceState}
use Rattle.source_runner.specs.declared.can_move.SourceState.TheVariants.{Finished, Trap, Stuck, Going}

abbrev pub state_of : SourceState → State
state_of (Finished n) = run.Finished n
state_of (Trap kind slot) = run.Trapped kind slot
state_of Stuck = run.Stuck
state_of Going = run.Going

-- what main returned as an int
abbrev pub as_int : State → State
as_int (run.Finished r) = run.Finished (reduced I32 r)
as_int (run.Trapped kind slot) = run.Trapped kind slot
as_int run.Stuck = run.Stuck
as_int run.Going = run.Going

-- how a run has ended, if it has
abbrev pub ending_of : Option Finish → Option Ending
ending_of None = None
ending_of (Some (world.Finished r)) = Some (ends.Finished (reduced I32 r))
ending_of (Some (world.Trapped kind slot)) = Some (ends.Trap kind slot)
