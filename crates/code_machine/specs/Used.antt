-- How many of its numbers a run has used: each move creates at most one object, starts at most one thread, and begins at most one
-- transaction.
use Rattle.std.specs.Prelude.{◌≡◌, ℕ, suc, ◌≤◌, slice_get, Some}
use Rattle.code_machine.specs.declared.running.Running.{Running}
use Rattle.code_machine.specs.declared.state.RunState.{RunState}

-- no more than so many moves use
pub record HasUsed (moves : ℕ) (run : RunState) : Type 0 where
  pub creations : run.shared.objects.created ≤ moves
  pub threads : run.threads ≤ suc moves
  pub depths : (t : ℕ) (r : Running) → slice_get run.slots.items t ≡ Some r → r.depth ≤ moves
