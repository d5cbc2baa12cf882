use Rattle.std.proofs.Common.{◌≡◌, ℕ, ◌-◌, ◌≤◌, [], ◌∷◌, length, map, replicate, Some}
use Rattle.std.specs.Prelude.{slice_get}
use Rattle.code_runs.specs.CodeThreads.{Free, Live, starting}
use Rattle.code_machine.specs.declared.running.Running.{Running}
use Rattle.code_machine.specs.Kept.{FitsImage}
use Rattle.code_machine.specs.Seen.{name_at, slot_of}
use Rattle.code_machine.specs.Stops.{IsFresh}
use Rattle.code_machine.proofs.calls.slots_of.Given as goal

abbrev pub invariant-loop : goal.invariant-loop
invariant-loop l = record {
  some : 1 ≤ l.counter;
  few : l.counter - 1 ≤ l.fn.count - 1;
  long : length l.slots.items ≡ l.counter;
  fit : (n : ℕ) (r : Running) → slice_get l.slots.items n ≡ Some r → FitsImage l.image r;
  fresh : (n : ℕ) (r : Running) → slice_get l.slots.items n ≡ Some r → IsFresh r l.image.main;
  seen : map (slot_of l.image) l.slots.items
      ≡ Live (starting 0 (record { function = name_at l.image l.image.main; arguments = []; version = 1 })) ∷ replicate (l.counter - 1) Free;
}
