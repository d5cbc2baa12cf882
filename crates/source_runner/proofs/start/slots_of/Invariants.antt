use Rattle.std.proofs.Common.{◌≡◌, ◌-◌, ◌∷◌, ◌≤◌, replicate}
use Rattle.source_runner.specs.declared.thread.Slot.TheVariants.{Free}
use Rattle.source_runner.proofs.start.slots_of.Given as goal

abbrev pub invariant-loop : goal.invariant-loop
invariant-loop l =
    (1 ≤ l.counter) × (l.counter - 1 ≤ l.fn.count - 1) × (l.slots.items ≡ l.fn.first ∷ replicate (l.counter - 1) Free)
