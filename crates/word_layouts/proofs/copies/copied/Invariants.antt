use Rattle.std.proofs.Common.{◌≡◌, List, length, take}
use Rattle.c_semantics.specs.Values.{Value}
use Rattle.versioned_structs.specs.Transforms.{new_values}
use Rattle.word_layouts.proofs.copies.copied.Given as goal

abbrev pub invariant-loop-change : goal.invariant-loop-change
invariant-loop-change l =
    (length l.copies.items ≡ l.change-index)
    × ((old : List Value) → new_values l.copies.items old ≡ new_values (take l.change-index l.changes) old)
