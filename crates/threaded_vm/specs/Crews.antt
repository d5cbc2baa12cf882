-- The passes of a lock that workers hold.
use Rattle.std.specs.Prelude.{◌≡◌, ℕ, ◌<◌, List, All, length, slice_index_or}
use Rattle.atomic_table.specs.Seated.{TableId}
use Rattle.pass_lock.specs.Passes.{IsFreeAt, Known}
use Rattle.threaded_vm.specs.declared.notes.Note.{Note}

-- the passes are of this table's lock, and have no turn
abbrev pub AreFree : TableId → List (Known Note) → Type 0
AreFree table passes = All (IsFreeAt table) passes

-- the same, and the k-th has the number k
abbrev pub AreFresh : TableId → List (Known Note) → Type 0
AreFresh table passes =
    (k : ℕ) (d : Known Note) → k < length passes
    → IsFreeAt table (slice_index_or passes k d) × ((slice_index_or passes k d).number ≡ k)
