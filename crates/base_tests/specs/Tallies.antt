-- The history of a tally.
use Rattle.std.specs.Prelude.{◌≡◌, ℕ, ◌<◌, List, map, length, slice_index_or}
use Rattle.pass_lock.specs.declared.notes.Entry.{Entry}
use Rattle.atomic_table.specs.Seated.{TableId}
use Rattle.pass_lock.specs.Histories.{entry}
use Rattle.pass_lock.specs.Passes.{Known, IsFreeAt}

-- one entry for each turn, which names its pass
abbrev pub tallied : List ℕ → List (Entry (Unit {0}))
tallied ns = map (λ n. entry n tt) ns

-- the k-th pass has the number k, and no turn
abbrev pub AreFresh : TableId → List (Known (Unit {0})) → Type 0
AreFresh table passes = (k : ℕ) (d : Known (Unit {0})) → k < length passes → IsFreeAt table (slice_index_or passes k d) × ((slice_index_or passes k d).number ≡ k)
