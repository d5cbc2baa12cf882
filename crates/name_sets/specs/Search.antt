-- What the steps of the search for the least common name promise one another.
use Rattle.std.specs.Prelude.{◌≡◌, ℕ, ◌+◌, ◌*◌, ◌<◌, ◌⊎◌, ◌↔◌, List, Option, slice_index}
use Rattle.std.specs.Option.{MatchOption}
use Rattle.name_sets.specs.IdSet.{Holds}
use Rattle.name_sets.specs.Least.{TellsLeast}
use Rattle.name_sets.specs.Row.{word_common}
use Rattle.name_sets.specs.Texts.{IsBefore}

-- the answer is the least name among the members of a set that are below a limit
abbrev pub TellsLeastBelow : List (List ℕ) → ℕ → ℕ → Option ℕ → Type 0
TellsLeastBelow texts set limit = TellsLeast texts (λ id. Holds set id × (id < limit))

-- the answer is the lesser by text of an older id, where there is one, and of another
abbrev pub IsLesser : List (List ℕ) → Option ℕ → ℕ → ℕ → Type 0
IsLesser texts old id answer = MatchOption old (answer ≡ id) (λ o. ((answer ≡ id) × IsBefore texts id o) ⊎ ((answer ≡ o) × ((id ≡ o) ⊎ IsBefore texts o id)))

-- bit j of the word says whether the set has the id base + j
abbrev pub Shows : ℕ → ℕ → ℕ → Type 0
Shows word set base = (j : ℕ) → j < 64 → Holds word j ↔ Holds set (base + j)

-- eight words say so of the ids from base on
abbrev pub ShowEight : List ℕ → ℕ → ℕ → Type 0
ShowEight words set base = (i : ℕ) → i < 8 → Shows (slice_index words i) set (base + 64 * i)

-- the bits that two rows have in common say which ids a set has
abbrev pub ShowCommon : List ℕ → List ℕ → ℕ → Type 0
ShowCommon words other set = (k : ℕ) → k < 32 → Shows (word_common words other k) set (64 * k)
