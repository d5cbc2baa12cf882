-- A set of ids is the number whose bit `id` is 1 for each member: so sets with the same members are one number.
use Rattle.std.specs.Prelude.{◌≡◌, ℕ, ◌<◌}
use Rattle.std.specs.Int.{bit_at}
use Rattle.name_sets.specs.Limit.{most_names}

-- id is in the set
abbrev pub Holds : ℕ → ℕ → Type 0
Holds set id = bit_at set id ≡ 1

-- each member is an id
abbrev pub HasIds : ℕ → Type 0
HasIds set = (id : ℕ) → Holds set id → id < most_names

-- id is in both sets
abbrev pub IsCommon : ℕ → ℕ → ℕ → Type 0
IsCommon a b id = Holds a id × Holds b id
