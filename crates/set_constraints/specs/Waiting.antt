-- Which nodes wait until their sets are passed on, as a list of tests, and in which order they are taken.
use Rattle.std.specs.Prelude.{◌≡◌, ℕ, ◌<◌, ◌≤◌, List, Bool, true, false, Contains, length, slice_index, slice_index_or, slice_set, if◌then◌else◌}
use Rattle.std.specs.List.{All, sum_by}

-- no node waits
abbrev pub NoneWaits : List Bool → Type 0
NoneWaits waits = (n : ℕ) → slice_index_or waits n false ≡ false

-- the node is one of the list, and waits no longer
pub record Takes (old : List Bool) (node : ℕ) (new : List Bool) : Type 0 where
  pub known : node < length old
  pub waits : new ≡ slice_set old node false

-- how many nodes wait
abbrev pub waiting : List Bool → ℕ
waiting waits = sum_by (λ w. if w then 1 else 0) waits

-- a number is in a list (as a fact with one proof)
abbrev pub IsIn : List ℕ → ℕ → Type 0
IsIn nodes n = (Contains nodes n → ⊥) → ⊥

-- a list of the nodes below a number, each at least once
pub record IsOrder (count : ℕ) (order : List ℕ) : Type 0 where
  pub known : All (λ n. n < count) order
  pub listed : (n : ℕ) → n < count → IsIn order n

-- the node at a place of the order waits
pub record IsWaiting (waits : List Bool) (order : List ℕ) (place : ℕ) : Type 0 where
  pub inside : place < length order
  pub waits_there : slice_index_or waits (slice_index order place) false ≡ true

-- no node waits that is at a place from one to another
abbrev pub RestFrom : List Bool → List ℕ → ℕ → ℕ → Type 0
RestFrom waits order from to = (k : ℕ) → from ≤ k → k < to → slice_index_or waits (slice_index order k) false ≡ false

-- the nodes of which it is noted are in the list
abbrev pub AreListed : List ℕ → List Bool → Type 0
AreListed nodes noted = (n : ℕ) → slice_index_or noted n false ≡ true → IsIn nodes n

-- one list has the members of another
abbrev pub HasAll : List ℕ → List ℕ → Type 0
HasAll old new = (n : ℕ) → IsIn old n → IsIn new n
