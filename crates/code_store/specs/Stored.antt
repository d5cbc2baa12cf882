-- Which bodies a store has.
use Rattle.std.specs.Prelude.{◌≡◌, ℕ, ◌≤◌, List, [], ◌∷◌, ◌++◌, All, map}
use Rattle.name_sets.specs.Texts.{IsTable}
use Rattle.c_tree.specs.BareExpr.{Bytes}
use Rattle.c_semantics.specs.Store.{Body, all_check_ins, all_tokens}
use Rattle.effect_flow.specs.Flows.{body_of, AreNamed}
use Rattle.code_store.specs.declared.body.StoredBody.{StoredBody}
use Rattle.code_store.specs.Limits.{most_check_ins, most_function_tokens}

-- what a stored body is by a table of names
abbrev pub meant_body : List Bytes → StoredBody → Body
meant_body names b = body_of names b.function b.generation b.skeleton b.tokens

-- its function and the names that it uses are in a table
abbrev pub IsNamed : List Bytes → StoredBody → Type 0
IsNamed names b = AreNamed names b.function b.skeleton

-- a function has no body of a generation
abbrev pub IsNewTo : List StoredBody → ℕ → ℕ → Type 0
IsNewTo stored function generation = All (λ b. ¬ ((b.function ≡ function) × (b.generation ≡ generation))) stored

-- no function has two bodies of one generation
abbrev pub AreDistinct : List StoredBody → Type 0
AreDistinct [] = Unit {0}
AreDistinct (b ∷ bs) = IsNewTo bs b.function b.generation × AreDistinct bs

-- a store has some bodies, by a table of names
pub record IsStoreOf (names : List Bytes) (bodies : List Body) (stored : List StoredBody) : Type 0 where
  pub table : IsTable names
  pub named : All (IsNamed names) stored
  pub meaning : map (meant_body names) stored ≡ bodies
  pub distinct : AreDistinct stored

-- whatever bodies the store had, now it has those and one more
abbrev pub AddsStored : List StoredBody → StoredBody → List StoredBody → Type 0
AddsStored old b new =
    (names : List Bytes) (bodies : List Body)
    → IsStoreOf names bodies old → IsNamed names b → IsStoreOf names (bodies ++ meant_body names b ∷ []) new

-- whatever bodies the store had, now it has those and some more, if no function has two of one generation then
abbrev pub AddsAllStored : List StoredBody → List StoredBody → List StoredBody → Type 0
AddsAllStored old more new =
    (names : List Bytes) (bodies : List Body)
    → IsStoreOf names bodies old → All (IsNamed names) more → AreDistinct (old ++ more)
    → IsStoreOf names (bodies ++ map (meant_body names) more) new

-- how many check-ins and tokens some bodies have, whatever the table, and that they are within the limits
pub record HasCounts (stored : List StoredBody) (check_ins tokens : ℕ) : Type 0 where
  pub check_ins_are : (names : List Bytes) → check_ins ≡ all_check_ins (map (meant_body names) stored)
  pub tokens_are : (names : List Bytes) → tokens ≡ all_tokens (map (meant_body names) stored)
  pub few_check_ins : check_ins ≤ most_check_ins
  pub few_tokens : tokens ≤ most_function_tokens
