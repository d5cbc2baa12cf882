-- What refusals say in a small table of names, and verdicts on small rows.
use Rattle.std.proofs.Common.{◌≡◌, ℕ, Bool, true, false, List, [], ◌∷◌, refl}
use Rattle.std.specs.Prelude.{codes, map}
use Rattle.con_freeness.specs.declared.refusal.Effect.TheVariants as ids
use Rattle.con_freeness.specs.Verdicts.{Concrete, Both, Pinned, Admitted, Refused, effect_seen, refusal_seen}
use Rattle.con_freeness.specs.Rows.{InForce, empty_row, admits, verdict}

abbrev names : List (List ℕ)
names = codes "main" ∷ codes "struct conn" ∷ codes "g" ∷ []

effects : map (effect_seen names) (ids.Concrete 1 ∷ ids.Both 2 0 ∷ ids.Pinned 2 ∷ [])
    ≡ Concrete (codes "struct conn") ∷ Both (codes "g") (codes "main") ∷ Pinned (codes "g") ∷ []
effects = refl

refusal : refusal_seen names (record { slot = 3; effect = ids.Pinned 0 }) ≡ record { slot = 3; effect = Pinned (codes "main") }
refusal = refl

-- a patch of `h` whose interface stays, and one of `g` whose interface changes
abbrev g : List ℕ
g = codes "g"

abbrev h : List ℕ
h = codes "h"

abbrev row : List (List ℕ) → List (List ℕ) → List (List ℕ) → Bool → InForce
row prior future concrete pinned = record { row = record { prior = prior; future = future; concrete = concrete }; pinned = pinned }

-- the changed set counts at the transaction, the interface set at the code in progress
changed_alone : verdict (row [] [] (h ∷ []) false ∷ row (h ∷ []) (g ∷ []) [] false ∷ []) (h ∷ []) [] ≡ Admitted
changed_alone = refl

interface_too : verdict (row [] [] (g ∷ []) false ∷ row [] (h ∷ g ∷ []) (h ∷ g ∷ []) false ∷ []) (h ∷ []) (h ∷ [])
    ≡ Refused (record { slot = 1; effect = Concrete h })
interface_too = refl

-- the concrete effect first; then that of a pinned thread, whatever it has used before
concrete_first : verdict (row (h ∷ []) (h ∷ []) (h ∷ []) true ∷ []) (h ∷ []) (h ∷ []) ≡ Refused (record { slot = 0; effect = Concrete h })
concrete_first = refl

pinned_by_future : verdict (row (h ∷ []) (h ∷ []) [] true ∷ []) (h ∷ []) [] ≡ Refused (record { slot = 0; effect = Pinned h })
pinned_by_future = refl

pinned_with_past : verdict (row (h ∷ []) [] [] true ∷ []) (h ∷ []) [] ≡ Admitted
pinned_with_past = refl

-- used before the patch and to be used after it: the least names by bytes, whatever their order in the sets
crosses : verdict (record { row = empty_row; pinned = false } ∷ row (h ∷ g ∷ []) (h ∷ []) [] false ∷ row (g ∷ []) (h ∷ []) [] false ∷ []) (h ∷ g ∷ []) []
    ≡ Refused (record { slot = 1; effect = Both g h })
crosses = refl

admits_each_way : map (λ (s : InForce). admits s.row s.pinned (h ∷ []) [])
    (row (h ∷ []) [] [] false ∷ row [] (h ∷ []) [] false ∷ row (h ∷ []) (h ∷ []) [] false ∷ row [] (h ∷ []) [] true ∷ [])
    ≡ true ∷ true ∷ false ∷ false ∷ []
admits_each_way = refl
