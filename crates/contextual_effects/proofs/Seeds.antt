-- What nodes have of their own, by their numbers.
use Rattle.std.proofs.Common.{◌≡◌, ℕ, ◌+◌, ◌-◌, ◌<◌, ◌≤◌, ◌⊎◌, ◌↔◌, inl, inr, List, [], length, get_or, refl, subst, sym, arith}
use Rattle.std.specs.Prelude.{slice_index}
use Rattle.std.proofs.lemmas.Bool.{cases_order}
use Rattle.std.proofs.lemmas.Option.{slice_get-get_or}
use Rattle.name_sets.specs.IdSet.{Holds}
use Rattle.c_tree.specs.BareExpr.{Bytes}
use Rattle.c_semantics.specs.Store.{Body}
use Rattle.effects.specs.Sites.{Site}
use Rattle.effects.specs.Standard.{Standard}
use Rattle.effects.proofs.Systems.{Node, Whole, Name, NameSeed, EffectSeed}
use Rattle.effects.proofs.Systems as system
use Rattle.effects.proofs.RowEquations.{RowNode, From, To, OwnSeed}
use Rattle.effects.proofs.RowEquations as row
use Rattle.contextual_effects.proofs.Encoding.{IsNamed}
use Rattle.contextual_effects.proofs.Numbering.{ArePlaces, NodeCode, RowCode}
use Rattle.contextual_effects.proofs.Numbering as code

-- a number before a limit is in the first part of two, or goes on from there
split : (n m : ℕ) → (n < m) ⊎ ((i : ℕ) × (n ≡ m + i))
split n m =
    elim (cases_order n m) [
      | inl e ↦ inr (0, omega arith)
      | inr r ↦ elim r [ inl l ↦ inl l | inr g ↦ inr (n - m, omega arith) ]
    ]

-- the block of a number
data Block (points ids n : ℕ) : Type 0 where
  before_functions : n < points + ids → Block points ids n
  of_functions : (i : ℕ) → i < ids → n ≡ points + ids + i → Block points ids n
  of_names : (i : ℕ) → i < ids → n ≡ points + ids + ids + i → Block points ids n
  after_all : points + ids + ids + ids ≤ n → Block points ids n

block_of : (points ids n : ℕ) → Block points ids n
block_of points ids n = first (split n (points + ids))
  where
    third : (j : ℕ) → n ≡ points + ids + ids + j → (j < ids) ⊎ ((k : ℕ) × (j ≡ ids + k)) → Block points ids n
    third j e (inl l) = of_names j l e
    third j e (inr m) = past m.0 m.1
      where
        past : (k : ℕ) → j ≡ ids + k → Block points ids n
        past k f = after_all (omega arith)

    second : (i : ℕ) → n ≡ points + ids + i → (i < ids) ⊎ ((j : ℕ) × (i ≡ ids + j)) → Block points ids n
    second i e (inl l) = of_functions i l e
    second i e (inr m) = on m.0 m.1
      where
        on : (j : ℕ) → i ≡ ids + j → Block points ids n
        on j f = third j (omega arith) (split j ids)

    first : (n < points + ids) ⊎ ((i : ℕ) × (n ≡ points + ids + i)) → Block points ids n
    first (inl l) = before_functions l
    first (inr m) = second m.0 m.1 (split m.0 ids)

-- names have themselves, and no other node has a name
pub record AreNameSeeds (points ids : ℕ) (seeds : List ℕ) : Type 0 where
  pub none_before : (n id : ℕ) → n < points + ids + ids → Holds (slice_index seeds n) id → ⊥
  pub names_alone : (i id : ℕ) → i < ids → Holds (slice_index seeds (points + ids + ids + i)) id ↔ (id ≡ i)
  pub none_after : (n id : ℕ) → points + ids + ids + ids ≤ n → Holds (slice_index seeds n) id → ⊥

-- names have themselves, functions their standard effects, and no other node has a name
pub record AreEffectSeeds (bodies : List Body) (names : List Bytes) (points ids : ℕ) (seeds : List ℕ) : Type 0 where
  pub none_before : (n id : ℕ) → n < points + ids → Holds (slice_index seeds n) id → ⊥
  pub functions_stand : (i id : ℕ) (f : Bytes)
      → IsNamed names i f → i < ids → Holds (slice_index seeds (points + ids + i)) id
      → (z : Bytes) × IsNamed names id z × Standard bodies f z
  pub functions_taken : (i : ℕ) (f z : Bytes)
      → IsNamed names i f → i < ids → Standard bodies f z
      → (id : ℕ) × IsNamed names id z × Holds (slice_index seeds (points + ids + i)) id
  pub names_alone : (i id : ℕ) → i < ids → Holds (slice_index seeds (points + ids + ids + i)) id ↔ (id ≡ i)
  pub none_after : (n id : ℕ) → points + ids + ids + ids ≤ n → Holds (slice_index seeds n) id → ⊥

-- the name of an id below a limit
text : (names : List Bytes) (ids i : ℕ) → ids ≤ length names → i < ids → (f : Bytes) × IsNamed names i f
text names ids i within less = (get_or names i [], slice_get-get_or names i [] (omega arith))

-- what the seed of a name has
name_stands : {Place : Site → ℕ → Type 0} {names : List Bytes} {points ids : ℕ} (n id i : ℕ) → ids ≤ length names
    → i < ids → n ≡ points + ids + ids + i → id ≡ i
    → (u : Bytes) × NodeCode Place names points ids (Name u) n × IsNamed names id u
name_stands {names} {ids} n id i within less e same =
    let u = text names ids i within less in (
      u.0,
      code.of_name u.0 n (record { id = i; named = u.1; below = less; number = e }),
      subst (λ j. IsNamed names j u.0) (sym same) u.1,
    )

name_taken : {Place : Site → ℕ → Type 0} {names : List Bytes} {points ids : ℕ} (seeds : List ℕ)
    → ((i id : ℕ) → i < ids → Holds (slice_index seeds (points + ids + ids + i)) id ↔ (id ≡ i))
    → (u : Bytes) (n : ℕ) → NodeCode Place names points ids (Name u) n
    → (id : ℕ) × IsNamed names id u × Holds (slice_index seeds n) id
name_taken seeds alone u n (code.of_name _ _ x) = (
  x.id,
  x.named,
  subst (λ m. Holds (slice_index seeds m) x.id) (sym x.number) ((alone x.id x.id x.below).1 refl),
)

-- the parts about seeds of `Encodes`
pub name_seeds_stand : {Place : Site → ℕ → Type 0} {names : List Bytes} {points ids : ℕ} {seeds : List ℕ}
    → ids ≤ length names → AreNameSeeds points ids seeds → (n id : ℕ) → Holds (slice_index seeds n) id
    → (a : Node) × (z : Bytes) × NodeCode Place names points ids a n × IsNamed names id z × NameSeed a z
name_seeds_stand {Place} {names} {points} {ids} {seeds} within k n id holds = by (block_of points ids n)
  where
    by : Block points ids n → (a : Node) × (z : Bytes) × NodeCode Place names points ids a n × IsNamed names id z × NameSeed a z
    by (before_functions l) = absurd (k.none_before n id (omega arith) holds)
    by (of_functions i l e) = absurd (k.none_before n id (omega arith) holds)
    by (of_names i l e) =
        let s = name_stands n id i within l e
        ((k.names_alone i id l).0 (subst (λ m. Holds (slice_index seeds m) id) e holds)) in
        (Name s.0, s.0, s.1, s.2, system.NameSeed.of_name s.0)
    by (after_all l) = absurd (k.none_after n id l holds)

pub name_seeds_taken : {Place : Site → ℕ → Type 0} {names : List Bytes} {points ids : ℕ} {seeds : List ℕ}
    → AreNameSeeds points ids seeds → (a : Node) (n : ℕ) (z : Bytes) → NodeCode Place names points ids a n → NameSeed a z
    → (id : ℕ) × IsNamed names id z × Holds (slice_index seeds n) id
name_seeds_taken {seeds} k _ n _ c (system.NameSeed.of_name u) = name_taken seeds k.names_alone u n c

pub effect_seeds_stand : {Place : Site → ℕ → Type 0} {bodies : List Body} {names : List Bytes} {points ids : ℕ} {seeds : List ℕ}
    → ids ≤ length names → AreEffectSeeds bodies names points ids seeds → (n id : ℕ) → Holds (slice_index seeds n) id
    → (a : Node) × (z : Bytes) × NodeCode Place names points ids a n × IsNamed names id z × EffectSeed bodies a z
effect_seeds_stand {Place} {bodies} {names} {points} {ids} {seeds} within k n id holds = by (block_of points ids n)
  where
    by : Block points ids n
        → (a : Node) × (z : Bytes) × NodeCode Place names points ids a n × IsNamed names id z × EffectSeed bodies a z
    by (before_functions l) = absurd (k.none_before n id l holds)
    by (of_functions i l e) =
        let f = text names ids i within l in
        let s = k.functions_stand i id f.0 f.1 l (subst (λ m. Holds (slice_index seeds m) id) e holds) in (
          Whole f.0,
          s.0,
          code.NodeCode.of_function f.0 n (record { id = i; named = f.1; below = l; number = e }),
          s.1,
          system.of_function f.0 s.0 s.2,
        )
    by (of_names i l e) =
        let s = name_stands n id i within l e
        ((k.names_alone i id l).0 (subst (λ m. Holds (slice_index seeds m) id) e holds)) in
        (Name s.0, s.0, s.1, s.2, system.EffectSeed.of_name s.0)
    by (after_all l) = absurd (k.none_after n id l holds)

function_taken : {Place : Site → ℕ → Type 0} {bodies : List Body} {names : List Bytes} {points ids : ℕ} {seeds : List ℕ}
    → AreEffectSeeds bodies names points ids seeds → (f z : Bytes) (n : ℕ) → NodeCode Place names points ids (Whole f) n
    → Standard bodies f z → (id : ℕ) × IsNamed names id z × Holds (slice_index seeds n) id
function_taken {seeds} k f z n (code.NodeCode.of_function _ _ x) s =
    let t = k.functions_taken x.id f z x.named x.below s in
    (t.0, t.1, subst (λ m. Holds (slice_index seeds m) t.0) (sym x.number) t.2)

pub effect_seeds_taken : {Place : Site → ℕ → Type 0} {bodies : List Body} {names : List Bytes} {points ids : ℕ} {seeds : List ℕ}
    → AreEffectSeeds bodies names points ids seeds
    → (a : Node) (n : ℕ) (z : Bytes) → NodeCode Place names points ids a n → EffectSeed bodies a z
    → (id : ℕ) × IsNamed names id z × Holds (slice_index seeds n) id
effect_seeds_taken {seeds} k _ n _ c (system.EffectSeed.of_name u) = name_taken seeds k.names_alone u n c
effect_seeds_taken k _ n _ c (system.EffectSeed.of_function f z s) = function_taken k f z n c s

-- points have their own names at both of their nodes, and no other node has a name
pub record AreOwnSeeds (Place : Site → ℕ → Type 0) (Own : Site → Bytes → Type 0) (names : List Bytes) (points : ℕ)
    (seeds : List ℕ) : Type 0 where
  pub own_stand : (i id : ℕ) → i < points → Holds (slice_index seeds i) id
      → (p : Site) × (z : Bytes) × Place p i × IsNamed names id z × Own p z
  pub own_taken : (p : Site) (i : ℕ) (z : Bytes) → Place p i → Own p z
      → (id : ℕ) × IsNamed names id z × Holds (slice_index seeds i) id
  pub again : (i id : ℕ) → i < points → Holds (slice_index seeds (points + i)) id ↔ Holds (slice_index seeds i) id
  pub none_after : (n id : ℕ) → points + points ≤ n → Holds (slice_index seeds n) id → ⊥

pub own_seeds_stand : {Place : Site → ℕ → Type 0} {Own : Site → Bytes → Type 0} {names : List Bytes} {points ids : ℕ}
    {seeds : List ℕ} → AreOwnSeeds Place Own names points seeds → (n id : ℕ) → Holds (slice_index seeds n) id
    → (a : RowNode) × (z : Bytes) × RowCode Place names points ids a n × IsNamed names id z × OwnSeed Own a z
own_seeds_stand {Place} {Own} {names} {points} {ids} {seeds} k n id holds = first (split n points)
  where
    second : (i : ℕ) → n ≡ points + i → (i < points) ⊎ ((j : ℕ) × (i ≡ points + j))
        → (a : RowNode) × (z : Bytes) × RowCode Place names points ids a n × IsNamed names id z × OwnSeed Own a z
    second i e (inl l) =
        let s = k.own_stand i id l ((k.again i id l).0 (subst (λ m. Holds (slice_index seeds m) id) e holds)) in
        (To s.0, s.1, code.of_to s.0 i n s.2 e, s.3, row.to s.0 s.1 s.4)
    second i e (inr m) = absurd (past m.0 m.1)
      where
        past : (j : ℕ) → i ≡ points + j → ⊥
        past j f = k.none_after n id (omega arith) holds

    first : (n < points) ⊎ ((i : ℕ) × (n ≡ points + i))
        → (a : RowNode) × (z : Bytes) × RowCode Place names points ids a n × IsNamed names id z × OwnSeed Own a z
    first (inl l) = let s = k.own_stand n id l holds in (From s.0, s.1, code.of_from s.0 n s.2, s.3, row.from s.0 s.1 s.4)
    first (inr m) = second m.0 m.1 (split m.0 points)

from_taken : {Place : Site → ℕ → Type 0} {Own : Site → Bytes → Type 0} {names : List Bytes} {points ids : ℕ} {seeds : List ℕ}
    → AreOwnSeeds Place Own names points seeds → (p : Site) (n : ℕ) (z : Bytes)
    → RowCode Place names points ids (From p) n → Own p z → (id : ℕ) × IsNamed names id z × Holds (slice_index seeds n) id
from_taken k p n z (code.of_from _ _ at) own = k.own_taken p n z at own

to_taken : {Place : Site → ℕ → Type 0} {Own : Site → Bytes → Type 0} {names : List Bytes} {points ids : ℕ} {seeds : List ℕ}
    → ArePlaces Place points → AreOwnSeeds Place Own names points seeds → (p : Site) (n : ℕ) (z : Bytes)
    → RowCode Place names points ids (To p) n → Own p z → (id : ℕ) × IsNamed names id z × Holds (slice_index seeds n) id
to_taken {seeds} places k p n z (code.of_to _ i _ at e) own =
    let s = k.own_taken p i z at own in (
      s.0,
      s.1,
      subst (λ m. Holds (slice_index seeds m) s.0) (sym e) ((k.again i s.0 (places.below p i at)).1 s.2),
    )

pub own_seeds_taken : {Place : Site → ℕ → Type 0} {Own : Site → Bytes → Type 0} {names : List Bytes} {points ids : ℕ}
    {seeds : List ℕ} → ArePlaces Place points → AreOwnSeeds Place Own names points seeds
    → (a : RowNode) (n : ℕ) (z : Bytes) → RowCode Place names points ids a n → OwnSeed Own a z
    → (id : ℕ) × IsNamed names id z × Holds (slice_index seeds n) id
own_seeds_taken places k _ n _ c (row.from p z own) = from_taken k p n z c own
own_seeds_taken places k _ n _ c (row.to p z own) = to_taken places k p n z c own
