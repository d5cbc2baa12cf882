-- From the sets that the steps give to the effects.
use Rattle.std.proofs.Common.{◌≡◌, ◌↔◌, ℕ, ◌+◌, ◌-◌, ◌<◌, ◌≤◌, List, ◌⊎◌, inl, inr, Some, length, take, drop, get_or, refl, subst, sym, ap, ◌∙◌, arith}
use Rattle.std.specs.Prelude.{slice_get, slice_index}
use Rattle.std.proofs.lemmas.Bool.{cases_lt}
use Rattle.std.proofs.lemmas.List.{get_or_default, get_or-take, get_or-drop, length-take}
use Rattle.name_sets.specs.IdSet.{Holds}
use Rattle.c_tree.specs.BareExpr.{Bytes}
use Rattle.c_semantics.specs.Store.{Body}
use Rattle.effects.specs.Standard.{Standard}
use Rattle.effect_flow.specs.Parts.{Contents}
use Rattle.effect_flow.specs.Flows.{IsFlowOf}
use Rattle.set_constraints.specs.declared.constraint.Edge.{Edge}
use Rattle.set_constraints.specs.Constraints.{Fit, Reaches}
use Rattle.contextual_effects.specs.declared.constraints.System.{System}
use Rattle.contextual_effects.specs.declared.constraints.System.TheVariants as system
use Rattle.contextual_effects.specs.Edges.{edges_of, node_count}
use Rattle.contextual_effects.specs.Effects.{HasNames, AreEffectsOf}
use Rattle.contextual_effects.specs.Steps.{Numbers, HasNodes, AreSeeds, AreNone, AreTokens, AreSetsOf, BeginSetsOf, IsMarked, HasNested, AreStandard}
use Rattle.contextual_effects.proofs.Fitting.{edges_fit}
use Rattle.contextual_effects.proofs.SeedLists.{none_past, seeds_many, tokens_many}
use Rattle.contextual_effects.proofs.NodesOfPoints.{Setting, places}
use Rattle.contextual_effects.proofs.StandardSystem.{standard_effect, standard_is_below}
use Rattle.contextual_effects.proofs.NestedSystem.{nested_functions}
use Rattle.contextual_effects.proofs.PriorSystem.{prior_effect}
use Rattle.contextual_effects.proofs.FutureSystem.{future_effect}
use Rattle.contextual_effects.proofs.ConcreteSystem.{concrete_effect}

-- edges fit seeds
count : (system : System) (points ids : ℕ) → HasNodes system → node_count system points ids ≡ points + ids + ids + ids
count system.Standard points ids h = refl
count system.Nested points ids h = absurd (h refl)
count system.Prior points ids h = refl
count system.Future points ids h = refl
count system.Concrete points ids h = refl

pub seeds_fit : (system : System) {points ids : ℕ} (nested : ℕ) {flow : Contents} {whole seeds : List ℕ} {edges : List Edge}
    → HasNodes system → Numbers points ids flow → length whole ≡ ids → AreSeeds points ids whole seeds
    → edges ≡ edges_of system points ids nested flow → Fit (length seeds) edges
seeds_fit system {points} {ids} nested {flow} {whole} {seeds = list} h numbers many seeds is =
    subst (λ edges. Fit (length list) edges) (sym is)
    (subst (λ n. Fit n (edges_of system points ids nested flow)) (count system points ids h ∙ sym (seeds_many many seeds))
    (edges_fit system points ids nested flow numbers))

pub tokens_fit : {points ids : ℕ} (none : ℕ) {flow : Contents} {seeds : List ℕ} {edges : List Edge}
    → Numbers points ids flow → AreTokens ids seeds → edges ≡ edges_of system.Nested points ids none flow → Fit (length seeds) edges
tokens_fit {points} {ids} none {flow} {seeds = list} numbers tokens is =
    subst (λ edges. Fit (length list) edges) (sym is)
    (subst (λ n. Fit n (edges_of system.Nested points ids none flow)) (sym (tokens_many tokens))
    (edges_fit system.Nested points ids none flow numbers))

-- the sets of functions, cut out of those of all nodes
pub standard_sets : {points ids : ℕ} {flow : Contents} {whole given all shown sets : List ℕ} (nested : ℕ) → Numbers points ids flow
    → AreNone ids whole → given ≡ whole → AreSetsOf system.Standard points ids nested given flow all → shown ≡ all
    → sets ≡ take (points + ids + ids - (points + ids)) (drop (points + ids) shown)
    → (names : List Bytes) (bodies : List Body) → IsFlowOf names bodies flow → AreStandard names bodies sets
standard_sets {points} {ids} {flow} {whole} {given} {all} {shown} {sets} nested numbers none same_whole from_given same_all found names bodies f = record { of_function = of_function }
  where
    s : Setting names bodies flow points ids
    s = record { is_flow = f; numbers = numbers }

    k : AreSetsOf system.Standard points ids nested whole flow all
    k = subst (λ w. AreSetsOf system.Standard points ids nested w flow all) same_whole from_given

    size : points + ids + ids - (points + ids) ≡ ids
    size = omega arith

    is : sets ≡ take ids (drop (points + ids) all)
    is = found ∙ ap (λ n. take n (drop (points + ids) shown)) size ∙ ap (λ xs. take ids (drop (points + ids) xs)) same_all

    past : (i : ℕ) → ids ≤ i → length sets ≤ i
    past i l = omega (arith, ap length is, length-take ids (drop (points + ids) all))

    same : (i : ℕ) → i < ids → slice_index sets i ≡ slice_index all (points + ids + i)
    same i l = ap (λ xs. get_or xs i 0) is ∙ get_or-take ids (drop (points + ids) all) i 0 l ∙ get_or-drop (points + ids) all i 0

    of_function : (f : Bytes) (i : ℕ) → slice_get names i ≡ Some f → HasNames names (slice_index sets i) (Standard bodies f)
    of_function f i named = elim (cases_lt i ids) [
      | inl l ↦ subst (λ set. HasNames names set (Standard bodies f)) (sym (same i l))
          (standard_effect nested s none k f (points + ids + i) (record { id = i; named = named; below = l; number = refl }))
      | inr l ↦ record {
        only = λ id h. absurd (none_past sets i id (past i l) h);
        all = λ z x. let below : i < ids = standard_is_below s f z i named x in absurd (omega arith);
      }
    ]

-- one function more is looked at
pub marked_more : (sets : List ℕ) (i nested new set : ℕ) → IsMarked i sets nested → i < length sets → set ≡ get_or sets i set
    → ((f : ℕ) → Holds new f ↔ (Holds nested f ⊎ ((f ≡ i) × Holds set 0))) → IsMarked (i + 1) sets new
marked_more sets i nested new set before l at added f = (
  λ h. elim ((added f).0 h) [
    | inl old ↦ let x = (before f).0 old in (let below : f < i = x.0 in omega arith, x.1)
    | inr own ↦ (let same : f ≡ i = own.0 in omega arith, subst (λ n. Holds (slice_index sets n) 0) (sym own.0) (subst (λ s. Holds s 0) here own.1))
  ],
  λ x. (added f).1 (by x.0 x.1),
)
  where
    here : set ≡ slice_index sets i
    here = at ∙ get_or_default sets i set 0 l

    by : f < i + 1 → Holds (slice_index sets f) 0 → Holds nested f ⊎ ((f ≡ i) × Holds set 0)
    by less holds = elim (cases_lt f i) [
      | inl below ↦ inl ((before f).1 (below, holds))
      | inr above ↦
          let same : f ≡ i = omega arith in
          inr (same, subst (λ s. Holds s 0) (sym here) (subst (λ n. Holds (slice_index sets n) 0) same holds))
    ]

-- the functions that have the token
pub nested_found : {points ids : ℕ} {flow : Contents} {seeds sets shown : List ℕ} {edges : List Edge} (none nested : ℕ)
    → Numbers points ids flow → AreTokens ids seeds → edges ≡ edges_of system.Nested points ids none flow
    → ((n id : ℕ) → Holds (slice_index sets n) id ↔ Reaches seeds edges n id) → shown ≡ sets → IsMarked ids shown nested
    → (names : List Bytes) (bodies : List Body) → IsFlowOf names bodies flow → HasNested names bodies nested
nested_found {points} {ids} {flow} {seeds} {sets} none nested numbers tokens is least same marked names bodies f =
    nested_functions sets none nested (record { is_flow = f; numbers = numbers }) tokens
    (subst (λ edges. (n id : ℕ) → Holds (slice_index sets n) id ↔ Reaches seeds edges n id) is least)
    (subst (λ sets. IsMarked ids sets nested) same marked)

-- so many sets are those of the points
pub begin_many : {system : System} {points ids nested : ℕ} {flow : Contents} {whole all sets : List ℕ} → length whole ≡ ids
    → AreSetsOf system points ids nested whole flow all → sets ≡ take points all → length sets ≡ points
begin_many {points = points} {ids = ids} {all = all} {sets = sets} many k is =
    let enough : length all ≡ points + ids + ids + ids = k.many ∙ seeds_many many k.are_seeds in
    let size : length sets ≡ length (take points all) = ap length is in
    omega (arith, length-take points all)

-- those of the points, which come first
begins : {names : List Bytes} (all sets : List ℕ) {In : Bytes → Type 0} (points i : ℕ) → sets ≡ take points all → i < points
    → HasNames names (slice_index all i) In → HasNames names (slice_index sets i) In
begins {names} all sets {In} points i is l =
    subst (λ set. HasNames names set In) (sym (ap (λ xs. get_or xs i 0) is ∙ get_or-take points all i 0 l))

pub effects_are : {points ids nested : ℕ} {flow : Contents} {whole prior future concrete standard : List ℕ} → Numbers points ids flow
    → ((names : List Bytes) (bodies : List Body) → IsFlowOf names bodies flow → HasNested names bodies nested)
    → AreNone ids whole → length standard ≡ ids
    → ((names : List Bytes) (bodies : List Body) → IsFlowOf names bodies flow → AreStandard names bodies standard)
    → (a b d : List ℕ) → a ≡ standard → b ≡ standard → d ≡ whole
    → BeginSetsOf system.Prior points ids nested a flow prior
    → BeginSetsOf system.Future points ids nested b flow future
    → BeginSetsOf system.Concrete points ids nested d flow concrete
    → (names : List Bytes) (bodies : List Body) → IsFlowOf names bodies flow
    → AreEffectsOf names bodies (record { prior = prior; future = future; concrete = concrete; standard = standard })
effects_are {points} {ids} {nested} {flow} {whole} {prior} {future} {concrete} {standard} numbers has none many are a b d is_a is_b is_d first second third names bodies f = record {
  prior = λ p i place. begins x.all prior points i x.begin ((places s).below p i place)
      (prior_effect nested s (has names bodies f) many (are names bodies f) x.are_sets p i place);
  future = λ p i place. begins y.all future points i y.begin ((places s).below p i place)
      (future_effect nested s (has names bodies f) many (are names bodies f) y.are_sets p i place);
  concrete = λ p i place. begins z.all concrete points i z.begin ((places s).below p i place) (concrete_effect nested s none z.are_sets p i place);
  standard = (are names bodies f).of_function;
}
  where
    s : Setting names bodies flow points ids
    s = record { is_flow = f; numbers = numbers }

    x : BeginSetsOf system.Prior points ids nested standard flow prior
    x = subst (λ w. BeginSetsOf system.Prior points ids nested w flow prior) is_a first

    y : BeginSetsOf system.Future points ids nested standard flow future
    y = subst (λ w. BeginSetsOf system.Future points ids nested w flow future) is_b second

    z : BeginSetsOf system.Concrete points ids nested whole flow concrete
    z = subst (λ w. BeginSetsOf system.Concrete points ids nested w flow concrete) is_d third
