-- The edges of a system lead between its nodes.
use Rattle.std.proofs.Common.{◌≡◌, ℕ, ◌+◌, ◌<◌, ◌≤◌, Bool, true, ◌⊎◌, inl, inr, List, [], ◌∷◌, Option, Some, None, All, length, get_or, refl, subst, arith}
use Rattle.std.specs.Prelude.{IfSome, ◌==◌, not, nat_lt, slice_get}
use Rattle.std.proofs.lemmas.List.{get_or_default}
use Rattle.std.proofs.lemmas.Option.{slice_get_within, get_or_from_slice_get, same_Some}
use Rattle.skeletons.specs.Meaning.{used_at, called_at}
use Rattle.skeletons.specs.declared.point.Use.TheVariants.{Call}
use Rattle.skeletons.specs.declared.point.PointKind.{PointKind}
use Rattle.skeletons.specs.declared.point.PointKind.TheVariants.{Uses}
use Rattle.effect_flow.specs.declared.flow.FlowPoint.{FlowPoint}
use Rattle.effect_flow.specs.declared.flow.Way.{Way}
use Rattle.effect_flow.specs.Parts.{Contents, HasIdsBelow}
use Rattle.set_constraints.specs.declared.constraint.Edge.{Edge}
use Rattle.set_constraints.specs.Constraints.{Fit}
use Rattle.contextual_effects.specs.declared.constraints.System.{System}
use Rattle.contextual_effects.specs.declared.constraints.System.TheVariants.{Standard, Nested, Prior, Future, Concrete}
use Rattle.contextual_effects.specs.Edges.{in_block, edge_if, continues, is_inside, goes_on, enters, is_return, standard_of_point, nested_of_point, prior_of_point, future_of_point, concrete_of_point, of_point, prior_of_way, back_of_way, between, edges_of, node_count}
use Rattle.contextual_effects.specs.Steps.{Numbers}
use Rattle.contextual_effects.proofs.EdgeLists.{edge_is, SomeIs, OfPoint, OfWay, edges_are}

-- the id of what is called is that of what is used
pub called_below : (k : PointKind) (ids : ℕ) → IfSome (used_at k) (λ u. u < ids) → IfSome (called_at k) (λ u. u < ids)
called_below (Uses Call name) ids l = l
called_below (Uses _ name) ids l = tt
called_below _ ids l = tt

-- what holds of all items holds of one
pub known_at : (xs : List FlowPoint) (ids i : ℕ) (x : FlowPoint) → slice_get xs i ≡ Some x → All (HasIdsBelow ids) xs → HasIdsBelow ids x
known_at xs ids i x e all =
    let P : FlowPoint → Type 0 = λ x. HasIdsBelow ids x in
    subst P (get_or_from_slice_get xs i x x e) (all i x (slice_get_within xs i x e))

-- where a body goes on, there is a point that is no entry
pub continues_at : (o : Option FlowPoint) → continues o ≡ true → (y : FlowPoint) × (o ≡ Some y) × (y.number ≡ 0 → ⊥)
continues_at None e = cc
continues_at (Some y) e = (y, refl, no y.number e)
  where
    no : (n : ℕ) → not (n == 0) ≡ true → n ≡ 0 → ⊥
    no n e z = let h : not (0 == 0) ≡ true = subst (λ m. not (m == 0) ≡ true) z e in cc

-- a number is below a limit where it is there
Below : ℕ → Option ℕ → Type 0
Below n o = (m : ℕ) → o ≡ Some m → m < n

some_below : (n i : ℕ) → i < n → (m : ℕ) → Some i ≡ Some m → m < n
some_below n i l m e = let same : i ≡ m = same_Some i m e in omega arith

block_below : (o : Option ℕ) (start ids n : ℕ) → IfSome o (λ u. u < ids) → start + ids ≤ n → (m : ℕ) → in_block start o ≡ Some m → m < n
block_below None start ids n l le m e = cc
block_below (Some u) start ids n l le m e = let same : start + u ≡ m = same_Some (start + u) m e in omega arith

-- an edge leads between nodes
abbrev Fits : ℕ → Edge → Type 0
Fits n e = (e.from < n) × (e.to < n)

fits : (n : ℕ) (c : Bool) (a b : Option ℕ) (e : Edge) → edge_if c a b ≡ Some e
    → ((m : ℕ) → a ≡ Some m → m < n) → ((m : ℕ) → b ≡ Some m → m < n) → Fits n e
fits n c a b e is from to = let k = edge_is c a b e is in (from e.from k.from, to e.to k.to)

-- those of a point
standard_fits : (points ids : ℕ) (x : FlowPoint) (e : Edge) → HasIdsBelow ids x
    → SomeIs (standard_of_point points ids x) e → Fits (points + ids + ids + ids) e
standard_fits points ids x e known s = by s
  where
    n : ℕ
    n = points + ids + ids + ids

    own : (m : ℕ) → in_block (points + ids) (Some x.function) ≡ Some m → m < points + ids + ids + ids
    own = block_below (Some x.function) (points + ids) ids (points + ids + ids + ids) known.function (omega arith)

    by : SomeIs (standard_of_point points ids x) e → Fits (points + ids + ids + ids) e
    by (inl h) =
        fits (points + ids + ids + ids) true (in_block (points + ids + ids) (used_at x.point.kind)) (in_block (points + ids) (Some x.function)) e h
        (block_below (used_at x.point.kind) (points + ids + ids) ids (points + ids + ids + ids) known.used (omega arith)) own
    by (inr (inl h)) =
        fits (points + ids + ids + ids) true (in_block (points + ids) (called_at x.point.kind)) (in_block (points + ids) (Some x.function)) e h
        (block_below (called_at x.point.kind) (points + ids) ids (points + ids + ids + ids) (called_below x.point.kind ids known.used) (omega arith)) own
    by (inr (inr (inl h))) = cc
    by (inr (inr (inr (inl h)))) = cc
    by (inr (inr (inr (inr h)))) = absurd h

nested_fits : (ids : ℕ) (x : FlowPoint) (e : Edge) → HasIdsBelow ids x → SomeIs (nested_of_point ids x) e → Fits (ids + 1) e
nested_fits ids x e known s = by s
  where
    called : (m : ℕ) → in_block 0 (called_at x.point.kind) ≡ Some m → m < ids + 1
    called = block_below (called_at x.point.kind) 0 ids (ids + 1) (called_below x.point.kind ids known.used) (omega arith)

    by : SomeIs (nested_of_point ids x) e → Fits (ids + 1) e
    by (inl h) =
        fits (ids + 1) true (in_block 0 (Some x.function)) (in_block 0 (called_at x.point.kind)) e h
        (block_below (Some x.function) 0 ids (ids + 1) known.function (omega arith)) called
    by (inr (inl h)) =
        fits (ids + 1) (nat_lt 0 x.point.depth) (Some ids) (in_block 0 (called_at x.point.kind)) e h
        (some_below (ids + 1) ids (omega arith)) called
    by (inr (inr (inl h))) = cc
    by (inr (inr (inr (inl h)))) = cc
    by (inr (inr (inr (inr h)))) = absurd h

prior_fits : (points ids nested i : ℕ) (x : FlowPoint) (e : Edge) → HasIdsBelow ids x → i < points
    → SomeIs (prior_of_point points ids nested i x) e → Fits (points + ids + ids + ids) e
prior_fits points ids nested i x e known l s = by s
  where
    here : (m : ℕ) → Some i ≡ Some m → m < points + ids + ids + ids
    here = some_below (points + ids + ids + ids) i (omega arith)

    by : SomeIs (prior_of_point points ids nested i x) e → Fits (points + ids + ids + ids) e
    by (inl h) =
        fits (points + ids + ids + ids) (enters nested x) (in_block (points + ids + ids) (Some x.function)) (Some i) e h
        (block_below (Some x.function) (points + ids + ids) ids (points + ids + ids + ids) known.function (omega arith)) here
    by (inr (inl h)) =
        fits (points + ids + ids + ids) (enters nested x) (in_block points (Some x.function)) (Some i) e h
        (block_below (Some x.function) points ids (points + ids + ids + ids) known.function (omega arith)) here
    by (inr (inr (inl h))) =
        fits (points + ids + ids + ids) (is_inside nested x) (Some i) (in_block points (called_at x.point.kind)) e h here
        (block_below (called_at x.point.kind) points ids (points + ids + ids + ids) (called_below x.point.kind ids known.used) (omega arith))
    by (inr (inr (inr (inl h)))) = cc
    by (inr (inr (inr (inr h)))) = absurd h

-- what is used, the returns, and the calls of a point, under conditions
return_fits : (points ids i : ℕ) (x : FlowPoint) (e : Edge) → HasIdsBelow ids x → i < points
    → edge_if (is_return x.point.kind) (in_block points (Some x.function)) (Some i) ≡ Some e → Fits (points + ids + ids + ids) e
return_fits points ids i x e known l h =
    fits (points + ids + ids + ids) (is_return x.point.kind) (in_block points (Some x.function)) (Some i) e h
    (block_below (Some x.function) points ids (points + ids + ids + ids) known.function (omega arith))
    (some_below (points + ids + ids + ids) i (omega arith))

after_fits : (points ids i : ℕ) (xs : List FlowPoint) (x : FlowPoint) (e : Edge) → HasIdsBelow ids x → length xs ≡ points
    → edge_if (continues (slice_get xs (i + 1))) (Some (i + 1)) (in_block points (called_at x.point.kind)) ≡ Some e
    → Fits (points + ids + ids + ids) e
after_fits points ids i xs x e known many h =
    let k = edge_is (continues (slice_get xs (i + 1))) (Some (i + 1)) (in_block points (called_at x.point.kind)) e h in
    let y = continues_at (slice_get xs (i + 1)) k.holds in
    let l : i + 1 < length xs = slice_get_within xs (i + 1) y.0 y.1 in
    fits (points + ids + ids + ids) (continues (slice_get xs (i + 1))) (Some (i + 1)) (in_block points (called_at x.point.kind)) e h
    (some_below (points + ids + ids + ids) (i + 1) (omega arith))
    (block_below (called_at x.point.kind) points ids (points + ids + ids + ids) (called_below x.point.kind ids known.used) (omega arith))

used_fits : (c : Bool) (points ids i : ℕ) (x : FlowPoint) (e : Edge) → HasIdsBelow ids x → i < points
    → edge_if c (in_block (points + ids + ids) (used_at x.point.kind)) (Some i) ≡ Some e → Fits (points + ids + ids + ids) e
used_fits c points ids i x e known l h =
    fits (points + ids + ids + ids) c (in_block (points + ids + ids) (used_at x.point.kind)) (Some i) e h
    (block_below (used_at x.point.kind) (points + ids + ids) ids (points + ids + ids + ids) known.used (omega arith))
    (some_below (points + ids + ids + ids) i (omega arith))

called_fits : (c : Bool) (points ids i : ℕ) (x : FlowPoint) (e : Edge) → HasIdsBelow ids x → i < points
    → edge_if c (in_block (points + ids) (called_at x.point.kind)) (Some i) ≡ Some e → Fits (points + ids + ids + ids) e
called_fits c points ids i x e known l h =
    fits (points + ids + ids + ids) c (in_block (points + ids) (called_at x.point.kind)) (Some i) e h
    (block_below (called_at x.point.kind) (points + ids) ids (points + ids + ids + ids) (called_below x.point.kind ids known.used) (omega arith))
    (some_below (points + ids + ids + ids) i (omega arith))

future_fits : (points ids nested i : ℕ) (xs : List FlowPoint) (x : FlowPoint) (e : Edge) → HasIdsBelow ids x → i < points → length xs ≡ points
    → SomeIs (future_of_point points ids nested xs i x) e → Fits (points + ids + ids + ids) e
future_fits points ids nested i xs x e known l many (inl h) = used_fits (goes_on nested x) points ids i x e known l h
future_fits points ids nested i xs x e known l many (inr (inl h)) = called_fits (goes_on nested x) points ids i x e known l h
future_fits points ids nested i xs x e known l many (inr (inr (inl h))) = return_fits points ids i x e known l h
future_fits points ids nested i xs x e known l many (inr (inr (inr (inl h)))) = after_fits points ids i xs x e known many h
future_fits points ids nested i xs x e known l many (inr (inr (inr (inr h)))) = absurd h

concrete_fits : (points ids i : ℕ) (xs : List FlowPoint) (x : FlowPoint) (e : Edge) → HasIdsBelow ids x → i < points → length xs ≡ points
    → SomeIs (concrete_of_point points ids xs i x) e → Fits (points + ids + ids + ids) e
concrete_fits points ids i xs x e known l many (inl h) = used_fits true points ids i x e known l h
concrete_fits points ids i xs x e known l many (inr (inl h)) = cc
concrete_fits points ids i xs x e known l many (inr (inr (inl h))) = return_fits points ids i x e known l h
concrete_fits points ids i xs x e known l many (inr (inr (inr (inl h)))) = after_fits points ids i xs x e known many h
concrete_fits points ids i xs x e known l many (inr (inr (inr (inr h)))) = absurd h

point_fits : (system : System) (points ids nested i : ℕ) (xs : List FlowPoint) (x : FlowPoint) (e : Edge)
    → HasIdsBelow ids x → i < points → length xs ≡ points
    → SomeIs (of_point system points ids nested xs i x) e → Fits (node_count system points ids) e
point_fits Standard points ids nested i xs x e known l many h = standard_fits points ids x e known h
point_fits Nested points ids nested i xs x e known l many h = nested_fits ids x e known h
point_fits Prior points ids nested i xs x e known l many h = prior_fits points ids nested i x e known l h
point_fits Future points ids nested i xs x e known l many h = future_fits points ids nested i xs x e known l many h
point_fits Concrete points ids nested i xs x e known l many h = concrete_fits points ids i xs x e known l many h

-- those of a way
back_fits : (points ids : ℕ) (c : Bool) (w : Way) (e : Edge) → w.from < points → w.to < points
    → SomeIs (back_of_way c w) e → Fits (points + ids + ids + ids) e
back_fits points ids c w e l r (inl h) =
    fits (points + ids + ids + ids) c (Some w.to) (Some w.from) e h
    (some_below (points + ids + ids + ids) w.to (omega arith)) (some_below (points + ids + ids + ids) w.from (omega arith))
back_fits points ids c w e l r (inr (inl h)) = cc
back_fits points ids c w e l r (inr (inr (inl h))) = cc
back_fits points ids c w e l r (inr (inr (inr h))) = absurd h

prior_way_fits : (points ids nested : ℕ) (w : Way) (a b : FlowPoint) (e : Edge) → HasIdsBelow ids a → w.from < points → w.to < points
    → SomeIs (prior_of_way points ids nested w a b) e → Fits (points + ids + ids + ids) e
prior_way_fits points ids nested w a b e known l r (inl h) =
    fits (points + ids + ids + ids) (is_inside nested b) (Some w.from) (Some w.to) e h
    (some_below (points + ids + ids + ids) w.from (omega arith)) (some_below (points + ids + ids + ids) w.to (omega arith))
prior_way_fits points ids nested w a b e known l r (inr (inl h)) = used_fits (is_inside nested b) points ids w.to a e known r h
prior_way_fits points ids nested w a b e known l r (inr (inr (inl h))) = called_fits (is_inside nested b) points ids w.to a e known r h
prior_way_fits points ids nested w a b e known l r (inr (inr (inr h))) = absurd h

none_fits : (n : ℕ) (e : Edge) → SomeIs (None ∷ None ∷ None ∷ []) e → Fits n e
none_fits n e (inl h) = cc
none_fits n e (inr (inl h)) = cc
none_fits n e (inr (inr (inl h))) = cc
none_fits n e (inr (inr (inr h))) = absurd h

way_fits : (system : System) (points ids nested : ℕ) (w : Way) (a b : FlowPoint) (e : Edge)
    → HasIdsBelow ids a → w.from < points → w.to < points
    → SomeIs (between system points ids nested w a b) e → Fits (node_count system points ids) e
way_fits Standard points ids nested w a b e known l r h = none_fits (points + ids + ids + ids) e h
way_fits Nested points ids nested w a b e known l r h = none_fits (ids + 1) e h
way_fits Prior points ids nested w a b e known l r h = prior_way_fits points ids nested w a b e known l r h
way_fits Future points ids nested w a b e known l r h = back_fits points ids (goes_on nested a) w e l r h
way_fits Concrete points ids nested w a b e known l r h = back_fits points ids true w e l r h

edge_fits : (system : System) (points ids nested : ℕ) (flow : Contents) (e : Edge) → Numbers points ids flow
    → OfPoint system points ids nested flow e ⊎ OfWay system points ids nested flow e → Fits (node_count system points ids) e
edge_fits system points ids nested flow e numbers (inl y) =
    let l : y.place < length flow.points = slice_get_within flow.points y.place y.point y.at in
    let many : length flow.points ≡ points = numbers.many in
    point_fits system points ids nested y.place flow.points y.point e (known_at flow.points ids y.place y.point y.at numbers.known)
    (omega arith) many y.is
edge_fits system points ids nested flow e numbers (inr y) =
    let l : y.way.from < length flow.points = slice_get_within flow.points y.way.from y.from y.at_from in
    let r : y.way.to < length flow.points = slice_get_within flow.points y.way.to y.to y.at_to in
    let many : length flow.points ≡ points = numbers.many in
    way_fits system points ids nested y.way y.from y.to e (known_at flow.points ids y.way.from y.from y.at_from numbers.known)
    (omega arith) (omega arith) y.is

pub edges_fit : (system : System) (points ids nested : ℕ) (flow : Contents) → Numbers points ids flow
    → Fit (node_count system points ids) (edges_of system points ids nested flow)
edges_fit system points ids nested flow numbers k d l =
    edge_fits system points ids nested flow (get_or all k d) numbers
    (edges_are system points ids nested flow (get_or all k d) (k, l, get_or_default all k (get_or all k d) d l))
  where
    all : List Edge
    all = edges_of system points ids nested flow
