-- The edges lead between nodes.
use Rattle.std.proofs.Common.{◌≡◌, ℕ, ◌+◌, ◌<◌, ◌≤◌, Bool, true, false, ◌⊎◌, inl, inr, List, ◌++◌, Option, Some, None, length, get_or, ap, ◌∙◌, subst, arith, if◌then◌else◌}
use Rattle.std.specs.Prelude.{IfSome, ◌==◌, replicate, slice_get}
use Rattle.std.proofs.lemmas.List.{get_or_default, length-append, length-replicate}
use Rattle.std.proofs.lemmas.Option.{slice_get_within, same_Some}
use Rattle.skeletons.specs.Meaning.{called_at}
use Rattle.effect_flow.specs.declared.flow.FlowPoint.{FlowPoint}
use Rattle.effect_flow.specs.Parts.{Contents, HasIdsBelow}
use Rattle.set_constraints.specs.declared.constraint.Edge.{Edge}
use Rattle.set_constraints.specs.Constraints.{Fit}
use Rattle.contextual_effects.specs.Edges.{in_block, edge_if, is_return}
use Rattle.contextual_effects.specs.Steps.{Numbers}
use Rattle.contextual_effects.proofs.EdgeLists.{edge_is, SomeIs}
use Rattle.contextual_effects.proofs.Fitting.{called_below, known_at}
use Rattle.checkin_rows.specs.Edges.{is_check_in, stays, landing, landing_after, of_point, edges_of, node_count}
use Rattle.checkin_rows.specs.Steps.{AreSeeds}
use Rattle.checkin_rows.proofs.RowEdges.{OfPoint, OfWay, edges_are}
use Rattle.checkin_rows.proofs.RowSystem.{goes_on_at}

some_below : (n i : ℕ) → i < n → (m : ℕ) → Some i ≡ Some m → m < n
some_below n i l m e = let same : i ≡ m = same_Some i m e in omega arith

block_below : (o : Option ℕ) (start ids n : ℕ) → IfSome o (λ u. u < ids) → start + ids ≤ n → (m : ℕ) → in_block start o ≡ Some m → m < n
block_below None start ids n l le m e = cc
block_below (Some u) start ids n l le m e = let same : start + u ≡ m = same_Some (start + u) m e in omega arith

abbrev Fits : ℕ → Edge → Type 0
Fits n e = (e.from < n) × (e.to < n)

fits : (n : ℕ) (c : Bool) (a b : Option ℕ) (e : Edge) → edge_if c a b ≡ Some e
    → ((m : ℕ) → a ≡ Some m → m < n) → ((m : ℕ) → b ≡ Some m → m < n) → Fits n e
fits n c a b e is from to = let k = edge_is c a b e is in (from e.from k.from, to e.to k.to)

landing_below : (points i n : ℕ) (x : FlowPoint) → i < points → points + points ≤ n → landing points i x < n
landing_below points i n x l le = by (is_check_in x.point.kind)
  where
    by : (b : Bool) → (if b then points + i else i) < n
    by true = omega arith
    by false = omega arith

after_below : (points i n : ℕ) (xs : List FlowPoint) → length xs ≡ points → points + points ≤ n → (m : ℕ)
    → landing_after points i (slice_get xs i) ≡ Some m → m < n
after_below points i n xs many le m e =
    let g = goes_on_at points i m (slice_get xs i) e in
    let l : i < length xs = slice_get_within xs i g.point g.is_point in
    let k : landing points i g.point < n = landing_below points i n g.point (omega arith) le in
    subst (λ m. m < n) g.is k

abbrev nodes : ℕ → ℕ → ℕ
nodes points ids = node_count points ids

point_fits : (points ids : ℕ) (xs : List FlowPoint) (i : ℕ) (x : FlowPoint) (e : Edge) → length xs ≡ points → i < points → HasIdsBelow ids x
    → SomeIs (of_point points ids xs i x) e → Fits (nodes points ids) e
point_fits points ids xs i x e many l known s = by s
  where
    here : (m : ℕ) → Some i ≡ Some m → m < nodes points ids
    here = some_below (nodes points ids) i (omega arith)

    called : (start : ℕ) → start + ids ≤ nodes points ids → (m : ℕ) → in_block start (called_at x.point.kind) ≡ Some m → m < nodes points ids
    called start le = block_below (called_at x.point.kind) start ids (nodes points ids) (called_below x.point.kind ids known.used) le

    own : (start : ℕ) → start + ids ≤ nodes points ids → (m : ℕ) → in_block start (Some x.function) ≡ Some m → m < nodes points ids
    own start le = block_below (Some x.function) start ids (nodes points ids) known.function le

    by : SomeIs (of_point points ids xs i x) e → Fits (nodes points ids) e
    by (inl h) =
        fits (nodes points ids) true (in_block (points + points) (called_at x.point.kind)) (Some i) e h (called (points + points) (omega arith)) here
    by (inr (inl h)) =
        fits (nodes points ids) (x.number == 0) (Some (landing points i x)) (in_block (points + points) (Some x.function)) e h
        (some_below (nodes points ids) (landing points i x) (landing_below points i (nodes points ids) x l (omega arith))) (own (points + points) (omega arith))
    by (inr (inr (inl h))) =
        fits (nodes points ids) (is_return x.point.kind) (in_block (points + points + ids + ids) (Some x.function)) (Some i) e h
        (own (points + points + ids + ids) (omega arith)) here
    by (inr (inr (inr (inl h)))) =
        fits (nodes points ids) true (landing_after points (i + 1) (slice_get xs (i + 1))) (in_block (points + points + ids + ids) (called_at x.point.kind)) e h
        (after_below points (i + 1) (nodes points ids) xs many (omega arith)) (called (points + points + ids + ids) (omega arith))
    by (inr (inr (inr (inr (inl h))))) =
        fits (nodes points ids) (x.number == 0) (Some (points + i)) (in_block (points + points + ids) (Some x.function)) e h
        (some_below (nodes points ids) (points + i) (omega arith)) (own (points + points + ids) (omega arith))
    by (inr (inr (inr (inr (inr h))))) = absurd h

edge_fits : (points ids : ℕ) (flow : Contents) (e : Edge) → Numbers points ids flow
    → OfPoint points ids flow e ⊎ OfWay points flow e → Fits (nodes points ids) e
edge_fits points ids flow e numbers (inl y) =
    let l : y.place < length flow.points = slice_get_within flow.points y.place y.point y.at in
    let many : length flow.points ≡ points = numbers.many in
    point_fits points ids flow.points y.place y.point e many (omega arith) (known_at flow.points ids y.place y.point y.at numbers.known) y.is
edge_fits points ids flow e numbers (inr y) =
    let l : y.way.from < length flow.points = slice_get_within flow.points y.way.from y.from y.at_from in
    let r : y.way.to < length flow.points = slice_get_within flow.points y.way.to y.to y.at_to in
    let many : length flow.points ≡ points = numbers.many in
    fits (nodes points ids) (stays y.from.point.kind) (Some (landing points y.way.to y.to)) (Some y.way.from) e y.is
    (some_below (nodes points ids) (landing points y.way.to y.to) (landing_below points y.way.to (nodes points ids) y.to (omega arith) (omega arith)))
    (some_below (nodes points ids) y.way.from (omega arith))

pub edges_fit : (points ids : ℕ) (flow : Contents) → Numbers points ids flow → Fit (nodes points ids) (edges_of points ids flow)
edges_fit points ids flow numbers k d l =
    edge_fits points ids flow (get_or all k d) numbers
    (edges_are points ids flow (get_or all k d) (k, l, get_or_default all k (get_or all k d) d l))
  where
    all : List Edge
    all = edges_of points ids flow

pub seeds_many : (points ids : ℕ) (own seeds : List ℕ) → AreSeeds points ids own seeds → length seeds ≡ node_count points ids
seeds_many points ids own seeds k =
    let first : length k.first ≡ points = k.are_first.many in
    ap length k.seeds_are
    ∙ length-append (k.first ++ k.first) (replicate (ids + ids + ids) k.empty)
    ∙ omega (arith, length-append k.first k.first, first, length-replicate (ids + ids + ids) k.empty)
