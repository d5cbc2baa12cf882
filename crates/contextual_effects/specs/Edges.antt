-- The edges of each system, as lists by the points and ways of a flow. Nodes go by numbers: first the points by their
-- places, then three blocks with a number for each id: the calls of a function, a function as a whole, and a name. In the
-- system for nested functions a function has its id, and the transactions have the number after these.
use Rattle.std.specs.Prelude.{ℕ, ◌+◌, ◌==◌, nat_lt, Bool, true, false, ◌&&◌, ◌||◌, not, List, [], ◌∷◌, ◌++◌, Option, Some, None, option_map, slice_get}
use Rattle.std.specs.Option.{option_to_list}
use Rattle.std.specs.Int.{bit_at}
use Rattle.skeletons.specs.declared.point.PointKind.{PointKind}
use Rattle.skeletons.specs.declared.point.PointKind.TheVariants.{Return, End}
use Rattle.skeletons.specs.Meaning.{used_at, called_at}
use Rattle.effect_flow.specs.declared.flow.FlowPoint.{FlowPoint}
use Rattle.effect_flow.specs.declared.flow.Way.{Way}
use Rattle.effect_flow.specs.Parts.{Contents}
use Rattle.set_constraints.specs.declared.constraint.Edge.{Edge}
use Rattle.contextual_effects.specs.declared.constraints.System.{System}
use Rattle.contextual_effects.specs.declared.constraints.System.TheVariants as of
use Rattle.contextual_effects.specs.Parts.{parts}

-- a set holds an id
abbrev pub has : ℕ → ℕ → Bool
has set id = bit_at set id == 1

abbrev pub is_return : PointKind → Bool
is_return Return = true
is_return _ = false

abbrev pub is_end : PointKind → Bool
is_end End = true
is_end _ = false

-- a transaction encloses the point, in the text or at a call of its function
abbrev pub is_inside : ℕ → FlowPoint → Bool
is_inside nested x = nat_lt 0 x.point.depth || has nested x.function

-- the point isn't the end of an outermost transaction
abbrev pub goes_on : ℕ → FlowPoint → Bool
goes_on nested x = not (is_end x.point.kind && x.point.depth == 1) || has nested x.function

-- the point is the entry of a nested function
abbrev pub enters : ℕ → FlowPoint → Bool
enters nested x = x.number == 0 && has nested x.function

-- the point is one of a body, and not its entry
abbrev pub continues : Option FlowPoint → Bool
continues (Some x) = not (x.number == 0)
continues None = false

-- the number of an id in the block that begins at a number
abbrev pub in_block : ℕ → Option ℕ → Option ℕ
in_block start id = option_map (λ f. start + f) id

-- an edge between two numbers, if both are there and a condition holds
abbrev pub edge_of : Option ℕ → Option ℕ → Option Edge
edge_of (Some a) (Some b) = Some (record { from = a; to = b })
edge_of (Some a) None = None
edge_of None b = None

abbrev pub edge_if : Bool → Option ℕ → Option ℕ → Option Edge
edge_if true a b = edge_of a b
edge_if false a b = None

-- the edges that are there
abbrev pub present : List (Option Edge) → List Edge
present [] = []
present (e ∷ es) = option_to_list e ++ present es

-- those of a point, which is at place i
abbrev pub standard_of_point : ℕ → ℕ → FlowPoint → List (Option Edge)
standard_of_point points ids x =
    edge_if true (in_block (points + ids + ids) (used_at x.point.kind)) (in_block (points + ids) (Some x.function))
    ∷ edge_if true (in_block (points + ids) (called_at x.point.kind)) (in_block (points + ids) (Some x.function))
    ∷ None
    ∷ None
    ∷ []

abbrev pub nested_of_point : ℕ → FlowPoint → List (Option Edge)
nested_of_point ids x =
    edge_if true (in_block 0 (Some x.function)) (in_block 0 (called_at x.point.kind))
    ∷ edge_if (nat_lt 0 x.point.depth) (Some ids) (in_block 0 (called_at x.point.kind))
    ∷ None
    ∷ None
    ∷ []

abbrev pub prior_of_point : ℕ → ℕ → ℕ → ℕ → FlowPoint → List (Option Edge)
prior_of_point points ids nested i x =
    edge_if (enters nested x) (in_block (points + ids + ids) (Some x.function)) (Some i)
    ∷ edge_if (enters nested x) (in_block points (Some x.function)) (Some i)
    ∷ edge_if (is_inside nested x) (Some i) (in_block points (called_at x.point.kind))
    ∷ None
    ∷ []

abbrev pub future_of_point : ℕ → ℕ → ℕ → List FlowPoint → ℕ → FlowPoint → List (Option Edge)
future_of_point points ids nested xs i x =
    edge_if (goes_on nested x) (in_block (points + ids + ids) (used_at x.point.kind)) (Some i)
    ∷ edge_if (goes_on nested x) (in_block (points + ids) (called_at x.point.kind)) (Some i)
    ∷ edge_if (is_return x.point.kind) (in_block points (Some x.function)) (Some i)
    ∷ edge_if (continues (slice_get xs (i + 1))) (Some (i + 1)) (in_block points (called_at x.point.kind))
    ∷ []

abbrev pub concrete_of_point : ℕ → ℕ → List FlowPoint → ℕ → FlowPoint → List (Option Edge)
concrete_of_point points ids xs i x =
    edge_if true (in_block (points + ids + ids) (used_at x.point.kind)) (Some i)
    ∷ None
    ∷ edge_if (is_return x.point.kind) (in_block points (Some x.function)) (Some i)
    ∷ edge_if (continues (slice_get xs (i + 1))) (Some (i + 1)) (in_block points (called_at x.point.kind))
    ∷ []

abbrev pub of_point : System → ℕ → ℕ → ℕ → List FlowPoint → ℕ → FlowPoint → List (Option Edge)
of_point of.Standard points ids nested xs i x = standard_of_point points ids x
of_point of.Nested points ids nested xs i x = nested_of_point ids x
of_point of.Prior points ids nested xs i x = prior_of_point points ids nested i x
of_point of.Future points ids nested xs i x = future_of_point points ids nested xs i x
of_point of.Concrete points ids nested xs i x = concrete_of_point points ids xs i x

-- those of a way from point a to point b
abbrev pub prior_of_way : ℕ → ℕ → ℕ → Way → FlowPoint → FlowPoint → List (Option Edge)
prior_of_way points ids nested w a b =
    edge_if (is_inside nested b) (Some w.from) (Some w.to)
    ∷ edge_if (is_inside nested b) (in_block (points + ids + ids) (used_at a.point.kind)) (Some w.to)
    ∷ edge_if (is_inside nested b) (in_block (points + ids) (called_at a.point.kind)) (Some w.to)
    ∷ []

abbrev pub back_of_way : Bool → Way → List (Option Edge)
back_of_way goes w = edge_if goes (Some w.to) (Some w.from) ∷ None ∷ None ∷ []

abbrev pub between : System → ℕ → ℕ → ℕ → Way → FlowPoint → FlowPoint → List (Option Edge)
between of.Standard points ids nested w a b = None ∷ None ∷ None ∷ []
between of.Nested points ids nested w a b = None ∷ None ∷ None ∷ []
between of.Prior points ids nested w a b = prior_of_way points ids nested w a b
between of.Future points ids nested w a b = back_of_way (goes_on nested a) w
between of.Concrete points ids nested w a b = back_of_way true w

-- a way whose ends are no points has none
abbrev pub if_ends : (FlowPoint → FlowPoint → List (Option Edge)) → Option FlowPoint → Option FlowPoint → List (Option Edge)
if_ends make (Some a) (Some b) = make a b
if_ends make (Some a) None = None ∷ None ∷ None ∷ []
if_ends make None b = None ∷ None ∷ None ∷ []

abbrev pub of_way : System → ℕ → ℕ → ℕ → List FlowPoint → Way → List (Option Edge)
of_way system points ids nested xs w = if_ends (between system points ids nested w) (slice_get xs w.from) (slice_get xs w.to)

-- the edges of all points, those of all ways, and both
abbrev pub edges_of_points : System → ℕ → ℕ → ℕ → List FlowPoint → List FlowPoint → List Edge
edges_of_points system points ids nested xs some = parts (λ i x. present (of_point system points ids nested xs i x)) 0 some

abbrev pub edges_of_ways : System → ℕ → ℕ → ℕ → List FlowPoint → List Way → List Edge
edges_of_ways system points ids nested xs ways = parts (λ i w. present (of_way system points ids nested xs w)) 0 ways

abbrev pub edges_of : System → ℕ → ℕ → ℕ → Contents → List Edge
edges_of system points ids nested flow =
    edges_of_points system points ids nested flow.points flow.points ++ edges_of_ways system points ids nested flow.points flow.ways

-- how many nodes a system has
abbrev pub node_count : System → ℕ → ℕ → ℕ
node_count of.Standard points ids = points + ids + ids + ids
node_count of.Nested points ids = ids + 1
node_count of.Prior points ids = points + ids + ids + ids
node_count of.Future points ids = points + ids + ids + ids
node_count of.Concrete points ids = points + ids + ids + ids
