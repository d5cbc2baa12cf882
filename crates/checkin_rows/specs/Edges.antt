-- The edges of the system, as lists by the points and ways of a flow. Nodes go by numbers: first the points by their places,
-- as what control goes on from; then the points once more, as what a path ends at; then three blocks with a number for each
-- id: the entries of a function, the entries at which a thread starts, and the points after the calls of a function.
use Rattle.std.specs.Prelude.{ℕ, ◌+◌, ◌==◌, Bool, true, ◌&&◌, not, List, [], ◌∷◌, ◌++◌, Option, Some, None, slice_get, if◌then◌else◌}
use Rattle.std.specs.Option.{is_some, option_to_list}
use Rattle.run_types.specs.Skeleton.{check_in_of}
use Rattle.skeletons.specs.declared.point.PointKind.{PointKind}
use Rattle.skeletons.specs.Meaning.{called_at, kind_of}
use Rattle.effect_flow.specs.declared.flow.FlowPoint.{FlowPoint}
use Rattle.effect_flow.specs.declared.flow.Way.{Way}
use Rattle.effect_flow.specs.Parts.{Contents}
use Rattle.set_constraints.specs.declared.constraint.Edge.{Edge}
use Rattle.contextual_effects.specs.Edges.{is_return, in_block, edge_if, present}
use Rattle.contextual_effects.specs.Parts.{parts}

-- whether a point is a check-in
abbrev pub is_check_in : PointKind → Bool
is_check_in kind = is_some (check_in_of (kind_of [] kind))

-- whether control goes on from a point in its own body
abbrev pub stays : PointKind → Bool
stays kind = not (is_return kind) && not (is_some (called_at kind))

-- the node of the point at a place, to which a path leads: the path ends at a check-in, and goes on from another point
abbrev pub landing : ℕ → ℕ → FlowPoint → ℕ
landing points i x = if is_check_in x.point.kind then points + i else i

-- that of the point at a place where a body goes on
abbrev pub landing_after : ℕ → ℕ → Option FlowPoint → Option ℕ
landing_after points i (Some x) = if x.number == 0 then None else Some (landing points i x)
landing_after points i None = None

-- the edges of a point, which is at place i
abbrev pub of_point : ℕ → ℕ → List FlowPoint → ℕ → FlowPoint → List (Option Edge)
of_point points ids xs i x =
    edge_if true (in_block (points + points) (called_at x.point.kind)) (Some i)
    ∷ edge_if (x.number == 0) (Some (landing points i x)) (in_block (points + points) (Some x.function))
    ∷ edge_if (is_return x.point.kind) (in_block (points + points + ids + ids) (Some x.function)) (Some i)
    ∷ edge_if true (landing_after points (i + 1) (slice_get xs (i + 1))) (in_block (points + points + ids + ids) (called_at x.point.kind))
    ∷ edge_if (x.number == 0) (Some (points + i)) (in_block (points + points + ids) (Some x.function))
    ∷ []

-- the edge of a way between points a and b
abbrev pub of_way : ℕ → Way → FlowPoint → FlowPoint → Option Edge
of_way points w a b = edge_if (stays a.point.kind) (Some (landing points w.to b)) (Some w.from)

-- a way whose ends are no points has none
abbrev pub of_ends : ℕ → Way → Option FlowPoint → Option FlowPoint → Option Edge
of_ends points w (Some a) (Some b) = of_way points w a b
of_ends points w (Some a) None = None
of_ends points w None b = None

-- the edges of all points, those of all ways, and both
abbrev pub edges_of_points : ℕ → ℕ → List FlowPoint → List FlowPoint → List Edge
edges_of_points points ids xs some = parts (λ i x. present (of_point points ids xs i x)) 0 some

abbrev pub edges_of_ways : ℕ → List FlowPoint → List Way → List Edge
edges_of_ways points xs ways = parts (λ i w. option_to_list (of_ends points w (slice_get xs w.from) (slice_get xs w.to))) 0 ways

abbrev pub edges_of : ℕ → ℕ → Contents → List Edge
edges_of points ids flow = edges_of_points points ids flow.points flow.points ++ edges_of_ways points flow.points flow.ways

-- how many nodes there are: points twice, and three blocks of ids
abbrev pub node_count : ℕ → ℕ → ℕ
node_count points ids = points + points + (ids + ids + ids)
