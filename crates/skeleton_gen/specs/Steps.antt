-- The steps of an expression, and what they mean.
use Rattle.std.specs.Prelude.{ℕ, ◌+◌, List, [], ◌∷◌, ◌++◌, length}
use Rattle.run_types.specs.Skeleton.{PointKind}
use Rattle.c_semantics.specs.Points.{of_expression, of_expressions}
use Rattle.c_semantics.specs.Skeletons.{Part, either, pass, point, expression, expressions}
use Rattle.resolved_tree.specs.declared.node.Place.{Place}
use Rattle.resolved_tree.specs.declared.node.Place.TheVariants.{Local, Global, Element, Field}
use Rattle.resolved_tree.specs.declared.node.ExpressionNode.{ExpressionNode}
use Rattle.resolved_tree.specs.declared.node.ExpressionNode.TheVariants.{Constant, Read, Unary, Binary, Convert, And, Or, Choice, Assign, Update, Postfix, Call, Print, New, Free, Create, Join, JoinInto, InitMutex, Lock, Unlock}
use Rattle.resolved_tree.specs.Nodes.{Table, expression_at, arguments_at}
use Rattle.skeletons.specs.declared.point.CheckInKind.TheVariants as check_in
use Rattle.skeletons.specs.declared.point.Use.TheVariants as action
use Rattle.skeleton_gen.specs.declared.spot.SpotKind.TheVariants as spot
use Rattle.skeleton_gen.specs.declared.step.Step.{Step}
use Rattle.skeleton_gen.specs.declared.step.Step.TheVariants.{Nothing, Evaluate, Arguments, At, Maybe, MaybeNot, Either}
use Rattle.skeleton_gen.specs.declared.step.Steps.{Steps}
use Rattle.skeleton_gen.specs.Adding.{in_order}
use Rattle.skeleton_gen.specs.Drawn.{kind_of}
use Rattle.skeleton_gen.specs.Weights as weight

-- the parts, the read and the write of a place
abbrev pub parts_step : Place → Step
parts_step (Local name) = Nothing
parts_step (Global name) = Nothing
parts_step (Element name index) = Evaluate index
parts_step (Field tag handle name) = Evaluate handle

abbrev pub read_step : Place → Step
read_step (Local name) = Nothing
read_step (Global name) = At (spot.Uses action.ReadGlobal name)
read_step (Element name index) = At (spot.Uses action.ReadElement name)
read_step (Field tag handle name) = At (spot.UsesStruct action.ReadField tag)

abbrev pub write_step : Place → Step
write_step (Local name) = Nothing
write_step (Global name) = At (spot.Uses action.WriteGlobal name)
write_step (Element name index) = At (spot.Uses action.WriteElement name)
write_step (Field tag handle name) = At (spot.UsesStruct action.WriteField tag)

-- one step, two, three, four
abbrev pub four_steps : Step → Step → Step → Step → Steps
four_steps a b c d = record { first = a; second = b; third = c; fourth = d }

abbrev pub three_steps : Step → Step → Step → Steps
three_steps = four_steps Nothing

abbrev pub two_steps : Step → Step → Steps
two_steps = three_steps Nothing

abbrev pub one_step : Step → Steps
one_step = two_steps Nothing

-- the steps of an expression
abbrev pub steps_of : ExpressionNode → Steps
steps_of (Constant n) = one_step Nothing
steps_of (Read p) = two_steps (parts_step p) (read_step p)
steps_of (Unary op a) = one_step (Evaluate a)
steps_of (Binary op a b) = two_steps (Evaluate a) (Evaluate b)
steps_of (Convert type a) = one_step (Evaluate a)
steps_of (And a b) = two_steps (Evaluate a) (Maybe b)
steps_of (Or a b) = two_steps (Evaluate a) (MaybeNot b)
steps_of (Choice c a b) = two_steps (Evaluate c) (Either a b)
steps_of (Assign p e) = three_steps (parts_step p) (Evaluate e) (write_step p)
steps_of (Update type op p e) = four_steps (parts_step p) (read_step p) (Evaluate e) (write_step p)
steps_of (Postfix type op p) = three_steps (parts_step p) (read_step p) (write_step p)
steps_of (Call name es) =
    three_steps (Arguments es) (At (spot.Uses action.Call name)) (At (spot.CheckIn check_in.Call))
steps_of (Print format es) = two_steps (Arguments es) (At spot.Print)
steps_of (New tag) = one_step (At (spot.UsesStruct action.New tag))
steps_of (Free tag e) = two_steps (Evaluate e) (At (spot.UsesStruct action.Free tag))
steps_of (Create p name e) =
    four_steps (parts_step p) (Evaluate e) (At (spot.Uses action.Spawn name)) (write_step p)
steps_of (Join e) = two_steps (Evaluate e) (At spot.Join)
steps_of (JoinInto e p) = four_steps (Evaluate e) (parts_step p) (At spot.Join) (write_step p)
steps_of (InitMutex name) = one_step (At (spot.Uses action.InitMutex name))
steps_of (Lock name) = one_step (At (spot.Uses action.Lock name))
steps_of (Unlock name) = one_step (At (spot.Uses action.Unlock name))

-- the points of a step
abbrev pub step_kinds : Table → Step → List PointKind
step_kinds t Nothing = []
step_kinds t (Evaluate e) = of_expression (expression_at t e)
step_kinds t (Arguments es) = of_expressions (arguments_at t es)
step_kinds t (At kind) = kind_of t kind ∷ []
step_kinds t (Maybe b) = of_expression (expression_at t b)
step_kinds t (MaybeNot b) = of_expression (expression_at t b)
step_kinds t (Either a b) = of_expression (expression_at t a) ++ of_expression (expression_at t b)

-- the flow of a step whose first point is n
abbrev pub step_part : Table → Step → ℕ → Part
step_part t Nothing n = pass
step_part t (Evaluate e) n = expression (expression_at t e) n
step_part t (Arguments es) n = expressions (arguments_at t es) n
step_part t (At kind) n = point n
step_part t (Maybe b) n = either (expression (expression_at t b) n) pass
step_part t (MaybeNot b) n = either pass (expression (expression_at t b) n)
step_part t (Either a b) n =
    either (expression (expression_at t a) n)
    (expression (expression_at t b) (n + length (of_expression (expression_at t a))))

-- the weight of a step
abbrev pub step_weight : Table → Step → ℕ
step_weight t Nothing = 0
step_weight t (Evaluate e) = weight.of_expression (expression_at t e)
step_weight t (Arguments es) = weight.of_expressions (arguments_at t es)
step_weight t (At kind) = 0
step_weight t (Maybe b) = weight.of_expression (expression_at t b)
step_weight t (MaybeNot b) = weight.of_expression (expression_at t b)
step_weight t (Either a b) = weight.of_expression (expression_at t a) + weight.of_expression (expression_at t b)

-- those of all steps in order
abbrev pub steps_kinds : Table → Steps → List PointKind
steps_kinds t s = step_kinds t s.first ++ (step_kinds t s.second ++ (step_kinds t s.third ++ step_kinds t s.fourth))

abbrev pub steps_part : Table → Steps → ℕ → Part
steps_part t s =
    in_order (step_kinds t s.first) (step_part t s.first) (in_order (step_kinds t s.second) (step_part t s.second)
    (in_order (step_kinds t s.third) (step_part t s.third) (step_part t s.fourth)))

abbrev pub steps_weight : Table → Steps → ℕ
steps_weight t s = step_weight t s.first + step_weight t s.second + step_weight t s.third + step_weight t s.fourth
