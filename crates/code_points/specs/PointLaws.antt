-- What ties the points of code to those of the tree of which it was made.
use Rattle.std.specs.Prelude.{◌≡◌, ℕ, false, List}
use Rattle.run_types.specs.Skeleton.{Leads}
use Rattle.c_tree.specs.BareExpr.{BareType}
use Rattle.c_tree.specs.BareDef.{BareBinding}
use Rattle.c_semantics.specs.Texts.{Definitions}
use Rattle.c_semantics.specs.Resolved.{Statements}
use Rattle.c_semantics.specs.Points.{of_body}
use Rattle.c_semantics.specs.Skeletons.{skeleton}
use Rattle.typed_trees.specs.StatementTypes.{some_jump}
use Rattle.bytecode.specs.Meaning.{State, Runs}
use Rattle.tree_code.specs.Code.{Code, body_code}
use Rattle.code_points.specs.CodePoints.{points_from, Numbered}
use Rattle.code_points.specs.CodeWays.{CodeLeads, Ways}

-- a function's code has the points of its tree, in order
abbrev pub CodeHasPointsOfTree : Type 0
CodeHasPointsOfTree =
    (look : Definitions) (parameters : List BareBinding) (result : BareType) (body : Statements)
    → points_from 0 (body_code look parameters result body) ≡ of_body body

-- and they are numbered from its entry on
abbrev pub PointsAreNumbered : Type 0
PointsAreNumbered =
    (look : Definitions) (parameters : List BareBinding) (result : BareType) (body : Statements)
    → Numbered 0 (body_code look parameters result body)

-- where no `break` or `continue` leads out of a body, as in each body that types, control may go from one point of its
-- code to another exactly where the skeleton says so
abbrev pub CodeGoesAlongSkeleton : Type 0
CodeGoesAlongSkeleton =
    (look : Definitions) (parameters : List BareBinding) (result : BareType) (body : Statements) (a b : ℕ)
    → some_jump body ≡ false
    → (CodeLeads (body_code look parameters result body) a b → Leads (skeleton body) a b)
    × (Leads (skeleton body) a b → CodeLeads (body_code look parameters result body) a b)

-- where private instructions come from one state of code to another, what comes next in the second comes next in the first
abbrev pub StepsGoAlongWays : Type 0
StepsGoAlongWays = (code : Code) (s t : State) (n : ℕ) → Runs code s t → Ways code t.place n → Ways code s.place n
