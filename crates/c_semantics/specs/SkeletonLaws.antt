-- What ties the machine to skeletons: a thread goes through a function's body along the skeleton of the body.
use Rattle.std.specs.Prelude.{◌≡◌, ◌≢◌, ℕ, ◌<◌, IsTrue, List, [], ◌∷◌, Some, length}
use Rattle.run_types.specs.CheckIns.{CheckInKind}
use Rattle.run_types.specs.Skeleton.{Skeleton, Leads, entry, after, reached, kind_at, point_at, check_in_at, check_in_after, depth_after, successors}
use Rattle.c_tree.specs.BareExpr.{BareType}
use Rattle.c_tree.specs.Bare.{bare_function}
use Rattle.c_tree.specs.declared.def.Function.{Function}
use Rattle.c_semantics.specs.Texts.{Definitions}
use Rattle.c_semantics.specs.Values.{Value}
use Rattle.c_semantics.specs.Resolved.{Statements}
use Rattle.c_semantics.specs.Stops.{Stop, Return, kind_of}
use Rattle.c_semantics.specs.Pieces.{Piece, Scopes, Stopped}
use Rattle.c_semantics.specs.Evaluation.{local}
use Rattle.c_semantics.specs.Skeletons.{skeleton, skeleton_of}
use Rattle.c_semantics.specs.Places.{places}
use Rattle.c_semantics.specs.Leaving.{leaves_at_ends}
use Rattle.c_semantics.specs.Threads.{body_pieces}

-- how a frame comes through a body: from its entry by local evaluation to a stop, and so on. With the last point to which
-- the thread came in the frame, how many transactions it began and didn't end there, and what it has still to evaluate.
-- What the stops do to its values and variables is left open; after its return there is no frame.
pub data Comes (body : Statements) (result : BareType) : ℕ → ℕ → List Piece → Type 0 where
  entered : Comes body result entry 0 (body_pieces body result)
  stopped : (a depth : ℕ) (ps : List Piece) (values : List Value) (scopes : Scopes) (s : Stop) (n : ℕ) (rest : List Piece)
      (more : List Value) (others : Scopes)
      → Comes body result a depth ps → s ≢ Return → local ps values scopes ≡ Stopped s n rest more others
      → Comes body result (reached (skeleton body) n) (depth_after (kind_of s) depth) rest

-- a stop at point n of a skeleton, made after point a: control may go from a to n, which is a point of the stop's kind; a
-- check-in follows it in the skeleton exactly where the stop leads to one, and then control goes from n there alone
pub record StopsAt (s : Skeleton) (a : ℕ) (stop : Stop) (n : ℕ) : Type 0 where
  pub leads : Leads s a n
  pub kind : kind_at s n ≡ Some (kind_of stop)
  pub check_in : check_in_at s (after n) ≡ check_in_after (kind_of stop)
  pub passes : (k : CheckInKind) → check_in_after (kind_of stop) ≡ Some k → successors s n ≡ after n ∷ []

-- a thread goes along the skeleton of the body that its frame has entered
abbrev pub GoesAlong : Type 0
GoesAlong =
    (body : Statements) (result : BareType) (a depth : ℕ) (ps : List Piece) (values : List Value) (scopes : Scopes)
    (s : Stop) (n : ℕ) (rest : List Piece) (more : List Value) (others : Scopes)
    → Comes body result a depth ps → local ps values scopes ≡ Stopped s n rest more others → StopsAt (skeleton body) a s n

-- where transactions are left at their ends alone, the transactions that a frame is in are those that enclose the point
-- in the text, and a frame returns in none
abbrev pub DepthIsLexical : Type 0
DepthIsLexical =
    (body : Statements) (result : BareType) (a depth : ℕ) (ps : List Piece) (values : List Value) (scopes : Scopes)
    (s : Stop) (n : ℕ) (rest : List Piece) (more : List Value) (others : Scopes)
    → IsTrue (leaves_at_ends body) → Comes body result a depth ps → local ps values scopes ≡ Stopped s n rest more others
    → (point_at (skeleton body) n ≡ Some (record { kind = kind_of s; depth = depth })) × (s ≡ Return → depth ≡ 0)

-- each point of a body has its ways on
abbrev pub EachHasItsWays : Type 0
EachHasItsWays = (body : Statements) → length (skeleton body).next ≡ length (skeleton body).points

-- they are in ascending order, so none is there twice
abbrev pub Ascends : List ℕ → Type 0
Ascends [] = Unit {0}
Ascends (n ∷ []) = Unit {0}
Ascends (n ∷ m ∷ ms) = (n < m) × Ascends (m ∷ ms)

abbrev pub WaysAscend : Type 0
WaysAscend = (body : Statements) (n : ℕ) → Ascends (successors (skeleton body) n)

-- each point of a function has its place in the text
abbrev pub EachHasAPlace : Type 0
EachHasAPlace =
    (look : Definitions) (f : Function)
    → length (places look f) ≡ length (skeleton_of look (Some (bare_function f))).points
