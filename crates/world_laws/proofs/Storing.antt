-- What the pieces of a frame have to say of values: what goes into a global variable or an element of an array is of its declared
-- type, and what a function returns is of the type of its result.
use Rattle.std.proofs.Common.{◌≡◌, Bool, true, false, List, [], ◌∷◌, Option, Some, None}
use Rattle.c_ints.specs.Number.{kind_of}
use Rattle.c_tree.specs.BareExpr.{BareType, Integer, Thread}
use Rattle.c_tree.specs.BareDef.{BareDef, Global, Array}
use Rattle.c_semantics.specs.Texts.{Definitions, int, global_type, result_type}
use Rattle.c_semantics.specs.Values.{Value}
use Rattle.c_semantics.specs.Resolved.{Expression, Expressions, Place, Statement, Statements}
use Rattle.c_semantics.specs.Resolved as made
use Rattle.c_semantics.specs.Stops.{Stop}
use Rattle.c_semantics.specs.Stops as stop
use Rattle.c_semantics.specs.Pieces.{Piece, Loop, Halt, Compute, Arguments, Parts, Get, Set, ConvertTo, Push, AndThen, OrElse, Choose, Then, ThenElse, Turn, Repeat, Do, Sequence, LoopTest, AfterBody, BackEdge, Until, At, Stopped, Trapped, Nothing}
use Rattle.patch_faults.specs.TransformLaws.{has_type}
use Rattle.source_model.specs.Installs.{is_mutex}

-- a global variable that is no array, and an array
abbrev pub is_variable : Option BareDef → Bool
is_variable (Some (Global d)) = true
is_variable _ = false

abbrev pub is_array : Option BareDef → Bool
is_array (Some (Array type name n values)) = true
is_array _ = false

-- the newest value is of a type, where one is asked
abbrev pub Newest : Option BareType → List Value → Type 0
Newest None values = Unit {0}
Newest (Some t) [] = Unit {0}
Newest (Some t) (v ∷ values) = has_type t v ≡ true

-- a type that is given serves where one is asked
abbrev pub Serves : Option BareType → Option BareType → Type 0
Serves given None = Unit {0}
Serves given (Some t) = given ≡ Some t

-- the type that each value of an expression has, where its form says so
abbrev pub given : Expression → Option BareType
given (made.Constant n) = Some (Integer (kind_of n))
given (made.Convert type e) = Some type
given _ = None

-- the type of the value that a stop leaves, where it says so
abbrev pub given_at : Stop → Option BareType
given_at (stop.Spawn name) = Some Thread
given_at stop.Join = Some int
given_at _ = None

module _ (look : Definitions) where
  -- the declared type of a place that threads share
  abbrev pub shared_type : Place → Option BareType
  shared_type (made.Local name) = None
  shared_type (made.Global name) = Some (global_type (look name))
  shared_type (made.Element name index) = Some (global_type (look name))
  shared_type (made.Field tag handle name) = None

  -- it is declared as what it is
  abbrev pub IsDeclared : Place → Type 0
  IsDeclared (made.Local name) = Unit {0}
  IsDeclared (made.Global name) = is_variable (look name) ≡ true
  IsDeclared (made.Element name index) = is_array (look name) ≡ true
  IsDeclared (made.Field tag handle name) = Unit {0}

  -- a place can be written with a value of a type
  abbrev pub Takes : Place → Option BareType → Type 0
  Takes p type = IsDeclared p × Serves type (shared_type p)

  abbrev mutual
    pub Stores : Expression → Type 0
    Stores (made.Constant n) = Unit {0}
    Stores (made.Read p) = PartsStore p
    Stores (made.Unary op a) = Stores a
    Stores (made.Binary op a b) = Stores a × Stores b
    Stores (made.Convert type a) = Stores a
    Stores (made.And a b) = Stores a × Stores b
    Stores (made.Or a b) = Stores a × Stores b
    Stores (made.Choice c a b) = Stores c × Stores a × Stores b
    Stores (made.Assign p e) = Takes p (given e) × PartsStore p × Stores e
    Stores (made.Update type op p e) = Takes p (Some type) × PartsStore p × Stores e
    Stores (made.Postfix type op p) = Takes p (Some type) × PartsStore p
    Stores (made.Call name arguments) = AllStore arguments
    Stores (made.Print format arguments) = AllStore arguments
    Stores (made.New tag) = Unit {0}
    Stores (made.Free tag e) = Stores e
    Stores (made.Create p name e) = Takes p (Some Thread) × (result_type (look name) ≡ int) × PartsStore p × Stores e
    Stores (made.Join e) = Stores e
    Stores (made.JoinInto e p) = Takes p (Some int) × Stores e × PartsStore p
    Stores (made.InitMutex name) = Unit {0}
    Stores (made.Lock name) = is_mutex (look name) ≡ true
    Stores (made.Unlock name) = Unit {0}

    pub AllStore : Expressions → Type 0
    AllStore made.NoExpressions = Unit {0}
    AllStore (made.ExpressionThen e es) = Stores e × AllStore es

    pub PartsStore : Place → Type 0
    PartsStore (made.Local name) = Unit {0}
    PartsStore (made.Global name) = Unit {0}
    PartsStore (made.Element name index) = Stores index
    PartsStore (made.Field tag handle name) = Stores handle

  abbrev pub IfStores : Option Expression → Type 0
  IfStores None = Unit {0}
  IfStores (Some e) = Stores e

  -- what a stop asks of names: what it writes, locks and spawns is declared so
  abbrev pub StopFits : Stop → Type 0
  StopFits (stop.WriteGlobal name) = is_variable (look name) ≡ true
  StopFits (stop.WriteElement name) = is_array (look name) ≡ true
  StopFits (stop.Lock name) = is_mutex (look name) ≡ true
  StopFits (stop.Spawn name) = result_type (look name) ≡ int
  StopFits _ = Unit {0}

  module _ (result : BareType) where
    abbrev mutual
      pub StmtStores : Statement → Type 0
      StmtStores (made.Block ss) = StmtsStore ss
      StmtStores made.Empty = Unit {0}
      StmtStores (made.Evaluate e) = Stores e
      StmtStores (made.Declare type name e) = IfStores e
      StmtStores (made.If c s) = Stores c × StmtStores s
      StmtStores (made.IfElse c s t) = Stores c × StmtStores s × StmtStores t
      StmtStores (made.While c s) = Stores c × StmtStores s
      StmtStores (made.DoWhile s c) = StmtStores s × Stores c
      StmtStores (made.For first test step s) = StmtsStore first × IfStores test × IfStores step × StmtStores s
      StmtStores made.Break = Unit {0}
      StmtStores made.Continue = Unit {0}
      StmtStores (made.Return e) = Serves (given e) (Some result) × Stores e
      StmtStores made.UpdatePoint = Unit {0}
      StmtStores (made.Transaction ss) = StmtsStore ss

      pub StmtsStore : Statements → Type 0
      StmtsStore made.NoStatements = Unit {0}
      StmtsStore (made.StatementThen s ss) = StmtStores s × StmtsStore ss

    abbrev pub LoopStores : Loop → Type 0
    LoopStores l = IfStores l.test × IfStores l.step × StmtStores l.body

    -- the type that a stop asks of the newest value
    abbrev pub asked_at : Stop → Option BareType
    asked_at (stop.WriteGlobal name) = Some (global_type (look name))
    asked_at (stop.WriteElement name) = Some (global_type (look name))
    asked_at stop.Return = Some result
    asked_at _ = None

    -- and that pending pieces ask
    abbrev pub asked : List Piece → Option BareType
    asked (Set p n ∷ ps) = shared_type p
    asked (At s n ∷ ps) = asked_at s
    asked _ = None

    -- a piece leaves a value of the type that is asked after it
    abbrev pub Leaves : Piece → Option BareType → Type 0
    Leaves (Compute e n) type = Serves (given e) type
    Leaves (ConvertTo t) type = Serves (Some t) type
    Leaves (Push v) type = Newest type (v ∷ [])
    Leaves (At s n) type = Serves (given_at s) type
    Leaves _ type = Serves None type

    abbrev pub PieceStores : Piece → Type 0
    PieceStores (Compute e n) = Stores e
    PieceStores (Arguments es n) = AllStore es
    PieceStores (Parts p n) = PartsStore p
    PieceStores (Get p n) = Unit {0}
    PieceStores (Set p n) = IsDeclared p
    PieceStores (AndThen e n) = Stores e
    PieceStores (OrElse e n) = Stores e
    PieceStores (Choose a b n) = Stores a × Stores b
    PieceStores (Then s n) = StmtStores s
    PieceStores (ThenElse s t n) = StmtStores s × StmtStores t
    PieceStores (Turn l) = LoopStores l
    PieceStores (Repeat s c n) = StmtStores s × Stores c
    PieceStores (Do s n) = StmtStores s
    PieceStores (Sequence ss n) = StmtsStore ss
    PieceStores (LoopTest l) = LoopStores l
    PieceStores (AfterBody l) = LoopStores l
    PieceStores (BackEdge l) = LoopStores l
    PieceStores (Until s c n) = StmtStores s × Stores c
    PieceStores (At s n) = StopFits s
    PieceStores _ = Unit {0}

    abbrev pub PiecesStore : List Piece → Type 0
    PiecesStore [] = Unit {0}
    PiecesStore (p ∷ ps) = PieceStores p × Leaves p (asked ps) × PiecesStore ps

    -- where local evaluation ends
    abbrev pub HaltStores : Halt → Type 0
    HaltStores (Stopped s n rest values scopes) =
        StopFits s × Newest (asked_at s) values × Serves (given_at s) (asked rest) × PiecesStore rest
    HaltStores (Trapped kind) = Unit {0}
    HaltStores Nothing = Unit {0}
