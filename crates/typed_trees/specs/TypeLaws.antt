-- Laws of the types of trees: local evaluation keeps them.
use Rattle.std.specs.Prelude.{List, [], ◌∷◌}
use Rattle.c_tree.specs.BareExpr.{Bytes, BareType}
use Rattle.c_tree.specs.BareDef.{BareBinding}
use Rattle.c_semantics.specs.Texts.{Definitions}
use Rattle.c_semantics.specs.Values.{Value}
use Rattle.c_semantics.specs.Resolved.{Statements}
use Rattle.c_semantics.specs.Pieces.{Piece, Variable, Scopes}
use Rattle.c_semantics.specs.Evaluation.{local}
use Rattle.c_semantics.specs.Threads.{body_pieces}
use Rattle.typed_trees.specs.ValueTypes.{ScopeHas}
use Rattle.typed_trees.specs.StatementTypes.{BodyTyped}
use Rattle.typed_trees.specs.PieceTypes.{GoesOn, EndsWell}

-- pieces that go on well end well
abbrev pub LocalEvaluationKeepsTypes : Type 0
LocalEvaluationKeepsTypes =
    (look : Definitions) (result : BareType) (tags : List Bytes) (ps : List Piece) (values : List Value) (scopes : Scopes)
    → GoesOn look result tags ps values scopes → EndsWell look result tags (local ps values scopes)

-- a function that is entered with arguments of its parameters' types goes on well
abbrev pub BodiesGoOn : Type 0
BodiesGoOn =
    (look : Definitions) (result : BareType) (tags : List Bytes) (parameters : List BareBinding) (body : Statements)
    (arguments : List Variable)
    → BodyTyped look result parameters body → ScopeHas tags parameters arguments
    → GoesOn look result tags (body_pieces body result) [] (arguments ∷ [])
