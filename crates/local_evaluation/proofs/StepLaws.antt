-- A piece means what the pieces mean of which it is made, and weighs more.
use Rattle.std.proofs.Common.{◌≡◌, ℕ, ◌+◌, ◌<◌, List, [], ◌∷◌, ◌++◌, Option, Some, None, refl, arith}
use Rattle.c_semantics.specs.Values.{Value}
use Rattle.c_semantics.specs.Resolved.{Expression, Expressions, Place, Statement, Statements, Constant, Read, Unary, Binary, Convert, And, Or, Choice, Assign, Update, Postfix, Call, Print, New, Free, Create, Join, JoinInto, InitMutex, Lock, Unlock, NoExpressions, ExpressionThen, Local, Global, Element, Field, Block, Empty, Evaluate, Declare, If, IfElse, While, DoWhile, For, Break, Continue, Return, UpdatePoint, Transaction, NoStatements, StatementThen}
use Rattle.c_semantics.specs.Pieces.{Loop, Piece, Scopes, Compute, Arguments, Parts, Do, Sequence, LoopTest, AfterBody}
use Rattle.c_semantics.specs.Evaluation.{local}
use Rattle.local_evaluation.specs.Steps.{expression_pieces, arguments_pieces, place_pieces, statement_pieces, statement_scopes, statements_pieces, loop_test_pieces, after_body_pieces}
use Rattle.local_evaluation.specs.Weights.{of_expression, of_expressions, of_parts, of_option, of_statement, of_statements, weight}

pub expression_law : (e : Expression) (n : ℕ) (rest : List Piece) → local (Compute e n ∷ rest) ≡ local (expression_pieces e n rest)
expression_law (Constant v) n rest = refl
expression_law (Read p) n rest = refl
expression_law (Unary op a) n rest = refl
expression_law (Binary op a b) n rest = refl
expression_law (Convert type a) n rest = refl
expression_law (And a b) n rest = refl
expression_law (Or a b) n rest = refl
expression_law (Choice c a b) n rest = refl
expression_law (Assign p e) n rest = refl
expression_law (Update type op p e) n rest = refl
expression_law (Postfix type op p) n rest = refl
expression_law (Call name es) n rest = refl
expression_law (Print format es) n rest = refl
expression_law (New tag) n rest = refl
expression_law (Free tag e) n rest = refl
expression_law (Create p name e) n rest = refl
expression_law (Join e) n rest = refl
expression_law (JoinInto e p) n rest = refl
expression_law (InitMutex name) n rest = refl
expression_law (Lock name) n rest = refl
expression_law (Unlock name) n rest = refl

pub arguments_law : (es : Expressions) (n : ℕ) (rest : List Piece) → local (Arguments es n ∷ rest) ≡ local (arguments_pieces es n rest)
arguments_law NoExpressions n rest = refl
arguments_law (ExpressionThen e es) n rest = refl

pub place_law : (p : Place) (n : ℕ) (rest : List Piece) → local (Parts p n ∷ rest) ≡ local (place_pieces p n rest)
place_law (Local name) n rest = refl
place_law (Global name) n rest = refl
place_law (Element name index) n rest = refl
place_law (Field tag handle name) n rest = refl

pub statements_law : (ss : Statements) (n : ℕ) (rest : List Piece) → local (Sequence ss n ∷ rest) ≡ local (statements_pieces ss n rest)
statements_law NoStatements n rest = refl
statements_law (StatementThen s ss) n rest = refl

loop_turns : (test step : Option Expression) (body : Statement) (n : ℕ) (rest : List Piece)
    → let l : Loop = record { test = test; step = step; body = body; first = n } in
    local (LoopTest l ∷ rest) ≡ local (loop_test_pieces l test rest)
loop_turns None step body n rest = refl
loop_turns (Some c) step body n rest = refl

loop_steps : (test step : Option Expression) (body : Statement) (n : ℕ) (rest : List Piece)
    → let l : Loop = record { test = test; step = step; body = body; first = n } in
    local (AfterBody l ∷ rest) ≡ local (after_body_pieces l step rest)
loop_steps test None body n rest = refl
loop_steps test (Some e) body n rest = refl

pub loop_test_law : (l : Loop) (rest : List Piece) → local (LoopTest l ∷ rest) ≡ local (loop_test_pieces l l.test rest)
loop_test_law l rest = loop_turns l.test l.step l.body l.first rest

pub after_body_law : (l : Loop) (rest : List Piece) → local (AfterBody l ∷ rest) ≡ local (after_body_pieces l l.step rest)
after_body_law l rest = loop_steps l.test l.step l.body l.first rest

-- a statement that doesn't jump
abbrev pub Jumps : Statement → Type 0
Jumps Break = Unit {0}
Jumps Continue = Unit {0}
Jumps _ = ⊥

pub statement_law : (s : Statement) (n : ℕ) (rest : List Piece) (values : List Value) (scopes : Scopes) → (Jumps s → ⊥)
    → local (Do s n ∷ rest) values scopes ≡ local (statement_pieces s n rest) values (statement_scopes s scopes)
statement_law (Block ss) n rest values scopes h = refl
statement_law Empty n rest values scopes h = refl
statement_law (Evaluate e) n rest values scopes h = refl
statement_law (Declare type name None) n rest values scopes h = refl
statement_law (Declare type name (Some e)) n rest values scopes h = refl
statement_law (If c s) n rest values scopes h = refl
statement_law (IfElse c a b) n rest values scopes h = refl
statement_law (While c s) n rest values scopes h = refl
statement_law (DoWhile s c) n rest values scopes h = refl
statement_law (For first test step s) n rest values scopes h = refl
statement_law Break n rest values scopes h = absurd (h tt)
statement_law Continue n rest values scopes h = absurd (h tt)
statement_law (Return e) n rest values scopes h = refl
statement_law UpdatePoint n rest values scopes h = refl
statement_law (Transaction ss) n rest values scopes h = refl

-- ---- weights

pub expression_falls : (e : Expression) (n : ℕ) (rest : List Piece) → weight (expression_pieces e n rest) < of_expression e + weight rest
expression_falls (Constant v) n rest = omega arith
expression_falls (Read p) n rest = omega arith
expression_falls (Unary op a) n rest = omega arith
expression_falls (Binary op a b) n rest = omega arith
expression_falls (Convert type a) n rest = omega arith
expression_falls (And a b) n rest = omega arith
expression_falls (Or a b) n rest = omega arith
expression_falls (Choice c a b) n rest = omega arith
expression_falls (Assign p e) n rest = omega arith
expression_falls (Update type op p e) n rest = omega arith
expression_falls (Postfix type op p) n rest = omega arith
expression_falls (Call name es) n rest = omega arith
expression_falls (Print format es) n rest = omega arith
expression_falls (New tag) n rest = omega arith
expression_falls (Free tag e) n rest = omega arith
expression_falls (Create p name e) n rest = omega arith
expression_falls (Join e) n rest = omega arith
expression_falls (JoinInto e p) n rest = omega arith
expression_falls (InitMutex name) n rest = omega arith
expression_falls (Lock name) n rest = omega arith
expression_falls (Unlock name) n rest = omega arith

pub arguments_fall : (es : Expressions) (n : ℕ) (rest : List Piece) → weight (arguments_pieces es n rest) < of_expressions es + weight rest
arguments_fall NoExpressions n rest = omega arith
arguments_fall (ExpressionThen e es) n rest = omega arith

pub place_falls : (p : Place) (n : ℕ) (rest : List Piece) → weight (place_pieces p n rest) < of_parts p + weight rest
place_falls (Local name) n rest = omega arith
place_falls (Global name) n rest = omega arith
place_falls (Element name index) n rest = omega arith
place_falls (Field tag handle name) n rest = omega arith

pub statements_fall : (ss : Statements) (n : ℕ) (rest : List Piece) → weight (statements_pieces ss n rest) < of_statements ss + weight rest
statements_fall NoStatements n rest = omega arith
statements_fall (StatementThen s ss) n rest = omega arith

pub loop_test_falls : (l : Loop) (test : Option Expression) (rest : List Piece)
    → weight (loop_test_pieces l test rest) < of_option test + of_statement l.body + of_option l.step + 4 + weight rest
loop_test_falls l None rest = omega arith
loop_test_falls l (Some c) rest = omega arith

pub after_body_falls : (l : Loop) (step : Option Expression) (rest : List Piece)
    → weight (after_body_pieces l step rest) < of_option step + 2 + weight rest
after_body_falls l None rest = omega arith
after_body_falls l (Some e) rest = omega arith

pub statement_falls : (s : Statement) (n : ℕ) (rest : List Piece) → weight (statement_pieces s n rest) < of_statement s + weight rest
statement_falls (Block ss) n rest = omega arith
statement_falls Empty n rest = omega arith
statement_falls (Evaluate e) n rest = omega arith
statement_falls (Declare type name None) n rest = omega arith
statement_falls (Declare type name (Some e)) n rest = omega arith
statement_falls (If c s) n rest = omega arith
statement_falls (IfElse c a b) n rest = omega arith
statement_falls (While c s) n rest = omega arith
statement_falls (DoWhile s c) n rest = omega arith
statement_falls (For first test step s) n rest = omega arith
statement_falls Break n rest = omega arith
statement_falls Continue n rest = omega arith
statement_falls (Return e) n rest = omega arith
statement_falls UpdatePoint n rest = omega arith
statement_falls (Transaction ss) n rest = omega arith

pub weight_append : (ps rest : List Piece) → weight (ps ++ rest) ≡ weight ps + weight rest
weight_append [] rest = omega arith
weight_append (p ∷ ps) rest = let h = weight_append ps rest in omega arith
