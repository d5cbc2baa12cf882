-- Local evaluation of a statement whose returns convert to int comes to a return with an int.
use Rattle.std.proofs.Common.{◌≡◌, ℕ, zero, suc, ◌+◌, pos, List, [], ◌∷◌, Option, Some, None, refl, sym, subst}
use Rattle.c_ints.specs.declared.kind.Kind.TheVariants.{I32}
use Rattle.c_ints.specs.Number.{value_of}
use Rattle.c_ints.proofs.Reduction.{reduced_range}
use Rattle.c_tree.specs.BareExpr.{BareType}
use Rattle.c_semantics.specs.Texts.{int}
use Rattle.c_semantics.specs.Values.{Value, Number, Reference, Started, converted_to, zero_of}
use Rattle.c_semantics.specs.Resolution.{int_value}
use Rattle.c_semantics.specs.Resolved.{Expression, Statement, Statements, Constant, Convert, Local, Block, Empty, Evaluate, Declare, If, IfElse, While, DoWhile, For, Break, Continue, Return, UpdatePoint, Transaction, NoStatements, StatementThen}
use Rattle.c_semantics.specs.Points.{size, size_stmt, size_stmts}
use Rattle.c_semantics.specs.Stops as stop
use Rattle.c_semantics.specs.Pieces.{Loop, Piece, body_at, step_at, ConvertTo, Set, Drop, Then, ThenElse, Turn, Repeat, Do, Sequence, Close, LoopTest, AfterBody, BackEdge, Until, At}
use Rattle.c_semantics.specs.Evaluation.{Next, Ways, local, ways, stop_at, change, choose, closing, back_edge, stepped, looped, tested, loop_test, repeated, loop_of, declared}
use Rattle.c_semantics.specs.Evaluation as ev
use Rattle.returned_ints.specs.ReturnedInts.{IsInt}
use Rattle.returned_ints.proofs.Returning.{Safe, choose_safe, close_safe, drop_safe, expression, fewer, nothing, stop_safe, write_safe}

-- ---- what is returned

-- a value that a return of an int function gives: it is converted, or it is the int 0
abbrev pub Gives : Expression → Type 0
Gives (Convert type e) = type ≡ int
Gives (Constant n) = n ≡ int_value
Gives _ = ⊥

abbrev mutual
  pub Converts : Statement → Type 0
  Converts (Block ss) = AllConvert ss
  Converts (If c a) = Converts a
  Converts (IfElse c a b) = Converts a × Converts b
  Converts (While c a) = Converts a
  Converts (DoWhile a c) = Converts a
  Converts (For first test step a) = AllConvert first × Converts a
  Converts (Return e) = Gives e
  Converts (Transaction ss) = AllConvert ss
  Converts _ = Unit {0}

  pub AllConvert : Statements → Type 0
  AllConvert NoStatements = Unit {0}
  AllConvert (StatementThen a ss) = Converts a × AllConvert ss

zero_is_int : IsInt (zero_of int)
zero_is_int = (refl, reduced_range I32 (pos 0))

converted_is_int : (v : Value) → IsInt (converted_to int v)
converted_is_int (Number n) = (refl, reduced_range I32 (value_of n))
converted_is_int (Reference o) = zero_is_int
converted_is_int (Started o) = zero_is_int

-- a return of such a value
pub given : (i : ℕ) (v : Value) (n : ℕ) (rest : List Piece) → IsInt v → Safe i (ev.give v (stop_at stop.Return n rest))
given zero v n rest h values scopes = tt
given (suc i) v n rest h values scopes = h

pub zero_given : (i n : ℕ) (rest : List Piece) → Safe i (ev.give (zero_of int) (stop_at stop.Return n rest))
zero_given i n rest = given i (zero_of int) n rest zero_is_int

changed : (i n : ℕ) (rest : List Piece) → Safe i (change (converted_to int) (stop_at stop.Return n rest))
changed i n rest [] scopes = nothing i
changed i n rest (v ∷ values) scopes = given i (converted_to int v) n rest (converted_is_int v) values scopes

returned : (e : Expression) (i n : ℕ) (rest : List Piece) → Gives e → Safe i (ev.statement (Return e) n rest (ways rest))
returned (Convert type e) i n rest is =
    subst {A = BareType} (λ t. Safe i (ev.statement (Return (Convert t e)) n rest (ways rest))) (sym is)
    (expression e i n (ConvertTo int ∷ At stop.Return (n + size e) ∷ rest) (changed i (n + size e) rest))
returned (Constant v) i n rest is =
    subst (λ x. Safe i (ev.statement (Return (Constant x)) n rest (ways rest))) (sym is) (zero_given i (n + size (Constant int_value)) rest)
returned _ i n rest is = absurd is

-- ---- where control goes

pub record SafeWays (i : ℕ) (w : Ways) : Type 0 where
  pub on : Safe i w.on
  pub broken : Safe i w.broken
  pub continued : Safe i w.continued

few : (i : ℕ) (w : Ways) → SafeWays (suc i) w → SafeWays i w
few i w g = record {
  on = λ x y. fewer i (w.on x y) (g.on x y);
  broken = λ x y. fewer i (w.broken x y) (g.broken x y);
  continued = λ x y. fewer i (w.continued x y) (g.continued x y);
}

closed : (i : ℕ) (w : Ways) → SafeWays i w → SafeWays i (closing w)
closed i w g = record {
  on = close_safe i w.on g.on;
  broken = close_safe i w.broken g.broken;
  continued = close_safe i w.continued g.continued;
}

-- ---- loops, by their bodies at any number of stops

step_safe : (l : Loop) (e : Option Expression) (i : ℕ) (rest : List Piece) → Safe i (back_edge l rest) → Safe i (stepped l e rest)
step_safe l None i rest h = h
step_safe l (Some e) i rest h = expression e i (step_at l) (Drop ∷ BackEdge l ∷ rest) (drop_safe i (back_edge l rest) h)

test_safe : (l : Loop) (c : Option Expression) (i : ℕ) (rest : List Piece)
    → Safe i (ev.statement l.body (body_at l) (AfterBody l ∷ rest) (looped l rest (ways rest))) → Safe i (local rest)
    → Safe i (tested l c (ev.statement l.body (body_at l)) rest (ways rest))
test_safe l None i rest h k = h
test_safe l (Some c) i rest h k =
    expression c i l.first (Turn l ∷ rest)
    (choose_safe i (ev.statement l.body (body_at l) (AfterBody l ∷ rest) (looped l rest (ways rest))) (local rest) h k)

loop_safe : (i : ℕ) (l : Loop) (rest : List Piece)
    → ((j : ℕ) → SafeWays j (ways (AfterBody l ∷ rest))
    → Safe j (ev.statement l.body (body_at l) (AfterBody l ∷ rest) (ways (AfterBody l ∷ rest))))
    → SafeWays i (ways rest) → Safe i (loop_test l (ev.statement l.body (body_at l)) rest (ways rest))
loop_safe zero l rest body g = λ values scopes. tt
loop_safe (suc i) l rest body g =
    let around : Safe (suc i) (back_edge l rest) = λ x y. loop_safe i l rest body (few i (ways rest) g) in
    let again = step_safe l l.step (suc i) rest around in
    test_safe l l.test (suc i) rest (body (suc i) (record { on = again; broken = g.on; continued = again })) g.on

do_safe : (i : ℕ) (a : Statement) (c : Expression) (n : ℕ) (rest : List Piece)
    → ((j : ℕ) → SafeWays j (ways (Until a c n ∷ rest)) → Safe j (ev.statement a n (Until a c n ∷ rest) (ways (Until a c n ∷ rest))))
    → SafeWays i (ways rest) → Safe i (ev.statement (DoWhile a c) n rest (ways rest))
do_safe zero a c n rest body g = λ values scopes. tt
do_safe (suc i) a c n rest body g =
    let around : Safe (suc i) (repeated a c n rest) = λ x y. do_safe i a c n rest body (few i (ways rest) g) in
    let again = expression c (suc i) (n + size_stmt a) (Repeat a c n ∷ rest)
    (choose_safe (suc i) (repeated a c n rest) (local rest) around g.on) in
    body (suc i) (record { on = again; broken = g.on; continued = again })

-- ---- statements

mutual
  statement : (a : Statement) (i n : ℕ) (rest : List Piece) → Converts a → SafeWays i (ways rest)
      → Safe i (ev.statement a n rest (ways rest))
  statement (Block ss) i n rest h g = λ values scopes.
      statements ss i n (Close ∷ rest) h (closed i (ways rest) g) values ([] ∷ scopes)
  statement Empty i n rest h g = g.on
  statement (Evaluate e) i n rest h g = expression e i n (Drop ∷ rest) (drop_safe i (local rest) g.on)
  statement (Declare type name None) i n rest h g = λ values scopes. g.on values (declared name (zero_of type) scopes)
  statement (Declare type name (Some e)) i n rest h g = λ values scopes.
      expression e i n (Set (Local name) (n + size e) ∷ Drop ∷ rest)
      (write_safe i name (local (Drop ∷ rest)) (drop_safe i (local rest) g.on)) values (declared name (zero_of type) scopes)
  statement (If c a) i n rest h g =
      let m = n + size c in
      expression c i n (Then a m ∷ rest)
      (choose_safe i (ev.statement a m rest (ways rest)) (local rest) (statement a i m rest h g) g.on)
  statement (IfElse c a b) i n rest h g =
      let m = n + size c in
      let j = m + size_stmt a in
      expression c i n (ThenElse a b m ∷ rest)
      (choose_safe i (ev.statement a m rest (ways rest)) (ev.statement b j rest (ways rest))
      (statement a i m rest h.0 g) (statement b i j rest h.1 g))
  statement (While c a) i n rest h g =
      let l = loop_of (Some c) None a n in loop_safe i l rest (λ j k. statement a j (body_at l) (AfterBody l ∷ rest) h k) g
  statement (DoWhile a c) i n rest h g = do_safe i a c n rest (λ j k. statement a j n (Until a c n ∷ rest) h k) g
  statement (For first test step a) i n rest h g =
      let l = loop_of test step a (n + size_stmts first) in
      let ending = closed i (ways rest) g in
      λ values scopes. statements first i n (LoopTest l ∷ Close ∷ rest) h.0
      (record {
        on = loop_safe i l (Close ∷ rest) (λ j k. statement a j (body_at l) (AfterBody l ∷ Close ∷ rest) h.1 k) ending;
        broken = ending.broken;
        continued = ending.continued;
      })
      values ([] ∷ scopes)
  statement Break i n rest h g = g.broken
  statement Continue i n rest h g = g.continued
  statement (Return e) i n rest h g = returned e i n rest h
  statement UpdatePoint i n rest h g = stop_safe i stop.Update n rest tt g.on
  statement (Transaction ss) i n rest h g =
      let e = n + 2 + size_stmts ss in
      let out : SafeWays i (ways (At stop.End e ∷ rest)) = record {
        on = stop_safe i stop.End e rest tt g.on;
        broken = g.broken;
        continued = g.continued;
      } in
      stop_safe i stop.Begin n (Do (Block ss) (n + 2) ∷ At stop.End e ∷ rest) tt
      (λ values scopes.
      statements ss i (n + 2) (Close ∷ At stop.End e ∷ rest) h (closed i (ways (At stop.End e ∷ rest)) out) values ([] ∷ scopes))

  pub statements : (ss : Statements) (i n : ℕ) (rest : List Piece) → AllConvert ss → SafeWays i (ways rest)
      → Safe i (ev.sequence ss n rest (ways rest))
  statements NoStatements i n rest h g = g.on
  statements (StatementThen a ss) i n rest h g =
      let m = n + size_stmt a in
      statement a i n (Sequence ss m ∷ rest) h.0
      (record { on = statements ss i m rest h.1 g; broken = g.broken; continued = g.continued })
