-- How many points a tree has, by those of its parts.
use Rattle.std.proofs.Common.{◌≡◌, ℕ, suc, ◌+◌, length, Option, Some, None, refl, sym, ◌∙◌, arith, length-append}
use Rattle.std.proofs.lemmas.List.{length-map}
use Rattle.c_semantics.specs.Resolved.{Expression, Statement, Statements, Block, Empty, Evaluate, Declare, If, IfElse, While, DoWhile, For, Break, Continue, Return, UpdatePoint, Transaction, NoStatements, StatementThen}
use Rattle.c_semantics.specs.Points.{of_expression, at_depth, evaluated, evaluated_if, of_statement, of_statements, size, size_if, size_stmt, size_stmts}

-- an expression has as many points at each depth
pub evaluated_count : (d : ℕ) (e : Expression) → length (evaluated d e) ≡ size e
evaluated_count d e = length-map (of_expression e) (at_depth d)

pub evaluated_if_count : (d : ℕ) (e : Option Expression) → length (evaluated_if d e) ≡ size_if e
evaluated_if_count d None = refl
evaluated_if_count d (Some e) = evaluated_count d e

-- the points of a statement at any depth are as many as at depth 0
mutual
  pub statement_count : (d : ℕ) (s : Statement) → length (of_statement d s) ≡ size_stmt s
  statement_count d (Block ss) = statements_count d ss
  statement_count d Empty = refl
  statement_count d (Evaluate e) = evaluated_count d e ∙ sym (evaluated_count 0 e)
  statement_count d (Declare type name e) = evaluated_if_count d e ∙ sym (evaluated_if_count 0 e)
  statement_count d (If c s) =
      let x = evaluated_count d c in
      let y = evaluated_count 0 c in
      let z = statement_count d s in
      simp length-append (omega arith)
  statement_count d (IfElse c s t) =
      let x = evaluated_count d c in
      let y = evaluated_count 0 c in
      let z = statement_count d s in
      let v = statement_count d t in
      simp length-append (omega arith)
  statement_count d (While c s) =
      let x = evaluated_count d c in
      let y = evaluated_count 0 c in
      let z = statement_count d s in
      simp length-append (omega arith)
  statement_count d (DoWhile s c) =
      let x = evaluated_count d c in
      let y = evaluated_count 0 c in
      let z = statement_count d s in
      simp length-append (omega arith)
  statement_count d (For first test step s) =
      let x = statements_count d first in
      let y = evaluated_if_count d test in
      let z = evaluated_if_count 0 test in
      let v = statement_count d s in
      let p = evaluated_if_count d step in
      let q = evaluated_if_count 0 step in
      simp length-append (omega arith)
  statement_count d Break = refl
  statement_count d Continue = refl
  statement_count d (Return e) =
      let x = evaluated_count d e in
      let y = evaluated_count 0 e in
      simp length-append (omega arith)
  statement_count d UpdatePoint = refl
  statement_count d (Transaction ss) =
      let x = statements_count (suc d) ss in
      let y = statements_count 1 ss in
      simp length-append (omega arith)

  pub statements_count : (d : ℕ) (ss : Statements) → length (of_statements d ss) ≡ size_stmts ss
  statements_count d NoStatements = refl
  statements_count d (StatementThen s ss) =
      let x = statement_count d s in
      let y = statements_count d ss in
      simp length-append (omega arith)

-- a transaction has four points beside those of its statements
pub transaction_count : (ss : Statements) (n : ℕ) → n ≡ size_stmts ss → n + 4 ≡ size_stmt (Transaction ss)
transaction_count ss n e =
    let h = statements_count 1 ss in
    simp length-append (omega arith)
