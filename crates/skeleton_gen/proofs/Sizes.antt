-- How many points a part of a tree has doesn't depend on its depth.
use Rattle.std.proofs.Common.{◌≡◌, ℕ, suc, ◌+◌, List, [], ◌∷◌, ◌++◌, length, Option, Some, None, refl, sym, ap, ◌∙◌, length-append}
use Rattle.std.proofs.lemmas.List.{length-map}
use Rattle.run_types.specs.Skeleton.{Point}
use Rattle.c_semantics.specs.Resolved.{Expression, Statement, Statements, Block, Empty, Evaluate, Declare, If, IfElse, While, DoWhile, For, Break, Continue, Return, UpdatePoint, Transaction, NoStatements, StatementThen}
use Rattle.c_semantics.specs.Points.{at_depth, of_expression, evaluated, evaluated_if, of_statement, of_statements, size, size_if, size_stmt, size_stmts}

-- as many
record SameLength (xs ys : List Point) : Type 0 where
  same : length xs ≡ length ys

alike : {xs ys us vs : List Point} → SameLength xs ys → SameLength us vs → SameLength (xs ++ us) (ys ++ vs)
alike {xs} {ys} {us} {vs} a b = record { same = length-append xs us ∙ ap (λ n. n + length us) a.same ∙ ap (λ n. length ys + n) b.same ∙ sym (length-append ys vs) }

also : {xs ys : List Point} {x y : Point} → SameLength xs ys → SameLength (x ∷ xs) (y ∷ ys)
also a = record { same = ap suc a.same }

none : SameLength [] []
none = record { same = refl }

pub evaluated_size : (d : ℕ) (e : Expression) → size e ≡ length (evaluated d e)
evaluated_size d e = sym (length-map (of_expression e) (at_depth d))

pub evaluated_if_size : (d : ℕ) (e : Option Expression) → size_if e ≡ length (evaluated_if d e)
evaluated_if_size d None = refl
evaluated_if_size d (Some e) = evaluated_size d e

level : (a b : ℕ) (e : Expression) → SameLength (evaluated a e) (evaluated b e)
level a b e = record { same = sym (evaluated_size a e) ∙ evaluated_size b e }

level_if : (a b : ℕ) (e : Option Expression) → SameLength (evaluated_if a e) (evaluated_if b e)
level_if a b e = record { same = sym (evaluated_if_size a e) ∙ evaluated_if_size b e }

mutual
  level_statement : (a b : ℕ) (s : Statement) → SameLength (of_statement a s) (of_statement b s)
  level_statement a b (Block ss) = level_statements a b ss
  level_statement a b Empty = none
  level_statement a b (Evaluate e) = level a b e
  level_statement a b (Declare type name e) = level_if a b e
  level_statement a b (If c s) = alike (level a b c) (level_statement a b s)
  level_statement a b (IfElse c s t) =
      alike (alike (level a b c) (level_statement a b s)) (level_statement a b t)
  level_statement a b (While c s) = alike (alike (level a b c) (level_statement a b s)) (also none)
  level_statement a b (DoWhile s c) = alike (alike (level_statement a b s) (level a b c)) (also none)
  level_statement a b (For first test step s) =
      alike (alike (alike (alike (level_statements a b first) (level_if a b test)) (level_statement a b s)) (level_if a b step)) (also none)
  level_statement a b Break = none
  level_statement a b Continue = none
  level_statement a b (Return e) = alike (level a b e) (also none)
  level_statement a b UpdatePoint = also (also none)
  level_statement a b (Transaction ss) = alike (also (also (level_statements (suc a) (suc b) ss))) (also (also none))

  level_statements : (a b : ℕ) (ss : Statements) → SameLength (of_statements a ss) (of_statements b ss)
  level_statements a b NoStatements = none
  level_statements a b (StatementThen s ss) = alike (level_statement a b s) (level_statements a b ss)

pub statement_size : (d : ℕ) (s : Statement) → size_stmt s ≡ length (of_statement d s)
statement_size d s = (level_statement 0 d s).same

pub statements_size : (d : ℕ) (ss : Statements) → size_stmts ss ≡ length (of_statements d ss)
statements_size d ss = (level_statements 0 d ss).same
