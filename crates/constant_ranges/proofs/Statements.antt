-- What the grammar reads as a statement has its constants in their ranges.
use Rattle.std.proofs.Common.{◌≡◌, ℕ, List, [], ◌∷◌, ◌++◌, map, Option, Some, None, sym, subst, option_map}
use Rattle.c_tree.specs.Bare.{bare_block, bare_declaration, bare_expr, bare_stmt, bare_stmt_node}
use Rattle.c_tree.specs.BareStmt.{BareStmt}
use Rattle.c_tree.specs.declared.name.CType.{CType}
use Rattle.c_tree.specs.declared.expr.Expr.{Expr}
use Rattle.c_tree.specs.declared.stmt.Declaration.{Declaration}
use Rattle.c_tree.specs.declared.stmt.Stmt.{Stmt}
use Rattle.c_tree.specs.declared.stmt.Stmt.TheFolds.{fold-roll-Stmt, map-Stmt}
use Rattle.c_tree.specs.declared.stmt.StmtNode.{StmtNode}
use Rattle.c_tree.specs.declared.stmt.StmtNode.TheVariants as node
use Rattle.c_expr_parser.specs.Placed.{Placed, at, start}
use Rattle.c_expr_parser.specs.Declarations.{Declarators, Variable, Variables}
use Rattle.c_expr_parser.specs.Statements.{Ending, First, Items, Optional, Statement, declares, stmt}
use Rattle.constant_ranges.proofs.BareRanges.{BareRangedIf, StmtRanged, StmtsRanged}
use Rattle.constant_ranges.proofs.Expressions.{AreRead, assignment_fine, front, past, rear}

-- a statement, statements, variables without their places
abbrev pub StmtFine : Stmt → Type 0
StmtFine s = StmtRanged (bare_stmt s)

abbrev pub StmtsFine : List Stmt → Type 0
StmtsFine ss = StmtsRanged (bare_block (map bare_stmt ss))

abbrev OptionFine : Option Expr → Type 0
OptionFine o = BareRangedIf (option_map bare_expr o)

abbrev DeclarationFine : Declaration → Type 0
DeclarationFine d = OptionFine d.initial

abbrev DeclarationsFine : List Declaration → Type 0
DeclarationsFine [] = Unit {0}
DeclarationsFine (d ∷ ds) = DeclarationFine d × DeclarationsFine ds

abbrev bared : ℕ → StmtNode Stmt → BareStmt
bared place made = bare_stmt_node (map-Stmt Stmt BareStmt bare_stmt (record { place = place; node = made })).node

of_node : (place : ℕ) (made : StmtNode Stmt) → StmtRanged (bared place made) → StmtFine (stmt place made)
of_node place made h =
    subst StmtRanged (sym (fold-roll-Stmt BareStmt (λ s. bare_stmt_node s.node) (record { place = place; node = made }))) h

-- ---- declarations

optional_fine : {d : ℕ} {ts : List Placed} {o : Option Expr} → Optional d ts o → AreRead ts → OptionFine o
optional_fine Optional.absent h = tt
optional_fine (Optional.present a) h = assignment_fine a h

variable_fine : {d : ℕ} {t : CType} {ts : List Placed} {made : Declaration} → Variable d t ts made → AreRead ts → DeclarationFine made
variable_fine (Variable.plain i) h = tt
variable_fine (Variable.initialised i s a) h = assignment_fine a h.1.1

declarators_fine : {d : ℕ} {t : CType} {ts : List Placed} {made : List Declaration} → Declarators d t (Variable d t) ts made → AreRead ts
    → DeclarationsFine made
declarators_fine (Declarators.last v) h = (variable_fine v h, tt)
declarators_fine (Declarators.more {ts} {stars} {rest} {comma} v c s later) h =
    (variable_fine v (front ts (comma ∷ stars ++ rest) h), declarators_fine later (rear stars rest (past ts comma (stars ++ rest) h)))

variables_fine : {d : ℕ} {ts : List Placed} {declared : List Declaration} → Variables d ts declared → AreRead ts → DeclarationsFine declared
variables_fine (Variables.declaration {ts} {names} {semicolon} ty ds s) h =
    declarators_fine ds (front names (semicolon ∷ []) (rear ts (names ++ semicolon ∷ []) h))

-- declarations before statements
declared_first : (place : ℕ) (ds : List Declaration) (ss : List Stmt) → DeclarationsFine ds → StmtsFine ss → StmtsFine (declares place ds ++ ss)
declared_first place [] ss h k = k
declared_first place (d ∷ ds) ss h k = (of_node place (node.Declare d) h.0, declared_first place ds ss h.1 k)

declared_all : (place : ℕ) (ds : List Declaration) → DeclarationsFine ds → StmtsFine (declares place ds)
declared_all place [] h = tt
declared_all place (d ∷ ds) h = (of_node place (node.Declare d) h.0, declared_all place ds h.1)

first_fine : {d : ℕ} {ts : List Placed} {ss : List Stmt} → First d ts ss → AreRead ts → StmtsFine ss
first_fine (First.declaration {ts} {declared} v) h = declared_all (start ts) declared (variables_fine v h)
first_fine (First.expression {ts} {semicolon} {e} a s) h =
    (of_node (start ts) (node.Evaluate e) (assignment_fine a (front ts (semicolon ∷ []) h)), tt)
first_fine (First.nothing s) h = tt

-- ---- statements

mutual
  pub statement_fine : {ending : Ending} {d : ℕ} {ts : List Placed} {s : Stmt} → Statement ending d ts s → AreRead ts → StmtFine s
  statement_fine (Statement.block {brace} {end} {ts} {ss} b i e) h =
      of_node (at brace) (node.Block ss) (items_fine i (front ts (end ∷ []) h.1))
  statement_fine (Statement.empty {semicolon} s) h = of_node (at semicolon) node.Empty tt
  statement_fine (Statement.evaluate {ts} {semicolon} {e} a s) h =
      of_node (start ts) (node.Evaluate e) (assignment_fine a (front ts (semicolon ∷ []) h))
  statement_fine (Statement.if_only {word} {close} {test} {body} {c} {s} w p a z b) h =
      of_node (at word) (node.If c s)
      (assignment_fine a (front test (close ∷ body) h.1.1), statement_fine b (past test close body h.1.1))
  statement_fine (Statement.if_else {word} {close} {other} {test} {first} {second} {c} {s} {r} w p a z b o x) h =
      let after_test = past test close (first ++ other ∷ second) h.1.1 in
      of_node (at word) (node.IfElse c s r) (
        assignment_fine a (front test (close ∷ first ++ other ∷ second) h.1.1),
        statement_fine b (front first (other ∷ second) after_test),
        statement_fine x (past first other second after_test),
      )
  statement_fine (Statement.while {word} {close} {test} {body} {c} {s} w p a z b) h =
      of_node (at word) (node.While c s)
      (assignment_fine a (front test (close ∷ body) h.1.1), statement_fine b (past test close body h.1.1))
  statement_fine (Statement.do_while {word} {again} {paren} {close} {semicolon} {body} {test} {c} {s} w b g p a z y) h =
      let after_body = rear body (again ∷ paren ∷ test ++ close ∷ semicolon ∷ []) h.1 in
      of_node (at word) (node.DoWhile s c) (
        statement_fine b (front body (again ∷ paren ∷ test ++ close ∷ semicolon ∷ []) h.1),
        assignment_fine a (front test (close ∷ semicolon ∷ []) after_body.1.1),
      )
  statement_fine (Statement.for {word} {semicolon} {close} {first} {test} {step} {body} {before} {c} {e} {s} w p f t q u z b) h =
      let from_test = rear first (test ++ (semicolon ∷ step ++ close ∷ body)) h.1.1 in
      let from_step = past test semicolon (step ++ close ∷ body) from_test in
      of_node (at word) (node.For before c e s) (
        first_fine f (front first (test ++ (semicolon ∷ step ++ close ∷ body)) h.1.1),
        optional_fine t (front test (semicolon ∷ step ++ close ∷ body) from_test),
        optional_fine u (front step (close ∷ body) from_step),
        statement_fine b (past step close body from_step),
      )
  statement_fine (Statement.break {word} w s) h = of_node (at word) node.Break tt
  statement_fine (Statement.continue {word} w s) h = of_node (at word) node.Continue tt
  statement_fine (Statement.return {word} w s) h = of_node (at word) node.Return tt
  statement_fine (Statement.return_value {word} {semicolon} {ts} {e} w a s) h =
      of_node (at word) (node.ReturnValue e) (assignment_fine a (front ts (semicolon ∷ []) h.1))
  statement_fine (Statement.update {word} w p c s) h = of_node (at word) node.Update tt
  statement_fine (Statement.transaction {word} {end} {ts} {ss} w b i e) h =
      of_node (at word) (node.Transaction ss (at end)) (items_fine i (front ts (end ∷ []) h.1.1))

  pub items_fine : {d : ℕ} {ts : List Placed} {ss : List Stmt} → Items d ts ss → AreRead ts → StmtsFine ss
  items_fine Items.none h = tt
  items_fine (Items.declaration {ts} {rest} {declared} {ss} v i) h =
      declared_first (start ts) declared ss (variables_fine v (front ts rest h)) (items_fine i (rear ts rest h))
  items_fine (Items.statement {ts} {rest} s i) h = (statement_fine s (front ts rest h), items_fine i (rear ts rest h))
