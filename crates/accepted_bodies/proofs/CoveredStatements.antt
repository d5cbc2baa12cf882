-- What the grammar reads as statements has at most two check-ins for three tokens.
use Rattle.std.proofs.Common.{◌≡◌, ℕ, ◌+◌, List, [], ◌∷◌, ◌++◌, map, length-append, Option, refl, ap, sym, subst, arith}
use Rattle.std.specs.Prelude.{option_map}
use Rattle.c_tree.specs.BareStmt.{BareStmt}
use Rattle.c_tree.specs.Bare.{bare_block, bare_expr, bare_stmt, bare_stmt_node}
use Rattle.c_tree.specs.declared.name.CType.{CType}
use Rattle.c_tree.specs.declared.expr.Expr.{Expr}
use Rattle.c_tree.specs.declared.stmt.Declaration.{Declaration}
use Rattle.c_tree.specs.declared.stmt.Stmt.{Stmt}
use Rattle.c_tree.specs.declared.stmt.Stmt.TheFolds.{fold-roll-Stmt, map-Stmt}
use Rattle.c_tree.specs.declared.stmt.StmtNode.{StmtNode}
use Rattle.c_tree.specs.declared.stmt.StmtNode.TheVariants as node
use Rattle.c_expr_parser.specs.Placed.{Placed, at, start}
use Rattle.c_expr_parser.specs.Declarations.{Declarators, Variable, Variables}
use Rattle.c_expr_parser.specs.Statements.{Ending, stmt, declares, Optional, First, Statement, Items}
use Rattle.accepted_bodies.proofs.ResolvedCheckIns.{of_expression, of_optional, of_statement, of_block}
use Rattle.accepted_bodies.proofs.CoveredExpressions.{Covers, assignment_covered}

abbrev calls : Expr → ℕ
calls e = of_expression (bare_expr e)

abbrev optional_calls : Option Expr → ℕ
optional_calls o = of_optional (option_map bare_expr o)

abbrev check_ins : Stmt → ℕ
check_ins s = of_statement (bare_stmt s)

-- how many check-ins the statements of a block have
abbrev pub check_ins_in : List Stmt → ℕ
check_ins_in ss = of_block (bare_block (map bare_stmt ss))

-- how many calls the first values of variables have
abbrev initial_calls : List Declaration → ℕ
initial_calls [] = 0
initial_calls (d ∷ ds) = optional_calls d.initial + initial_calls ds

-- a statement that is written out
at_node : (place : ℕ) (made : StmtNode Stmt)
    → check_ins (stmt place made) ≡ of_statement (bare_stmt_node (map-Stmt Stmt BareStmt bare_stmt (record { place = place; node = made })).node)
at_node place made = ap of_statement (fold-roll-Stmt BareStmt (λ s. bare_stmt_node s.node) (record { place = place; node = made }))

of_node : (ts : List Placed) (place : ℕ) (made : StmtNode Stmt)
    → Covers ts (of_statement (bare_stmt_node (map-Stmt Stmt BareStmt bare_stmt (record { place = place; node = made })).node))
    → Covers ts (check_ins (stmt place made))
of_node ts place made = subst (Covers ts) (sym (at_node place made))

-- statements after others
in_both : (ss rs : List Stmt) → check_ins_in (ss ++ rs) ≡ check_ins_in ss + check_ins_in rs
in_both [] rs = omega arith
in_both (s ∷ ss) rs = let rest = in_both ss rs in omega (arith, rest)

in_declared : (place : ℕ) (ds : List Declaration) → check_ins_in (declares place ds) ≡ initial_calls ds
in_declared place [] = refl
in_declared place (d ∷ ds) =
    let first = at_node place (node.Declare d) in let rest = in_declared place ds in omega (arith, first, rest)

optional_covered : {d : ℕ} {ts : List Placed} {o : Option Expr} → Optional d ts o → Covers ts (optional_calls o)
optional_covered Optional.absent = omega arith
optional_covered (Optional.present a) = assignment_covered a

variable_covered : {d : ℕ} {t : CType} {ts : List Placed} {made : Declaration} → Variable d t ts made → Covers ts (optional_calls made.initial)
variable_covered (Variable.plain {variable} i) = omega arith
variable_covered (Variable.initialised {variable} {sign} {ts} {e} i s a) = let within = assignment_covered a in omega (arith, within)

declarators_covered : {d : ℕ} {t : CType} {ts : List Placed} {ds : List Declaration} → Declarators d t (Variable d t) ts ds
    → Covers ts (initial_calls ds)
declarators_covered (Declarators.last {ts} {a} x) = let within = variable_covered x in omega (arith, within)
declarators_covered (Declarators.more {ts} {stars} {rest} {comma} {a} {others} x c s xs) =
    let within = variable_covered x in
    let after = declarators_covered xs in
    let whole = length-append ts (comma ∷ stars ++ rest) in
    let behind = length-append stars rest in
    omega (arith, within, after, whole, behind)

variables_covered : {d : ℕ} {ts : List Placed} {ds : List Declaration} → Variables d ts ds → Covers ts (initial_calls ds)
variables_covered (Variables.declaration {ts} {names} {semicolon} {t} {declared} ty ds s) =
    let within = declarators_covered ds in
    let whole = length-append ts (names ++ semicolon ∷ []) in
    let behind = length-append names (semicolon ∷ []) in
    omega (arith, within, whole, behind)

first_covered : {d : ℕ} {ts : List Placed} {before : List Stmt} → First d ts before → Covers ts (check_ins_in before)
first_covered (First.declaration {ts} {declared} v) = subst (Covers ts) (sym (in_declared (start ts) declared)) (variables_covered v)
first_covered (First.expression {ts} {semicolon} {e} a s) =
    let within = assignment_covered a in
    let long = length-append ts (semicolon ∷ []) in
    let same = at_node (start ts) (node.Evaluate e) in
    omega (arith, within, long, same)
first_covered (First.nothing {semicolon} s) = omega arith

mutual
  statement_covered : {ending : Ending} {d : ℕ} {ts : List Placed} {s : Stmt} → Statement ending d ts s → Covers ts (check_ins s)
  statement_covered (Statement.block {brace} {end} {ts} {ss} b i e) =
      let within = items_covered i in
      let long = length-append ts (end ∷ []) in
      of_node (brace ∷ ts ++ end ∷ []) (at brace) (node.Block ss) (omega (arith, within, long))
  statement_covered (Statement.empty {semicolon} s) = of_node (semicolon ∷ []) (at semicolon) node.Empty (omega arith)
  statement_covered (Statement.evaluate {ts} {semicolon} {e} a s) =
      let within = assignment_covered a in
      let long = length-append ts (semicolon ∷ []) in
      of_node (ts ++ semicolon ∷ []) (start ts) (node.Evaluate e) (omega (arith, within, long))
  statement_covered (Statement.if_only {word} {paren} {close} {test} {body} {c} {s} w p a z b) =
      let of_test = assignment_covered a in
      let of_body = statement_covered b in
      let long = length-append test (close ∷ body) in
      of_node (word ∷ paren ∷ test ++ close ∷ body) (at word) (node.If c s) (omega (arith, of_test, of_body, long))
  statement_covered (Statement.if_else {word} {paren} {close} {other} {test} {first} {second} {c} {s} {r} w p a z b o x) =
      let of_test = assignment_covered a in
      let of_first = statement_covered b in
      let of_second = statement_covered x in
      let whole = length-append test (close ∷ first ++ other ∷ second) in
      let rest = length-append first (other ∷ second) in
      of_node (word ∷ paren ∷ test ++ (close ∷ first ++ other ∷ second)) (at word) (node.IfElse c s r)
      (omega (arith, of_test, of_first, of_second, whole, rest))
  statement_covered (Statement.while {word} {paren} {close} {test} {body} {c} {s} w p a z b) =
      let of_test = assignment_covered a in
      let of_body = statement_covered b in
      let long = length-append test (close ∷ body) in
      of_node (word ∷ paren ∷ test ++ close ∷ body) (at word) (node.While c s) (omega (arith, of_test, of_body, long))
  statement_covered (Statement.do_while {word} {again} {paren} {close} {semicolon} {body} {test} {c} {s} w b g p a z y) =
      let of_test = assignment_covered a in
      let of_body = statement_covered b in
      let whole = length-append body (again ∷ paren ∷ test ++ close ∷ semicolon ∷ []) in
      let rest = length-append test (close ∷ semicolon ∷ []) in
      of_node (word ∷ body ++ (again ∷ paren ∷ test ++ close ∷ semicolon ∷ [])) (at word) (node.DoWhile s c)
      (omega (arith, of_test, of_body, whole, rest))
  statement_covered (Statement.for {word} {paren} {semicolon} {close} {first} {test} {step} {body} {before} {c} {e} {s} w p f t q u z b) =
      let of_first = first_covered f in
      let of_test = optional_covered t in
      let of_step = optional_covered u in
      let of_body = statement_covered b in
      let whole = length-append first (test ++ (semicolon ∷ step ++ close ∷ body)) in
      let from_test = length-append test (semicolon ∷ step ++ close ∷ body) in
      let from_step = length-append step (close ∷ body) in
      of_node (word ∷ paren ∷ first ++ (test ++ (semicolon ∷ step ++ close ∷ body))) (at word) (node.For before c e s)
      (omega (arith, of_first, of_test, of_step, of_body, whole, from_test, from_step))
  statement_covered (Statement.break {word} {semicolon} w s) = of_node (word ∷ semicolon ∷ []) (at word) node.Break (omega arith)
  statement_covered (Statement.continue {word} {semicolon} w s) = of_node (word ∷ semicolon ∷ []) (at word) node.Continue (omega arith)
  statement_covered (Statement.return {word} {semicolon} w s) = of_node (word ∷ semicolon ∷ []) (at word) node.Return (omega arith)
  statement_covered (Statement.return_value {word} {semicolon} {ts} {e} w a s) =
      let within = assignment_covered a in
      let long = length-append ts (semicolon ∷ []) in
      of_node (word ∷ ts ++ semicolon ∷ []) (at word) (node.ReturnValue e) (omega (arith, within, long))
  statement_covered (Statement.update {word} {paren} {close} {semicolon} w p c s) =
      of_node (word ∷ paren ∷ close ∷ semicolon ∷ []) (at word) node.Update (omega arith)
  statement_covered (Statement.transaction {word} {brace} {end} {ts} {ss} w b i e) =
      let within = items_covered i in
      let long = length-append ts (end ∷ []) in
      of_node (word ∷ brace ∷ ts ++ end ∷ []) (at word) (node.Transaction ss (at end)) (omega (arith, within, long))

  pub items_covered : {d : ℕ} {ts : List Placed} {ss : List Stmt} → Items d ts ss → Covers ts (check_ins_in ss)
  items_covered Items.none = omega arith
  items_covered (Items.declaration {ts} {rest} {declared} {ss} v i) =
      let within = variables_covered v in
      let after = items_covered i in
      let long = length-append ts rest in
      let all = in_both (declares (start ts) declared) ss in
      let own = in_declared (start ts) declared in
      omega (arith, within, after, long, all, own)
  items_covered (Items.statement {ts} {rest} {s} {ss} x i) =
      let within = statement_covered x in
      let after = items_covered i in
      let long = length-append ts rest in
      omega (arith, within, after, long)
