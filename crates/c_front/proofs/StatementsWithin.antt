-- What the grammar reads as a statement from tokens that begin at most at a number has its faults there.
use Rattle.std.proofs.Common.{ℕ, ◌≤◌, Bool, not, List, [], ◌∷◌, ◌++◌, map, Option, Some, None, sym, subst}
use Rattle.std.specs.List.{AllByRecursion}
use Rattle.c_tree.specs.declared.name.CType.{CType}
use Rattle.c_tree.specs.declared.expr.Expr.{Expr}
use Rattle.c_tree.specs.declared.stmt.Declaration.{Declaration}
use Rattle.c_tree.specs.declared.stmt.Stmt.{Stmt}
use Rattle.c_tree.specs.declared.stmt.Stmt.TheFolds.{map-Stmt}
use Rattle.c_tree.specs.declared.stmt.StmtNode.{StmtNode}
use Rattle.c_tree.specs.declared.stmt.StmtNode.TheVariants as node
use Rattle.c_expr_parser.specs.Placed.{Placed, at, start}
use Rattle.c_expr_parser.specs.Expressions.{Assignment}
use Rattle.c_expr_parser.specs.Declarations.{Commas, Declarators, Variable, Variables}
use Rattle.c_expr_parser.specs.Statements.{Ending, stmt, declares, Optional, First, Statement, Items}
use Rattle.c_expr_types.specs.declared.fault.TypeKind.TheVariants.{DeclaredTwice, WrongType, LeavesTransaction}
use Rattle.c_expr_types.specs.declared.found.Found.{Found}
use Rattle.c_definitions.specs.declared.lookup.Position.TheVariants.{InFunction}
use Rattle.c_types.specs.declared.statement.Loop.{Loop}
use Rattle.c_types.specs.declared.statement.Loop.TheVariants as loop
use Rattle.c_expr_types.specs.Faults.{unless}
use Rattle.c_expr_types.specs.Found.{is_evaluated}
use Rattle.c_definitions.specs.Lookup.{Names, Scopes, declare, is_repeated}
use Rattle.c_expr_types.specs.Expressions.{is_condition, fits, unknown_tag, infer}
use Rattle.c_types.specs.Statements.{Around, Walked, in_block, in_loop, in_a_transaction, behind, part_in, expression_faults, optional_faults, walk_declaration, jump_faults, leaving_faults, return_faults, value_return_faults, in_order, for_faults, stmt_node, walk}
use Rattle.c_types.proofs.FoldsAtNode.{walk_at}
use Rattle.c_front.proofs.FaultsWithin.{Within, PartWithin, within_append, within_unless, within_hiding, required_within}
use Rattle.c_front.proofs.ExpressionFaultsWithin.{TypeWithin, unknown_tag_within}
use Rattle.c_front.proofs.ExpressionsWithin.{Below, front, rear, past, begins, start_below, type_within, assignment_within}

pub each_append : {A : Type 0} (P : A → Type 0) (xs ys : List A) → AllByRecursion P xs → AllByRecursion P ys → AllByRecursion P (xs ++ ys)
each_append P [] ys h k = k
each_append P (x ∷ xs) ys (p, h) k = (p, each_append P xs ys h k)

module _ (n : ℕ) where
  -- Lists with commas.

  pub commas_within : {A : Type 0} {d : ℕ} {Phrase : List Placed → A → Type 0} (P : A → Type 0)
      → ((ts : List Placed) (a : A) → Phrase ts a → Below n ts → P a)
      → {ts : List Placed} {all : List A} → Commas d Phrase ts all → Below n ts → AllByRecursion P all
  commas_within P one (Commas.last {ts} {a} x) h = (one ts a x h, tt)
  commas_within P one (Commas.more {ts} {rest} {comma} {a} x c xs) h =
      (one ts a x (front n ts (comma ∷ rest) h), commas_within P one xs (past n ts comma rest h))

  pub declarators_within : {A : Type 0} {d : ℕ} {t : CType} {Declarator : List Placed → A → Type 0} (P : A → Type 0)
      → ((ts : List Placed) (a : A) → Declarator ts a → Below n ts → P a)
      → {ts : List Placed} {all : List A} → Declarators d t Declarator ts all → Below n ts → AllByRecursion P all
  declarators_within P one (Declarators.last {ts} {a} x) h = (one ts a x h, tt)
  declarators_within P one (Declarators.more {ts} {stars} {rest} {comma} {a} x c s xs) h = (
    one ts a x (front n ts (comma ∷ stars ++ rest) h),
    declarators_within P one xs (rear n stars rest (past n ts comma (stars ++ rest) h)),
  )

  -- Expressions and declarations.

  -- an expression, whatever its names stand for
  abbrev pub ExpressionWithin : Expr → Type 0
  ExpressionWithin e = (names : Names) → PartWithin n (infer names e)

  abbrev pub OptionalWithin : Option Expr → Type 0
  OptionalWithin None = Unit {0}
  OptionalWithin (Some e) = ExpressionWithin e

  -- a declared variable
  abbrev pub DeclarationWithin : Declaration → Type 0
  DeclarationWithin d = TypeWithin n d.declared × (d.name.place ≤ n) × OptionalWithin d.initial

  pub expression_within : {d : ℕ} {ts : List Placed} {e : Expr} → Assignment d ts e → Below n ts → ExpressionWithin e
  expression_within a h names = assignment_within n names a h

  optional_read : {d : ℕ} {ts : List Placed} {o : Option Expr} → Optional d ts o → Below n ts → OptionalWithin o
  optional_read Optional.absent h = tt
  optional_read (Optional.present a) h = expression_within a h

  variable_within : {d : ℕ} (t : CType) → TypeWithin n t → (ts : List Placed) (made : Declaration) → Variable d t ts made → Below n ts
      → DeclarationWithin made
  variable_within t k ts made (Variable.plain i) h = (k, h.0, tt)
  variable_within t k ts made (Variable.initialised i s a) h = (k, h.0, expression_within a h.1.1)

  variables_within : {d : ℕ} {ts : List Placed} {declared : List Declaration} → Variables d ts declared → Below n ts
      → AllByRecursion DeclarationWithin declared
  variables_within (Variables.declaration {ts} {names} {semicolon} {t} ty ds s) h =
      declarators_within DeclarationWithin (variable_within t (type_within n ty (front n ts (names ++ semicolon ∷ []) h))) ds
      (front n names (semicolon ∷ []) (rear n ts (names ++ semicolon ∷ []) h))

  -- Faults of the parts of statements.

  of_expression : (test : Found → Bool) (around : Around) (e : Expr) → ExpressionWithin e → Within n (expression_faults test around e)
  of_expression test around e h =
      required_within n (test (part_in around e).found) (part_in around e)
      (h (record { text = around.text; scopes = around.scopes; position = InFunction }))

  of_optional : (test : Found → Bool) (around : Around) (o : Option Expr) → OptionalWithin o → Within n (optional_faults test around o)
  of_optional test around None h = tt
  of_optional test around (Some e) h = of_expression test around e h

  of_declaration : (around : Around) (d : Declaration) → DeclarationWithin d → Within n (walk_declaration around d).faults
  of_declaration around d h =
      let inner : Scopes = declare d.name.text d.declared around.scopes in
      let once : Bool = not (is_repeated d.name.text around.scopes) in
      within_hiding n (optional_faults (fits around.text d.declared) (behind inner around) d.initial)
      (unknown_tag around.text d.declared ++ unless once DeclaredTwice d.name.place)
      (of_optional (fits around.text d.declared) (behind inner around) d.initial h.2)
      (within_append n (unknown_tag around.text d.declared) (unless once DeclaredTwice d.name.place)
      (unknown_tag_within n around.text d.declared h.0) (within_unless n once DeclaredTwice d.name.place h.1))

  of_jump : (l : Loop) (place : ℕ) → place ≤ n → Within n (jump_faults l place)
  of_jump loop.Outside place h = (h, tt)
  of_jump loop.Within place h = tt
  of_jump loop.Beyond place h = (h, tt)

  of_leaving : (around : Around) (place : ℕ) → place ≤ n → Within n (leaving_faults around place)
  of_leaving around place h = within_unless n (not around.in_transaction) LeavesTransaction place h

  of_return : (result : Option CType) (place : ℕ) → place ≤ n → Within n (return_faults result place)
  of_return None place h = tt
  of_return (Some t) place h = (h, tt)

  of_value_return : (result : Option CType) (place : ℕ) (around : Around) (e : Expr) → place ≤ n → ExpressionWithin e
      → Within n (value_return_faults result place around e)
  of_value_return None place around e h k = (h, of_expression is_evaluated around e k)
  of_value_return (Some t) place around e h k = of_expression (fits around.text t) around e k

  of_for : (test step : Option Expr) (body : Around → Walked) (around : Around) (first : Walked) → Within n first.faults
      → OptionalWithin test → OptionalWithin step → ((inner : Around) → Within n (body inner).faults)
      → Within n (for_faults test step body around first)
  of_for test step body around first h k l m =
      let inner : Around = behind first.scopes around in
      let of_test = optional_faults is_condition inner test in
      let of_step = optional_faults is_evaluated inner step in
      let of_body = (body (in_block (in_loop inner))).faults in
      within_append n first.faults (of_test ++ (of_step ++ of_body)) h
      (within_append n of_test (of_step ++ of_body) (of_optional is_condition inner test k)
      (within_append n of_step of_body (of_optional is_evaluated inner step l) (m (in_block (in_loop inner)))))

  -- Statements.

  -- a statement, whatever surrounds it
  abbrev pub StatementWithin : Stmt → Type 0
  StatementWithin s = (around : Around) → Within n (walk s around).faults

  pub in_order_within : (body : List Stmt) → AllByRecursion StatementWithin body → (around : Around)
      → Within n (in_order (map walk body) around).faults
  in_order_within [] h around = tt
  in_order_within (s ∷ body) (h, k) around =
      let inner : Around = behind (walk s around).scopes around in
      within_append n (walk s around).faults (in_order (map walk body) inner).faults (h around) (in_order_within body k inner)

  -- a node with the statements in it as they are walked
  abbrev walked : ℕ → StmtNode Stmt → StmtNode (Around → Walked)
  walked place made = (map-Stmt Stmt (Around → Walked) walk (record { place = place; node = made })).node

  of_node : (place : ℕ) (made : StmtNode Stmt) → ((around : Around) → Within n (stmt_node place (walked place made) around).faults)
      → StatementWithin (stmt place made)
  of_node place made h around = subst {A = Walked} (λ w. Within n w.faults) (sym (walk_at place made around)) (h around)

  declares_within : (place : ℕ) (declared : List Declaration) → AllByRecursion DeclarationWithin declared
      → AllByRecursion StatementWithin (declares place declared)
  declares_within place [] h = tt
  declares_within place (d ∷ declared) (h, k) =
      (of_node place (node.Declare d) (λ around. of_declaration around d h), declares_within place declared k)

  first_within : {d : ℕ} {ts : List Placed} {before : List Stmt} → First d ts before → Below n ts → AllByRecursion StatementWithin before
  first_within (First.declaration {ts} {declared} v) h = declares_within (start ts) declared (variables_within v h)
  first_within (First.expression {ts} {semicolon} {e} a s) h = (
    of_node (start ts) (node.Evaluate e)
        (λ around. of_expression is_evaluated around e (expression_within a (front n ts (semicolon ∷ []) h))),
    tt,
  )
  first_within (First.nothing s) h = tt

  mutual
    pub statement_within : {ending : Ending} {d : ℕ} {ts : List Placed} {s : Stmt} → Statement ending d ts s → Below n ts → StatementWithin s
    statement_within (Statement.block {brace} {end} {ts} {ss} b i e) h =
        of_node (at brace) (node.Block ss)
        (λ around. in_order_within ss (items_within i (front n ts (end ∷ []) h.1)) (in_block around))
    statement_within (Statement.empty {semicolon} s) h = of_node (at semicolon) node.Empty (λ around. tt)
    statement_within (Statement.evaluate {ts} {semicolon} {e} a s) h =
        of_node (start ts) (node.Evaluate e)
        (λ around. of_expression is_evaluated around e (expression_within a (front n ts (semicolon ∷ []) h)))
    statement_within (Statement.if_only {word} {close} {test} {body} {c} {s} w p a z b) h =
        of_node (at word) (node.If c s)
        (λ around. within_append n (expression_faults is_condition around c) (walk s (in_block around)).faults
        (of_expression is_condition around c (expression_within a (front n test (close ∷ body) h.1.1)))
        (statement_within b (past n test close body h.1.1) (in_block around)))
    statement_within (Statement.if_else {word} {close} {other} {test} {first} {second} {c} {s} {r} w p a z b o x) h =
        let after_test = past n test close (first ++ other ∷ second) h.1.1 in
        of_node (at word) (node.IfElse c s r)
        (λ around. within_append n (expression_faults is_condition around c)
        ((walk s (in_block around)).faults ++ (walk r (in_block around)).faults)
        (of_expression is_condition around c (expression_within a (front n test (close ∷ first ++ other ∷ second) h.1.1)))
        (within_append n (walk s (in_block around)).faults (walk r (in_block around)).faults
        (statement_within b (front n first (other ∷ second) after_test) (in_block around))
        (statement_within x (past n first other second after_test) (in_block around))))
    statement_within (Statement.while {word} {close} {test} {body} {c} {s} w p a z b) h =
        of_node (at word) (node.While c s)
        (λ around. within_append n (expression_faults is_condition around c) (walk s (in_block (in_loop around))).faults
        (of_expression is_condition around c (expression_within a (front n test (close ∷ body) h.1.1)))
        (statement_within b (past n test close body h.1.1) (in_block (in_loop around))))
    statement_within (Statement.do_while {word} {again} {paren} {close} {semicolon} {body} {test} {c} {s} w b g p a z y) h =
        let after_body = rear n body (again ∷ paren ∷ test ++ close ∷ semicolon ∷ []) h.1 in
        of_node (at word) (node.DoWhile s c)
        (λ around. within_append n (walk s (in_block (in_loop around))).faults (expression_faults is_condition around c)
        (statement_within b (front n body (again ∷ paren ∷ test ++ close ∷ semicolon ∷ []) h.1) (in_block (in_loop around)))
        (of_expression is_condition around c (expression_within a (front n test (close ∷ semicolon ∷ []) after_body.1.1))))
    statement_within (Statement.for {word} {semicolon} {close} {first} {test} {step} {body} {before} {c} {e} {s} w p f t q u z b) h =
        let from_test = rear n first (test ++ (semicolon ∷ step ++ close ∷ body)) h.1.1 in
        let from_step = past n test semicolon (step ++ close ∷ body) from_test in
        of_node (at word) (node.For before c e s)
        (λ around. of_for c e (walk s) (in_block around) (in_order (map walk before) (in_block around))
        (in_order_within before (first_within f (front n first (test ++ (semicolon ∷ step ++ close ∷ body)) h.1.1)) (in_block around))
        (optional_read t (front n test (semicolon ∷ step ++ close ∷ body) from_test))
        (optional_read u (front n step (close ∷ body) from_step))
        (statement_within b (past n step close body from_step)))
    statement_within (Statement.break {word} w s) h = of_node (at word) node.Break (λ around. of_jump around.loop (at word) h.0)
    statement_within (Statement.continue {word} w s) h = of_node (at word) node.Continue (λ around. of_jump around.loop (at word) h.0)
    statement_within (Statement.return {word} w s) h =
        of_node (at word) node.Return
        (λ around. within_append n (return_faults around.result (at word)) (leaving_faults around (at word))
        (of_return around.result (at word) h.0) (of_leaving around (at word) h.0))
    statement_within (Statement.return_value {word} {semicolon} {ts} {e} w a s) h =
        of_node (at word) (node.ReturnValue e)
        (λ around. within_append n (leaving_faults around (at word)) (value_return_faults around.result (at word) around e)
        (of_leaving around (at word) h.0)
        (of_value_return around.result (at word) around e h.0 (expression_within a (front n ts (semicolon ∷ []) h.1))))
    statement_within (Statement.update {word} w p c s) h = of_node (at word) node.Update (λ around. tt)
    statement_within (Statement.transaction {word} {end} {ts} {ss} w b i e) h =
        of_node (at word) (node.Transaction ss (at end))
        (λ around. in_order_within ss (items_within i (front n ts (end ∷ []) h.1.1)) (in_block (in_a_transaction around)))

    pub items_within : {d : ℕ} {ts : List Placed} {ss : List Stmt} → Items d ts ss → Below n ts → AllByRecursion StatementWithin ss
    items_within Items.none h = tt
    items_within (Items.declaration {ts} {rest} {declared} {ss} v i) h =
        each_append StatementWithin (declares (start ts) declared) ss
        (declares_within (start ts) declared (variables_within v (front n ts rest h))) (items_within i (rear n ts rest h))
    items_within (Items.statement {ts} {rest} s i) h =
        (statement_within s (front n ts rest h), items_within i (rear n ts rest h))
