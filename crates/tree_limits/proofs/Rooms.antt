-- The tree of a statement has room for its variables where the variables of its text have.
use Rattle.std.proofs.Common.{◌≡◌, ◌≤◌, ℕ, suc, ◌+◌, List, [], ◌∷◌, map, length, refl, sym, subst, subst₂, arith}
use Rattle.c_tree.specs.BareExpr.{Bytes, BareType}
use Rattle.c_tree.specs.BareStmt.{BareStmt}
use Rattle.c_tree.specs.BareDef.{BareBinding}
use Rattle.c_tree.specs.Bare.{bare_block, bare_stmt, bare_stmt_node, bare_type}
use Rattle.c_tree.specs.declared.stmt.Stmt.{Stmt, Stmt-F}
use Rattle.c_tree.specs.declared.stmt.Stmt.TheFolds.{fold-roll-Stmt, ind-Stmt, map-Stmt}
use Rattle.c_tree.specs.declared.stmt.StmtNode.{StmtNode}
use Rattle.c_tree.specs.declared.stmt.StmtNode.TheVariants.{Block, Empty, Evaluate, Declare, If, IfElse, While, DoWhile, For, Break, Continue, Return, ReturnValue, Update, Transaction}
use Rattle.c_types.specs.Statements.{node_variables, total, variables}
use Rattle.c_semantics.specs.Texts.{Definitions}
use Rattle.c_semantics.specs.Resolution.{declared_by, declared_by_all, statement, statements}
use Rattle.typed_trees.specs.ValueTypes.{Environment, in_scope}
use Rattle.typed_trees.specs.StatementTypes.{declare_all, declares, with_variable}
use Rattle.tree_code.specs.Code.{HasRoom, HaveRoom}

one_longer : (type : BareType) (name : Bytes) (env : Environment) → length (in_scope (with_variable type name env)) ≡ suc (length (in_scope env))
one_longer type name [] = refl
one_longer type name (bindings ∷ outer) = refl

module _ (look : Definitions) (result : BareType) where
  -- a statement has room under some variables, and declares so many at most
  record Has (n : ℕ) (b : BareStmt) (locals : List BareBinding) (env : Environment) (most : ℕ) : Type 0 where
    room : HasRoom most env (statement look result locals b)
    after : length (in_scope (declares (statement look result locals b) env)) ≤ length (in_scope env) + n

  abbrev StmtHas : ℕ → BareStmt → Type 0
  StmtHas n b = (locals : List BareBinding) (env : Environment) (most : ℕ) → length (in_scope env) + n ≤ most → Has n b locals env most

  -- a statement of which it is known
  abbrev Proved : Type 0
  Proved = (s : Stmt) × StmtHas (variables s) (bare_stmt s)

  -- statements in order
  record Have (ss : List Stmt) (locals : List BareBinding) (env : Environment) (most : ℕ) : Type 0 where
    room : HaveRoom most env (statements look result locals (bare_block (map bare_stmt ss)))
    after : length (in_scope (declare_all (statements look result locals (bare_block (map bare_stmt ss))) env))
        ≤ length (in_scope env) + total (map variables ss)

  first_has : (n m x most : ℕ) → x + (n + m) ≤ most → x + n ≤ most
  first_has n m x most h = omega (arith, h)

  rest_has : (n m x y most : ℕ) → x + (n + m) ≤ most → y ≤ x + n → y + m ≤ most
  rest_has n m x y most h g = omega (arith, h, g)

  in_all : (n m x y z : ℕ) → y ≤ x + n → z ≤ y + m → z ≤ x + (n + m)
  in_all n m x y z h g = omega (arith, h, g)

  then : (s : Stmt) (ss : List Stmt) (locals : List BareBinding) (env : Environment) (most : ℕ) → StmtHas (variables s) (bare_stmt s)
      → ((locals : List BareBinding) (env : Environment) → length (in_scope env) + total (map variables ss) ≤ most → Have ss locals env most)
      → length (in_scope env) + (variables s + total (map variables ss)) ≤ most → Have (s ∷ ss) locals env most
  then s ss locals env most f g h =
      let n = variables s in
      let m = total (map variables ss) in
      let x = length (in_scope env) in
      let inner = declares (statement look result locals (bare_stmt s)) env in
      let one = f locals env most (first_has n m x most h) in
      let rest = g (declared_by (bare_stmt s) locals) inner (rest_has n m x (length (in_scope inner)) most h one.after) in
      record { room = (one.room, rest.room); after = in_all n m x (length (in_scope inner)) _ one.after rest.after }

  block_has : (ss : List Proved) (locals : List BareBinding) (env : Environment) (most : ℕ)
      → length (in_scope env) + total (map variables (map (λ s. s.0) ss)) ≤ most → Have (map (λ s. s.0) ss) locals env most
  block_has [] locals env most h = record { room = tt; after = omega arith }
  block_has (s ∷ ss) locals env most h =
      then s.0 (map (λ x. x.0) ss) locals env most s.1 (λ inner deeper g. block_has ss inner deeper most g) h

  abbrev Layer : Stmt-F Stmt → Type 0
  Layer x = StmtHas (node_variables (map-Stmt Stmt ℕ variables x).node) (bare_stmt_node (map-Stmt Stmt BareStmt bare_stmt x).node)

  of_node : (place : ℕ) (n : StmtNode Proved) → Layer (map-Stmt Proved Stmt (λ s. s.0) (record { place = place; node = n }))
  of_node place (Block ss) locals env most h = record { room = (block_has ss locals ([] ∷ env) most h).room; after = omega arith }
  of_node place Empty locals env most h = record { room = tt; after = omega arith }
  of_node place (Evaluate e) locals env most h = record { room = tt; after = omega arith }
  of_node place (Declare d) locals env most h =
      record { room = omega (arith, h); after = omega (arith, one_longer (bare_type d.declared) d.name.text env) }
  of_node place (If c s) locals env most h = record { room = (s.1 locals env most h).room; after = omega arith }
  of_node place (IfElse c s t) locals env most h =
      record { room = ((s.1 locals env most (omega (arith, h))).room, (t.1 locals env most (omega (arith, h))).room); after = omega arith }
  of_node place (While c s) locals env most h = record { room = (s.1 locals env most h).room; after = omega arith }
  of_node place (DoWhile s c) locals env most h = record { room = (s.1 locals env most h).room; after = omega arith }
  of_node place (For first test step s) locals env most h =
      let ss = map (λ x. x.0) first in
      let n = total (map variables ss) in
      let m = variables s.0 in
      let x = length (in_scope env) in
      let names = declared_by_all (bare_block (map bare_stmt ss)) locals in
      let inner = declare_all (statements look result locals (bare_block (map bare_stmt ss))) ([] ∷ env) in
      let opens = block_has first locals ([] ∷ env) most (first_has n m x most h) in
      let turns = s.1 names inner most (rest_has n m x (length (in_scope inner)) most h opens.after) in
      record { room = (opens.room, turns.room); after = omega arith }
  of_node place Break locals env most h = record { room = tt; after = omega arith }
  of_node place Continue locals env most h = record { room = tt; after = omega arith }
  of_node place Return locals env most h = record { room = tt; after = omega arith }
  of_node place (ReturnValue e) locals env most h = record { room = tt; after = omega arith }
  of_node place Update locals env most h = record { room = tt; after = omega arith }
  of_node place (Transaction ss end) locals env most h =
      record { room = (block_has ss locals ([] ∷ env) most h).room; after = omega arith }

  statement_has : (s : Stmt) → StmtHas (variables s) (bare_stmt s)
  statement_has = ind-Stmt (λ s. StmtHas (variables s) (bare_stmt s)) (λ x y is.
      let layer : Layer x = subst Layer is (of_node y.place y.node) in
      subst₂ StmtHas (sym (fold-roll-Stmt ℕ (λ s. node_variables s.node) x)) (sym (fold-roll-Stmt BareStmt (λ s. bare_stmt_node s.node) x)) layer)

  statements_have : (body : List Stmt) (locals : List BareBinding) (env : Environment) (most : ℕ)
      → length (in_scope env) + total (map variables body) ≤ most → Have body locals env most
  statements_have [] locals env most h = record { room = tt; after = omega arith }
  statements_have (s ∷ ss) locals env most h =
      then s ss locals env most (statement_has s) (λ inner deeper g. statements_have ss inner deeper most g) h

pub body_has : (look : Definitions) (result : BareType) (locals : List BareBinding) (env : Environment) (most : ℕ) (body : List Stmt)
    → length (in_scope env) + total (map variables body) ≤ most
    → HaveRoom most env (statements look result locals (bare_block (map bare_stmt body)))
body_has look result locals env most body h = (statements_have look result body locals env most h).room
