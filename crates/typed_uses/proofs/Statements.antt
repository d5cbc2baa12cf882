-- The points of a statement without faults use names that are defined.
use Rattle.std.proofs.Common.{◌≡◌, ℕ, suc, Bool, not, List, [], ◌∷◌, ◌++◌, map, Option, Some, None, option_map, sym, subst, subst₂}
use Rattle.run_types.specs.Skeleton as kind
use Rattle.run_types.specs.Skeleton.{Point}
use Rattle.run_types.specs.CheckIns as check_in
use Rattle.c_tree.specs.BareExpr.{BareType}
use Rattle.c_tree.specs.BareStmt.{BareStmt, BareStmts}
use Rattle.c_tree.specs.BareDef.{BareBinding}
use Rattle.c_tree.specs.Bare.{bare_block, bare_expr, bare_stmt, bare_stmt_node, bare_type}
use Rattle.c_tree.specs.declared.name.CType.{CType}
use Rattle.c_tree.specs.declared.expr.Expr.{Expr}
use Rattle.c_tree.specs.declared.stmt.Declaration.{Declaration}
use Rattle.c_tree.specs.declared.stmt.Stmt.{Stmt, Stmt-F}
use Rattle.c_tree.specs.declared.stmt.Stmt.TheFolds.{fold-roll-Stmt, ind-Stmt, map-Stmt}
use Rattle.c_tree.specs.declared.stmt.StmtNode.{StmtNode}
use Rattle.c_tree.specs.declared.stmt.StmtNode.TheVariants.{Block, Empty, Evaluate, Declare, If, IfElse, While, DoWhile, For, Break, Continue, Return, ReturnValue, Update, Transaction}
use Rattle.c_expr_types.specs.declared.fault.Fault.{Fault}
use Rattle.c_expr_types.specs.declared.fault.TypeKind.TheVariants.{DeclaredTwice}
use Rattle.c_expr_types.specs.declared.found.Found.{Found}
use Rattle.c_definitions.specs.declared.lookup.Position.TheVariants.{InFunction}
use Rattle.c_expr_types.specs.Faults.{unless}
use Rattle.c_expr_types.specs.Found.{is_evaluated}
use Rattle.c_definitions.specs.Lookup.{Names, Scopes, declare, is_repeated}
use Rattle.c_expr_types.specs.Expressions.{fits, is_condition, unknown_tag}
use Rattle.c_types.specs.Statements.{Around, Walked, behind, expression_faults, in_a_transaction, in_block, in_loop, in_order, leaving_faults, optional_faults, part_in, stmt_node, value_return_faults, walk, walk_declaration}
use Rattle.c_semantics.specs.Resolved.{Expression}
use Rattle.c_semantics.specs.Resolved as made
use Rattle.c_semantics.specs.Resolution.{declared_by, declared_by_all, statement, statements, tree_of}
use Rattle.c_semantics.specs.Points.{at_depth, evaluated, evaluated_if, of_statement, of_statements}
use Rattle.typed_uses.proofs.Points.{EachPoint, at, points_together}
use Rattle.typed_uses.proofs.Faultless.{meets, none_after, none_before, none_hidden, passes}
use Rattle.typed_uses.proofs.SoundTexts.{Facts, known}
use Rattle.typed_uses.proofs.Lookups.{Named, look}
use Rattle.typed_uses.proofs.Locals.{InStep, inner_block, one_more}
use Rattle.typed_uses.proofs.Expressions.{expression}

-- expressions of statements
abbrev names_in : Around → Names
names_in around = record { text = around.text; scopes = around.scopes; position = InFunction }

evaluation : (test : Found → Bool) (around : Around) (locals : List BareBinding) → Facts around.text →
    InStep around.text around.scopes locals → (e : Expr) → expression_faults test around e ≡ [] → (d : ℕ) →
    EachPoint (Named around.text) (evaluated d (tree_of (look around.text) locals (bare_expr e)))
evaluation test around locals facts s e none d =
    let clean = meets (test (part_in around e).found) (part_in around e) none in
    at (Named around.text) d _ (expression (names_in around) locals facts s e clean.1).tree

evaluation_if : (test : Found → Bool) (around : Around) (locals : List BareBinding) → Facts around.text →
    InStep around.text around.scopes locals → (e : Option Expr) → optional_faults test around e ≡ [] → (d : ℕ) →
    EachPoint (Named around.text) (evaluated_if d (option_map (tree_of (look around.text) locals) (option_map bare_expr e)))
evaluation_if test around locals facts s None none d = tt
evaluation_if test around locals facts s (Some e) none d = evaluation test around locals facts s e none d

-- the initial value of a variable
conversion_if : (around : Around) (locals : List BareBinding) (type : BareType) (e : Option Expr) (d : ℕ) →
    EachPoint (Named around.text) (evaluated_if d (option_map (tree_of (look around.text) locals) (option_map bare_expr e))) →
    EachPoint (Named around.text)
    (evaluated_if d (option_map (λ x. made.Convert type (tree_of (look around.text) locals x)) (option_map bare_expr e)))
conversion_if around locals type None d each = tt
conversion_if around locals type (Some e) d each = each

-- what holds after a statement, and of its points
pub record Follows (around : Around) (locals : List BareBinding) (scopes : Scopes) (b : BareStmt) : Type 0 where
  pub points : (result : BareType) (d : ℕ) → EachPoint (Named around.text) (of_statement d (statement (look around.text) result locals b))
  pub after : InStep around.text scopes (declared_by b locals)

pub record FollowAll (around : Around) (locals : List BareBinding) (scopes : Scopes) (bs : BareStmts) : Type 0 where
  pub points : (result : BareType) (d : ℕ) → EachPoint (Named around.text) (of_statements d (statements (look around.text) result locals bs))
  pub after : InStep around.text scopes (declared_by_all bs locals)

-- where a statement has no faults
abbrev pub StmtFits : (Around → Walked) → BareStmt → Type 0
StmtFits w b =
    (around : Around) (locals : List BareBinding) → Facts around.text → InStep around.text around.scopes locals → (w around).faults ≡ [] →
    Follows around locals (w around).scopes b

abbrev pub EachStmtFits : List Stmt → Type 0
EachStmtFits [] = Unit {0}
EachStmtFits (s ∷ ss) = StmtFits (walk s) (bare_stmt s) × EachStmtFits ss

pub all_follow : (ss : List Stmt) → EachStmtFits ss → (around : Around) (locals : List BareBinding) → Facts around.text →
    InStep around.text around.scopes locals → (in_order (map walk ss) around).faults ≡ [] →
    FollowAll around locals (in_order (map walk ss) around).scopes (bare_block (map bare_stmt ss))
all_follow [] fit around locals facts s none = record { points = λ result d. tt; after = s }
all_follow (x ∷ xs) fit around locals facts s none =
    let own = fit.0 around locals facts s (none_before (walk x around).faults _ none) in
    let more = all_follow xs fit.1 (behind (walk x around).scopes around) (declared_by (bare_stmt x) locals) facts own.after
    (none_after (walk x around).faults _ none) in
    record {
      points = λ result d. points_together (Named around.text) _ _ (own.points result d) (more.points result d);
      after = more.after;
    }

-- statements that declare nothing for what is after them
declared_follows : (x : Declaration) (around : Around) (locals : List BareBinding) → Facts around.text →
    InStep around.text around.scopes locals → (walk_declaration around x).faults ≡ [] →
    Follows around locals (walk_declaration around x).scopes (bare_stmt_node (Declare x))
declared_follows x around locals facts s none =
    let inner : Scopes = declare x.name.text x.declared around.scopes in
    let repeated : List Fault = unless (not (is_repeated x.name.text around.scopes)) DeclaredTwice x.name.place in
    let halves = none_hidden (optional_faults (fits around.text x.declared) (behind inner around) x.initial) (unknown_tag around.text x.declared ++ repeated) none in
    let new = passes (not (is_repeated x.name.text around.scopes)) DeclaredTwice x.name.place (none_after (unknown_tag around.text x.declared) repeated halves.1) in
    let k = known around.text x.declared (none_before (unknown_tag around.text x.declared) repeated halves.1) in
    let after = one_more around.text around.scopes locals x.name.text x.declared s new k in
    record {
      points = λ result d.
          conversion_if around (record { declared = bare_type x.declared; name = x.name.text } ∷ locals) (bare_type x.declared) x.initial d
          (evaluation_if (fits around.text x.declared) (behind inner around) (record { declared = bare_type x.declared; name = x.name.text } ∷ locals)
          facts after x.initial halves.0 d);
      after = after;
    }

returned : (at : ℕ) (around : Around) (locals : List BareBinding) → Facts around.text → InStep around.text around.scopes locals → (e : Expr) →
    (result : Option CType) → value_return_faults result at around e ≡ [] → (d : ℕ) →
    EachPoint (Named around.text) (evaluated d (tree_of (look around.text) locals (bare_expr e)))
returned at around locals facts s e None none d = cc
returned at around locals facts s e (Some t) none d = evaluation (fits around.text t) around locals facts s e none d

abbrev Proved : Type 0
Proved = (s : Stmt) × StmtFits (walk s) (bare_stmt s)

each : (ss : List Proved) → EachStmtFits (map (λ s. s.0) ss)
each [] = tt
each (s ∷ ss) = (s.1, each ss)

abbrev Layer : Stmt-F Stmt → Type 0
Layer x = StmtFits (stmt_node x.place (map-Stmt Stmt (Around → Walked) walk x).node) (bare_stmt_node (map-Stmt Stmt BareStmt bare_stmt x).node)

of_node : (place : ℕ) (n : StmtNode Proved) → Layer (map-Stmt Proved Stmt (λ s. s.0) (record { place = place; node = n }))
of_node place (Block ss) around locals facts s none =
    let all = all_follow (map (λ x. x.0) ss) (each ss) (in_block around) locals facts (inner_block around.text around.scopes locals s) none in
    record { points = λ result d. all.points result d; after = s }
of_node place Empty around locals facts s none = record { points = λ result d. tt; after = s }
of_node place (Evaluate e) around locals facts s none =
    record { points = λ result d. evaluation is_evaluated around locals facts s e none d; after = s }
of_node place (Declare x) around locals facts s none = declared_follows x around locals facts s none
of_node place (If c a) around locals facts s none =
    let own = a.1 (in_block around) locals facts (inner_block around.text around.scopes locals s) (none_after (expression_faults is_condition around c) _ none) in
    record {
      points = λ result d.
          points_together (Named around.text) _ _
          (evaluation is_condition around locals facts s c (none_before (expression_faults is_condition around c) _ none) d) (own.points result d);
      after = s;
    }
of_node place (IfElse c a b) around locals facts s none =
    let inner = inner_block around.text around.scopes locals s in
    let branches = none_after (expression_faults is_condition around c) _ none in
    let one = a.1 (in_block around) locals facts inner (none_before (walk a.0 (in_block around)).faults _ branches) in
    let other = b.1 (in_block around) locals facts inner (none_after (walk a.0 (in_block around)).faults _ branches) in
    record {
      points = λ result d.
          points_together (Named around.text) _ _
          (points_together (Named around.text) _ _
          (evaluation is_condition around locals facts s c (none_before (expression_faults is_condition around c) _ none) d) (one.points result d))
          (other.points result d);
      after = s;
    }
of_node place (While c a) around locals facts s none =
    let own = a.1 (in_block (in_loop around)) locals facts (inner_block around.text around.scopes locals s)
    (none_after (expression_faults is_condition around c) _ none) in
    record {
      points = λ result d.
          points_together (Named around.text) _ (at_depth d kind.Back ∷ [])
          (points_together (Named around.text) _ _
          (evaluation is_condition around locals facts s c (none_before (expression_faults is_condition around c) _ none) d) (own.points result d))
          (tt, tt);
      after = s;
    }
of_node place (DoWhile a c) around locals facts s none =
    let own = a.1 (in_block (in_loop around)) locals facts (inner_block around.text around.scopes locals s)
    (none_before (walk a.0 (in_block (in_loop around))).faults _ none) in
    record {
      points = λ result d.
          points_together (Named around.text) _ (at_depth d kind.Back ∷ [])
          (points_together (Named around.text) _ _ (own.points result d)
          (evaluation is_condition around locals facts s c (none_after (walk a.0 (in_block (in_loop around))).faults _ none) d))
          (tt, tt);
      after = s;
    }
of_node place (For first test step a) around locals facts s none =
    let inner = in_block around in
    let opening = in_order (map walk (map (λ x. x.0) first)) inner in
    let then = behind opening.scopes inner in
    let of_test = optional_faults is_condition then test in
    let of_step = optional_faults is_evaluated then step in
    let body = (walk a.0 (in_block (in_loop then))).faults in
    let turn = none_after opening.faults (of_test ++ (of_step ++ body)) none in
    let rest = none_after of_test (of_step ++ body) turn in
    let begun = all_follow (map (λ x. x.0) first) (each first) inner locals facts (inner_block around.text around.scopes locals s)
    (none_before opening.faults (of_test ++ (of_step ++ body)) none) in
    let known = declared_by_all (bare_block (map bare_stmt (map (λ x. x.0) first))) locals in
    let own = a.1 (in_block (in_loop then)) known facts (inner_block around.text opening.scopes known begun.after) (none_after of_step body rest) in
    record {
      points = λ result d.
          points_together (Named around.text) _ (at_depth d kind.Back ∷ [])
          (points_together (Named around.text) _ _
          (points_together (Named around.text) _ _
          (points_together (Named around.text) _ _ (begun.points result d)
          (evaluation_if is_condition then known facts begun.after test (none_before of_test (of_step ++ body) turn) d))
          (own.points result d))
          (evaluation_if is_evaluated then known facts begun.after step (none_before of_step body rest) d))
          (tt, tt);
      after = s;
    }
of_node place Break around locals facts s none = record { points = λ result d. tt; after = s }
of_node place Continue around locals facts s none = record { points = λ result d. tt; after = s }
of_node place Return around locals facts s none = record { points = λ result d. (tt, tt); after = s }
of_node place (ReturnValue e) around locals facts s none =
    record {
      points = λ result d.
          points_together (Named around.text) _ (at_depth d kind.Return ∷ [])
          (returned place around locals facts s e around.result (none_after (leaving_faults around place) _ none) d) (tt, tt);
      after = s;
    }
of_node place Update around locals facts s none = record { points = λ result d. (tt, (tt, tt)); after = s }
of_node place (Transaction ss end) around locals facts s none =
    let all = all_follow (map (λ x. x.0) ss) (each ss) (in_block (in_a_transaction around)) locals facts
    (inner_block around.text around.scopes locals s) none in
    record {
      points = λ result d. (
        tt,
        (
          tt,
          points_together (Named around.text) _ (at_depth (suc d) kind.End ∷ at_depth d (kind.CheckIn check_in.End) ∷ [])
              (all.points result (suc d)) (tt, (tt, tt)),
        ),
      );
      after = s;
    }

pub stmt_fits : (s : Stmt) → StmtFits (walk s) (bare_stmt s)
stmt_fits = ind-Stmt (λ s. StmtFits (walk s) (bare_stmt s)) (λ x y is.
    let layer : Layer x = subst Layer is (of_node y.place y.node) in
    subst₂ StmtFits (sym (fold-roll-Stmt (Around → Walked) (λ s. stmt_node s.place s.node) x))
    (sym (fold-roll-Stmt BareStmt (λ s. bare_stmt_node s.node) x)) layer)
