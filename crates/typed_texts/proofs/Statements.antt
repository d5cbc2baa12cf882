-- A statement without faults has a typed tree.
use Rattle.std.proofs.Common.{◌≡◌, ℕ, Bool, true, false, not, IsTrue, List, [], ◌∷◌, ◌++◌, map, Option, Some, None, cond, option_map, unwrap_or, bytes_eq, refl, sym, subst, subst₂}
use Rattle.c_tree.specs.BareExpr.{Bytes, BareType}
use Rattle.c_tree.specs.BareStmt.{BareStmt, BareStmts}
use Rattle.c_tree.specs.BareStmt as bare
use Rattle.c_tree.specs.BareDef.{BareBinding}
use Rattle.c_tree.specs.Bare.{bare_block, bare_expr, bare_stmt, bare_stmt_node, bare_type}
use Rattle.c_tree.specs.declared.name.CType.{CType}
use Rattle.c_tree.specs.declared.expr.Expr.{Expr}
use Rattle.c_tree.specs.declared.stmt.Declaration.{Declaration}
use Rattle.c_tree.specs.declared.stmt.Stmt.{Stmt, Stmt-F}
use Rattle.c_tree.specs.declared.stmt.Stmt.TheFolds.{fold-roll-Stmt, ind-Stmt, map-Stmt}
use Rattle.c_tree.specs.declared.stmt.StmtNode.{StmtNode}
use Rattle.c_tree.specs.declared.stmt.StmtNode.TheVariants.{Block, Empty, Evaluate, Declare, If, IfElse, While, DoWhile, For, Break, Continue, Return, ReturnValue, Update, Transaction}
use Rattle.c_expr_types.specs.declared.fault.Fault.{Fault}
use Rattle.c_expr_types.specs.declared.fault.TypeKind.TheVariants.{DeclaredTwice}
use Rattle.c_expr_types.specs.declared.found.Found.{Found}
use Rattle.c_definitions.specs.declared.lookup.Position.TheVariants.{InFunction}
use Rattle.c_expr_types.specs.Faults.{unless}
use Rattle.c_expr_types.specs.Found.{is_evaluated, is_scalar}
use Rattle.c_definitions.specs.Lookup.{Names, Scopes, declare, is_known, is_repeated}
use Rattle.c_expr_types.specs.Expressions.{fits, is_condition, unknown_tag}
use Rattle.c_types.specs.Statements.{Around, Walked, behind, expression_faults, in_a_transaction, in_block, in_loop, in_order, leaving_faults, optional_faults, part_in, return_faults, stmt_node, value_return_faults, walk, walk_declaration}
use Rattle.c_semantics.specs.Texts.{bound, int}
use Rattle.c_semantics.specs.Resolved.{Expression}
use Rattle.c_semantics.specs.Resolved as made
use Rattle.c_semantics.specs.Resolution.{declared_by, declared_by_all, resolved, statement, statements, tree_of}
use Rattle.typed_uses.proofs.Faultless.{meets, none_after, none_before, none_hidden, passes}
use Rattle.typed_uses.proofs.SoundTexts.{Facts, known}
use Rattle.typed_uses.proofs.Lookups.{look}
use Rattle.typed_uses.proofs.Locals.{InStep, inner_block, one_more}
use Rattle.typed_uses.proofs.Statements as uses
use Rattle.typed_trees.specs.ValueTypes.{Environment, in_scope}
use Rattle.typed_trees.specs.ExpressionTypes.{IsScalar, IsTyped}
use Rattle.typed_trees.specs.StatementTypes.{ConditionIf, InitialIf, IsCondition, IsPart, StatementTyped, StatementsTyped, TypedIf, declare_all, declares, with_variable}
use Rattle.typed_texts.proofs.FoundTypes.{convert, evaluated, scalar_found}
use Rattle.typed_texts.proofs.Nodes.{Has, fitting}
use Rattle.typed_texts.proofs.NamedNodes.{InEnvironment}
use Rattle.typed_texts.proofs.Expressions.{expression}
use Rattle.typed_texts.proofs.Parts.{AllProper, IsBody, Proper}

-- the type of the result of the function round a statement
abbrev pub result_in : Around → BareType
result_in around = unwrap_or (option_map bare_type around.result) int

-- its tag is declared
abbrev pub ResultKnown : Around → Type 0
ResultKnown around = (t : CType) → around.result ≡ Some t → IsTrue (is_known around.text t)

-- ---- expressions of statements

abbrev names_in : Around → Names
names_in around = record { text = around.text; scopes = around.scopes; position = InFunction }

record Holds (test : Found → Bool) (around : Around) (locals : List BareBinding) (env : Environment) (e : Expr) : Type 0 where
  holds : test (part_in around e).found ≡ true
  has : Has around.text env (part_in around e).found (resolved (look around.text) locals (bare_expr e))

module _ (around : Around) (locals : List BareBinding) (env : Environment) (facts : Facts around.text) (s : InStep around.text around.scopes locals)
    (within : InEnvironment locals env) where
  evaluation : (test : Found → Bool) (e : Expr) → expression_faults test around e ≡ [] → Holds test around locals env e
  evaluation test e none =
      let m = meets (test (part_in around e).found) (part_in around e) none in
      record { holds = m.0; has = expression (names_in around) locals env facts s within e m.1 }

  typed : (e : Expr) → expression_faults is_evaluated around e ≡ [] → IsTyped (look around.text) env (tree_of (look around.text) locals (bare_expr e))
  typed e none = let h = evaluation is_evaluated e none in h.has.fits.typed h.holds

  condition : (e : Expr) → expression_faults is_condition around e ≡ [] → IsCondition (look around.text) env (tree_of (look around.text) locals (bare_expr e))
  condition e none =
      let h = evaluation is_condition e none in
      let ev = evaluated is_scalar (part_in around e).found h.holds in
      (h.has.fits.typed ev, subst IsScalar (sym (h.has.fits.type ev)) (scalar_found around.text (part_in around e).found _ h.holds h.has.good.type))

  converted : (t : CType) (e : Expr) → IsTrue (is_known around.text t) → expression_faults (fits around.text t) around e ≡ []
      → IsTyped (look around.text) env (made.Convert (bare_type t) (tree_of (look around.text) locals (bare_expr e)))
  converted t e k none =
      let h = evaluation (fits around.text t) e none in
      convert around.text env t (part_in around e).found _ (fitting around.text t (part_in around e).found k h.holds) h.has.good.type h.has.fits

  condition_if : (e : Option Expr) → optional_faults is_condition around e ≡ []
      → ConditionIf (look around.text) env (option_map (tree_of (look around.text) locals) (option_map bare_expr e))
  condition_if None none = tt
  condition_if (Some e) none = condition e none

  typed_if : (e : Option Expr) → optional_faults is_evaluated around e ≡ []
      → TypedIf (look around.text) env (option_map (tree_of (look around.text) locals) (option_map bare_expr e))
  typed_if None none = tt
  typed_if (Some e) none = typed e none

-- ---- variables

-- a variable more
more_within : (locals : List BareBinding) (env : Environment) (type : BareType) (name : Bytes) → InEnvironment locals env
    → InEnvironment (record { declared = type; name = name } ∷ locals) (with_variable type name env)
more_within locals [] type name within n = by (bytes_eq n name)
  where
    own : BareBinding
    own = record { declared = type; name = name }

    by : (b : Bool) → option_map (λ c. c.declared) (cond b (Some own) (bound locals n)) ≡ option_map (λ c. c.declared) (cond b (Some own) None)
    by true = refl
    by false = within n
more_within locals (bs ∷ env) type name within n = by (bytes_eq n name)
  where
    own : BareBinding
    own = record { declared = type; name = name }

    by : (b : Bool) → option_map (λ c. c.declared) (cond b (Some own) (bound locals n)) ≡ option_map (λ c. c.declared) (cond b (Some own) (bound (bs ++ in_scope env) n))
    by true = refl
    by false = within n

-- a body is a part
part_of : (around : Around) (locals : List BareBinding) (b : BareStmt) → IsBody b → IsPart (statement (look around.text) (result_in around) locals b)
part_of around locals (bare.Block ss) h = tt
part_of around locals bare.Empty h = tt
part_of around locals (bare.Evaluate e) h = tt
part_of around locals (bare.Declare d) h = absurd h
part_of around locals (bare.If c s) h = tt
part_of around locals (bare.IfElse c s t) h = tt
part_of around locals (bare.While c s) h = tt
part_of around locals (bare.DoWhile s c) h = tt
part_of around locals (bare.For first test step s) h = tt
part_of around locals bare.Break h = tt
part_of around locals bare.Continue h = tt
part_of around locals bare.Return h = tt
part_of around locals (bare.ReturnValue e) h = tt
part_of around locals bare.Update h = tt
part_of around locals (bare.Transaction ss) h = tt

-- ---- statements

-- a statement's tree is typed, and the environment after it is that of the variables in scope
pub record Follows (around : Around) (locals : List BareBinding) (env : Environment) (b : BareStmt) : Type 0 where
  pub typed : StatementTyped (look around.text) (result_in around) env (statement (look around.text) (result_in around) locals b)
  pub within : InEnvironment (declared_by b locals) (declares (statement (look around.text) (result_in around) locals b) env)

pub record FollowAll (around : Around) (locals : List BareBinding) (env : Environment) (bs : BareStmts) : Type 0 where
  pub typed : StatementsTyped (look around.text) (result_in around) env (statements (look around.text) (result_in around) locals bs)
  pub within : InEnvironment (declared_by_all bs locals) (declare_all (statements (look around.text) (result_in around) locals bs) env)

abbrev pub StmtTyped : (Around → Walked) → BareStmt → Type 0
StmtTyped w b =
    (around : Around) (locals : List BareBinding) (env : Environment) → Facts around.text → InStep around.text around.scopes locals
    → InEnvironment locals env → ResultKnown around → Proper b → (w around).faults ≡ [] → Follows around locals env b

abbrev pub EachStmtTyped : List Stmt → Type 0
EachStmtTyped [] = Unit {0}
EachStmtTyped (s ∷ ss) = StmtTyped (walk s) (bare_stmt s) × EachStmtTyped ss

pub all_follow : (ss : List Stmt) → EachStmtTyped ss → (around : Around) (locals : List BareBinding) (env : Environment) → Facts around.text
    → InStep around.text around.scopes locals → InEnvironment locals env → ResultKnown around → AllProper (bare_block (map bare_stmt ss))
    → (in_order (map walk ss) around).faults ≡ [] → FollowAll around locals env (bare_block (map bare_stmt ss))
all_follow [] each around locals env facts s within k p none = record { typed = tt; within = within }
all_follow (x ∷ xs) each around locals env facts s within k p none =
    let first = none_before (walk x around).faults _ none in
    let own = each.0 around locals env facts s within k p.0 first in
    let after = (uses.stmt_fits x around locals facts s first).after in
    let more = all_follow xs each.1 (behind (walk x around).scopes around) (declared_by (bare_stmt x) locals)
    (declares (statement (look around.text) (result_in around) locals (bare_stmt x)) env) facts after own.within k p.1
    (none_after (walk x around).faults _ none) in
    record { typed = (own.typed, more.typed); within = more.within }

-- a declaration
initial_typed : (x : Declaration) (around : Around) (locals : List BareBinding) (env : Environment) → Facts around.text
    → InStep around.text around.scopes locals → InEnvironment locals env → IsTrue (is_known around.text x.declared) → (e : Option Expr)
    → optional_faults (fits around.text x.declared) around e ≡ []
    → InitialIf (look around.text) env (bare_type x.declared)
    (option_map (λ y. made.Convert (bare_type x.declared) (tree_of (look around.text) locals y)) (option_map bare_expr e))
initial_typed x around locals env facts s within k None none = tt
initial_typed x around locals env facts s within k (Some e) none =
    (converted around locals env facts s within x.declared e k none, refl)

declaration_follows : (x : Declaration) (around : Around) (locals : List BareBinding) (env : Environment) → Facts around.text
    → InStep around.text around.scopes locals → InEnvironment locals env → (walk_declaration around x).faults ≡ []
    → Follows around locals env (bare_stmt_node (Declare x))
declaration_follows x around locals env facts s within none =
    let inner : Scopes = declare x.name.text x.declared around.scopes in
    let repeated : List Fault = unless (not (is_repeated x.name.text around.scopes)) DeclaredTwice x.name.place in
    let halves = none_hidden (optional_faults (fits around.text x.declared) (behind inner around) x.initial) (unknown_tag around.text x.declared ++ repeated) none in
    let new = passes (not (is_repeated x.name.text around.scopes)) DeclaredTwice x.name.place (none_after (unknown_tag around.text x.declared) repeated halves.1) in
    let k = known around.text x.declared (none_before (unknown_tag around.text x.declared) repeated halves.1) in
    let after = one_more around.text around.scopes locals x.name.text x.declared s new k in
    let more = more_within locals env (bare_type x.declared) x.name.text within in
    record {
      typed =
          initial_typed x (behind inner around) (record { declared = bare_type x.declared; name = x.name.text } ∷ locals)
          (with_variable (bare_type x.declared) x.name.text env) facts after more k x.initial halves.0;
      within = more;
    }

returned : (at : ℕ) (around : Around) (locals : List BareBinding) (env : Environment) → Facts around.text → InStep around.text around.scopes locals
    → InEnvironment locals env → ResultKnown around → (e : Expr) (r : Option CType) → around.result ≡ r → value_return_faults r at around e ≡ []
    → StatementTyped (look around.text) (unwrap_or (option_map bare_type r) int) env
    (statement (look around.text) (unwrap_or (option_map bare_type r) int) locals (bare.ReturnValue (bare_expr e)))
returned at around locals env facts s within k e None is none = cc
returned at around locals env facts s within k e (Some t) is none =
    (converted around locals env facts s within t e (k t is) none, refl)

no_result : (at : ℕ) (around : Around) (locals : List BareBinding) (env : Environment) (r : Option CType) → return_faults r at ≡ []
    → StatementTyped (look around.text) (unwrap_or (option_map bare_type r) int) env
    (statement (look around.text) (unwrap_or (option_map bare_type r) int) locals bare.Return)
no_result at around locals env None none = (tt, refl)
no_result at around locals env (Some t) none = cc

abbrev Proved : Type 0
Proved = (s : Stmt) × StmtTyped (walk s) (bare_stmt s)

each : (ss : List Proved) → EachStmtTyped (map (λ s. s.0) ss)
each [] = tt
each (s ∷ ss) = (s.1, each ss)

abbrev Layer : Stmt-F Stmt → Type 0
Layer x = StmtTyped (stmt_node x.place (map-Stmt Stmt (Around → Walked) walk x).node) (bare_stmt_node (map-Stmt Stmt BareStmt bare_stmt x).node)

of_node : (place : ℕ) (n : StmtNode Proved) → Layer (map-Stmt Proved Stmt (λ s. s.0) (record { place = place; node = n }))
of_node place (Block ss) around locals env facts s within k p none =
    let all = all_follow (map (λ x. x.0) ss) (each ss) (in_block around) locals ([] ∷ env) facts (inner_block around.text around.scopes locals s) within k p none in
    record { typed = all.typed; within = within }
of_node place Empty around locals env facts s within k p none = record { typed = tt; within = within }
of_node place (Evaluate e) around locals env facts s within k p none = record { typed = typed around locals env facts s within e none; within = within }
of_node place (Declare x) around locals env facts s within k p none = declaration_follows x around locals env facts s within none
of_node place (If c a) around locals env facts s within k p none =
    let own = a.1 (in_block around) locals env facts (inner_block around.text around.scopes locals s) within k p.1
    (none_after (expression_faults is_condition around c) _ none) in
    record {
      typed = (
        condition around locals env facts s within c (none_before (expression_faults is_condition around c) _ none),
        own.typed,
        part_of around locals (bare_stmt a.0) p.0,
      );
      within = within;
    }
of_node place (IfElse c a b) around locals env facts s within k p none =
    let inner = inner_block around.text around.scopes locals s in
    let branches = none_after (expression_faults is_condition around c) _ none in
    let one = a.1 (in_block around) locals env facts inner within k p.1 (none_before (walk a.0 (in_block around)).faults _ branches) in
    let other = b.1 (in_block around) locals env facts inner within k p.3 (none_after (walk a.0 (in_block around)).faults _ branches) in
    record {
      typed = (
        condition around locals env facts s within c (none_before (expression_faults is_condition around c) _ none),
        one.typed,
        other.typed,
        part_of around locals (bare_stmt a.0) p.0,
        part_of around locals (bare_stmt b.0) p.2,
      );
      within = within;
    }
of_node place (While c a) around locals env facts s within k p none =
    let own = a.1 (in_block (in_loop around)) locals env facts (inner_block around.text around.scopes locals s) within k p.1
    (none_after (expression_faults is_condition around c) _ none) in
    record {
      typed = (
        condition around locals env facts s within c (none_before (expression_faults is_condition around c) _ none),
        own.typed,
        part_of around locals (bare_stmt a.0) p.0,
      );
      within = within;
    }
of_node place (DoWhile a c) around locals env facts s within k p none =
    let own = a.1 (in_block (in_loop around)) locals env facts (inner_block around.text around.scopes locals s) within k p.1
    (none_before (walk a.0 (in_block (in_loop around))).faults _ none) in
    record {
      typed = (
        condition around locals env facts s within c (none_after (walk a.0 (in_block (in_loop around))).faults _ none),
        own.typed,
        part_of around locals (bare_stmt a.0) p.0,
      );
      within = within;
    }
of_node place (For first test step a) around locals env facts s within k p none =
    let inner = in_block around in
    let opening = in_order (map walk (map (λ x. x.0) first)) inner in
    let then_around = behind opening.scopes inner in
    let of_test = optional_faults is_condition then_around test in
    let of_step = optional_faults is_evaluated then_around step in
    let body = (walk a.0 (in_block (in_loop then_around))).faults in
    let turn = none_after opening.faults (of_test ++ (of_step ++ body)) none in
    let rest = none_after of_test (of_step ++ body) turn in
    let opens = none_before opening.faults (of_test ++ (of_step ++ body)) none in
    let block = inner_block around.text around.scopes locals s in
    let begun = all_follow (map (λ x. x.0) first) (each first) inner locals ([] ∷ env) facts block within k p.0 opens in
    let steps = (uses.all_follow (map (λ x. x.0) first) (fits_each (map (λ x. x.0) first)) inner locals facts block opens).after in
    let names = declared_by_all (bare_block (map bare_stmt (map (λ x. x.0) first))) locals in
    let env_after = declare_all (statements (look around.text) (result_in around) locals (bare_block (map bare_stmt (map (λ x. x.0) first)))) ([] ∷ env) in
    let own = a.1 (in_block (in_loop then_around)) names env_after facts (inner_block around.text opening.scopes names steps) begun.within k p.2
    (none_after of_step body rest) in
    record {
      typed = (
        begun.typed,
        condition_if then_around names env_after facts steps begun.within test (none_before of_test (of_step ++ body) turn),
        typed_if then_around names env_after facts steps begun.within step (none_before of_step body rest),
        own.typed,
        part_of around names (bare_stmt a.0) p.1,
      );
      within = within;
    }
  where
    fits_each : (ss : List Stmt) → uses.EachStmtFits ss
    fits_each [] = tt
    fits_each (x ∷ xs) = (uses.stmt_fits x, fits_each xs)
of_node place Break around locals env facts s within k p none = record { typed = tt; within = within }
of_node place Continue around locals env facts s within k p none = record { typed = tt; within = within }
of_node place Return around locals env facts s within k p none =
    record { typed = no_result place around locals env around.result (none_before (return_faults around.result place) _ none); within = within }
of_node place (ReturnValue e) around locals env facts s within k p none =
    record {
      typed = returned place around locals env facts s within k e around.result refl (none_after (leaving_faults around place) _ none);
      within = within;
    }
of_node place Update around locals env facts s within k p none = record { typed = tt; within = within }
of_node place (Transaction ss end) around locals env facts s within k p none =
    let all = all_follow (map (λ x. x.0) ss) (each ss) (in_block (in_a_transaction around)) locals ([] ∷ env) facts
    (inner_block around.text around.scopes locals s) within k p none in
    record { typed = all.typed; within = within }

pub stmt_typed : (s : Stmt) → StmtTyped (walk s) (bare_stmt s)
stmt_typed = ind-Stmt (λ s. StmtTyped (walk s) (bare_stmt s)) (λ x y is.
    let layer : Layer x = subst Layer is (of_node y.place y.node) in
    subst₂ StmtTyped (sym (fold-roll-Stmt (Around → Walked) (λ s. stmt_node s.place s.node) x))
    (sym (fold-roll-Stmt BareStmt (λ s. bare_stmt_node s.node) x)) layer)

pub each_typed : (ss : List Stmt) → EachStmtTyped ss
each_typed [] = tt
each_typed (s ∷ ss) = (stmt_typed s, each_typed ss)
