-- The body of each function of an accepted text stores values of the declared types.
use Rattle.std.proofs.Common.{◌≡◌, ℕ, Bool, true, false, not, List, [], ◌∷◌, ◌++◌, map, Option, Some, None, option_map, unwrap_or, find, cond, refl, sym, subst, subst₂}
use Rattle.c_tree.specs.BareExpr.{Bytes, BareType}
use Rattle.c_tree.specs.BareStmt.{BareStmt, BareStmts}
use Rattle.c_tree.specs.BareDef.{BareBinding, BareDef, Function}
use Rattle.c_tree.specs.Bare.{bare_binding, bare_block, bare_def, bare_expr, bare_kind, bare_stmt, bare_stmt_node, bare_type}
use Rattle.c_tree.specs.declared.name.CType.{CType}
use Rattle.c_tree.specs.declared.expr.Expr.{Expr}
use Rattle.c_tree.specs.declared.stmt.Declaration.{Declaration}
use Rattle.c_tree.specs.declared.stmt.Stmt.{Stmt, Stmt-F}
use Rattle.c_tree.specs.declared.stmt.Stmt.TheFolds.{fold-roll-Stmt, ind-Stmt, map-Stmt}
use Rattle.c_tree.specs.declared.stmt.StmtNode.{StmtNode}
use Rattle.c_tree.specs.declared.stmt.StmtNode.TheVariants.{Block, Empty, Evaluate, Declare, If, IfElse, While, DoWhile, For, Break, Continue, Return, ReturnValue, Update, Transaction}
use Rattle.c_tree.specs.declared.def.Def.{Def}
use Rattle.c_tree.specs.declared.def.DefKind.{DefKind}
use Rattle.c_tree.specs.declared.def.DefKind.TheVariants as kind
use Rattle.c_expr_types.specs.declared.fault.Fault.{Fault}
use Rattle.c_expr_types.specs.declared.fault.TypeKind.TheVariants.{DeclaredTwice}
use Rattle.c_expr_types.specs.declared.found.Found.{Found}
use Rattle.c_definitions.specs.declared.lookup.Position.TheVariants.{InFunction}
use Rattle.c_expr_types.specs.Faults.{unless}
use Rattle.c_expr_types.specs.Found.{is_evaluated}
use Rattle.c_definitions.specs.Lookup.{Names, Scopes, declare, is_repeated}
use Rattle.c_expr_types.specs.Expressions.{fits, is_condition, unknown_tag}
use Rattle.c_types.specs.Definitions.{inside}
use Rattle.c_types.specs.Statements.{Around, Walked, behind, expression_faults, in_a_transaction, in_block, in_loop, in_order, leaving_faults, optional_faults, part_in, return_faults, stmt_node, value_return_faults, walk, walk_declaration}
use Rattle.c_semantics.specs.Texts.{defines, definition, int, result_type}
use Rattle.c_semantics.specs.SourceTexts.{Text}
use Rattle.c_semantics.specs.Resolved as made
use Rattle.c_semantics.specs.Resolution.{as_locals, declared_by, declared_by_all, resolved_body, statement, statements, tree_of}
use Rattle.typed_uses.proofs.Faultless.{meets, none_after, none_before, none_hidden, passes}
use Rattle.typed_uses.proofs.SoundTexts.{AllSound, Facts, Sound, known as known_tag}
use Rattle.typed_uses.proofs.Lookups.{look}
use Rattle.typed_uses.proofs.Locals.{InStep, inner_block, one_more, with_all}
use Rattle.typed_uses.proofs.Statements.{EachStmtFits, all_follow, stmt_fits}
use Rattle.frame_bodies.specs.AcceptedTexts.{IsAccepted}
use Rattle.frame_bodies.proofs.AcceptedFacts.{bare_of, facts_in}
use Rattle.world_laws.proofs.Storing.{Stores, IfStores, StmtStores, StmtsStore}
use Rattle.world_laws.proofs.TypedExpressions.{expression_stores}

-- ---- expressions of statements

names_in : Around → Names
names_in around = record { text = around.text; scopes = around.scopes; position = InFunction }

evaluation : (test : Found → Bool) (around : Around) (locals : List BareBinding) → Facts around.text → InStep around.text around.scopes locals
    → (e : Expr) → expression_faults test around e ≡ [] → Stores (look around.text) (tree_of (look around.text) locals (bare_expr e))
evaluation test around locals facts s e none =
    expression_stores (record { text = around.text; scopes = around.scopes; position = InFunction }) locals facts s e
    (meets (test (part_in around e).found) (part_in around e) none).1

evaluation_if : (test : Found → Bool) (around : Around) (locals : List BareBinding) → Facts around.text → InStep around.text around.scopes locals
    → (e : Option Expr) → optional_faults test around e ≡ []
    → IfStores (look around.text) (option_map (tree_of (look around.text) locals) (option_map bare_expr e))
evaluation_if test around locals facts s None none = tt
evaluation_if test around locals facts s (Some e) none = evaluation test around locals facts s e none

conversion_if : (around : Around) (locals : List BareBinding) (type : BareType) (e : Option Expr)
    → IfStores (look around.text) (option_map (tree_of (look around.text) locals) (option_map bare_expr e))
    → IfStores (look around.text) (option_map (λ x. made.Convert type (tree_of (look around.text) locals x)) (option_map bare_expr e))
conversion_if around locals type None h = tt
conversion_if around locals type (Some e) h = h

-- ---- what a function returns

-- the type of a function's result, as its statements are resolved
abbrev result_in : Around → BareType
result_in around = unwrap_or (option_map bare_type around.result) int

returned : (at : ℕ) (around : Around) (locals : List BareBinding) → Facts around.text → InStep around.text around.scopes locals → (e : Expr)
    (result : Option CType) → value_return_faults result at around e ≡ [] → Stores (look around.text) (tree_of (look around.text) locals (bare_expr e))
returned at around locals facts s e None none = cc
returned at around locals facts s e (Some t) none = evaluation (fits around.text t) around locals facts s e none

void_is_int : (result : Option CType) (at : ℕ) → return_faults result at ≡ [] → Some int ≡ Some (unwrap_or (option_map bare_type result) int)
void_is_int None at none = refl
void_is_int (Some t) at none = cc

-- ---- statements

abbrev StmtKept : (Around → Walked) → BareStmt → Type 0
StmtKept w b =
    (around : Around) (locals : List BareBinding) → Facts around.text → InStep around.text around.scopes locals → (w around).faults ≡ []
    → StmtStores (look around.text) (result_in around) (statement (look around.text) (result_in around) locals b)

abbrev EachKept : List Stmt → Type 0
EachKept [] = Unit {0}
EachKept (s ∷ ss) = StmtKept (walk s) (bare_stmt s) × EachKept ss

each_fits : (ss : List Stmt) → EachStmtFits ss
each_fits [] = tt
each_fits (s ∷ ss) = (stmt_fits s, each_fits ss)

all_kept : (ss : List Stmt) → EachKept ss → (around : Around) (locals : List BareBinding) → Facts around.text
    → InStep around.text around.scopes locals → (in_order (map walk ss) around).faults ≡ []
    → StmtsStore (look around.text) (result_in around) (statements (look around.text) (result_in around) locals (bare_block (map bare_stmt ss)))
all_kept [] kept around locals facts s none = tt
all_kept (x ∷ xs) kept around locals facts s none =
    let own = none_before (walk x around).faults _ none in
    let after = (stmt_fits x around locals facts s own).after in (
      kept.0 around locals facts s own,
      all_kept xs kept.1 (behind (walk x around).scopes around) (declared_by (bare_stmt x) locals) facts after
          (none_after (walk x around).faults _ none),
    )

declared_keeps : (x : Declaration) (around : Around) (locals : List BareBinding) → Facts around.text → InStep around.text around.scopes locals
    → (walk_declaration around x).faults ≡ []
    → StmtStores (look around.text) (result_in around) (statement (look around.text) (result_in around) locals (bare_stmt_node (Declare x)))
declared_keeps x around locals facts s none =
    let inner : Scopes = declare x.name.text x.declared around.scopes in
    let own : BareBinding = record { declared = bare_type x.declared; name = x.name.text } in
    let repeated : List Fault = unless (not (is_repeated x.name.text around.scopes)) DeclaredTwice x.name.place in
    let halves = none_hidden (optional_faults (fits around.text x.declared) (behind inner around) x.initial) (unknown_tag around.text x.declared ++ repeated) none in
    let new = passes (not (is_repeated x.name.text around.scopes)) DeclaredTwice x.name.place (none_after (unknown_tag around.text x.declared) repeated halves.1) in
    let k = known_tag around.text x.declared (none_before (unknown_tag around.text x.declared) repeated halves.1) in
    conversion_if around (own ∷ locals) (bare_type x.declared) x.initial
    (evaluation_if (fits around.text x.declared) (behind inner around) (own ∷ locals) facts
    (one_more around.text around.scopes locals x.name.text x.declared s new k) x.initial halves.0)

abbrev Proved : Type 0
Proved = (s : Stmt) × StmtKept (walk s) (bare_stmt s)

each : (ss : List Proved) → EachKept (map (λ s. s.0) ss)
each [] = tt
each (s ∷ ss) = (s.1, each ss)

abbrev Layer : Stmt-F Stmt → Type 0
Layer x = StmtKept (stmt_node x.place (map-Stmt Stmt (Around → Walked) walk x).node) (bare_stmt_node (map-Stmt Stmt BareStmt bare_stmt x).node)

of_node : (place : ℕ) (n : StmtNode Proved) → Layer (map-Stmt Proved Stmt (λ s. s.0) (record { place = place; node = n }))
of_node place (Block ss) around locals facts s none =
    all_kept (map (λ x. x.0) ss) (each ss) (in_block around) locals facts (inner_block around.text around.scopes locals s) none
of_node place Empty around locals facts s none = tt
of_node place (Evaluate e) around locals facts s none = evaluation is_evaluated around locals facts s e none
of_node place (Declare x) around locals facts s none = declared_keeps x around locals facts s none
of_node place (If c a) around locals facts s none = (
  evaluation is_condition around locals facts s c (none_before (expression_faults is_condition around c) _ none),
  a.1 (in_block around) locals facts (inner_block around.text around.scopes locals s) (none_after (expression_faults is_condition around c) _ none),
)
of_node place (IfElse c a b) around locals facts s none =
    let inner = inner_block around.text around.scopes locals s in
    let branches = none_after (expression_faults is_condition around c) _ none in (
      evaluation is_condition around locals facts s c (none_before (expression_faults is_condition around c) _ none),
      a.1 (in_block around) locals facts inner (none_before (walk a.0 (in_block around)).faults _ branches),
      b.1 (in_block around) locals facts inner (none_after (walk a.0 (in_block around)).faults _ branches),
    )
of_node place (While c a) around locals facts s none = (
  evaluation is_condition around locals facts s c (none_before (expression_faults is_condition around c) _ none),
  a.1 (in_block (in_loop around)) locals facts (inner_block around.text around.scopes locals s)
      (none_after (expression_faults is_condition around c) _ none),
)
of_node place (DoWhile a c) around locals facts s none =
    let body = (walk a.0 (in_block (in_loop around))).faults in (
      a.1 (in_block (in_loop around)) locals facts (inner_block around.text around.scopes locals s) (none_before body _ none),
      evaluation is_condition around locals facts s c (none_after body _ none),
    )
of_node place (For first test step a) around locals facts s none =
    let block = in_block around in
    let opening = in_order (map walk (map (λ x. x.0) first)) block in
    let then = behind opening.scopes block in
    let of_test = optional_faults is_condition then test in
    let of_step = optional_faults is_evaluated then step in
    let body = (walk a.0 (in_block (in_loop then))).faults in
    let own = none_before opening.faults (of_test ++ (of_step ++ body)) none in
    let turn = none_after opening.faults (of_test ++ (of_step ++ body)) none in
    let rest = none_after of_test (of_step ++ body) turn in
    let inner = inner_block around.text around.scopes locals s in
    let known = declared_by_all (bare_block (map bare_stmt (map (λ x. x.0) first))) locals in
    let begun = (all_follow (map (λ x. x.0) first) (each_fits (map (λ x. x.0) first)) block locals facts inner own).after in (
      all_kept (map (λ x. x.0) first) (each first) block locals facts inner own,
      evaluation_if is_condition then known facts begun test (none_before of_test (of_step ++ body) turn),
      evaluation_if is_evaluated then known facts begun step (none_before of_step body rest),
      a.1 (in_block (in_loop then)) known facts (inner_block around.text opening.scopes known begun) (none_after of_step body rest),
    )
of_node place Break around locals facts s none = tt
of_node place Continue around locals facts s none = tt
of_node place Return around locals facts s none = (void_is_int around.result place (none_before (return_faults around.result place) _ none), tt)
of_node place (ReturnValue e) around locals facts s none =
    (refl, returned place around locals facts s e around.result (none_after (leaving_faults around place) _ none))
of_node place Update around locals facts s none = tt
of_node place (Transaction ss end) around locals facts s none =
    all_kept (map (λ x. x.0) ss) (each ss) (in_block (in_a_transaction around)) locals facts
    (inner_block around.text around.scopes locals s) none

stmt_kept : (s : Stmt) → StmtKept (walk s) (bare_stmt s)
stmt_kept = ind-Stmt (λ s. StmtKept (walk s) (bare_stmt s)) (λ x y is.
    let layer : Layer x = subst Layer is (of_node y.place y.node) in
    subst₂ StmtKept (sym (fold-roll-Stmt (Around → Walked) (λ s. stmt_node s.place s.node) x))
    (sym (fold-roll-Stmt BareStmt (λ s. bare_stmt_node s.node) x)) layer)

each_kept : (ss : List Stmt) → EachKept ss
each_kept [] = tt
each_kept (s ∷ ss) = (stmt_kept s, each_kept ss)

-- ---- functions

-- what a definition's body stores
abbrev BodyKept : List Def → Option BareDef → Type 0
BodyKept text o = StmtsStore (look text) (result_type o) (resolved_body (look text) o)

function_kept : (text : List Def) (result : Option CType) (name : Bytes) (bs : List BareBinding) (body : BareStmts)
    → StmtsStore (look text) (unwrap_or (option_map bare_type result) int)
    (statements (look text) (unwrap_or (option_map bare_type result) int) (as_locals bs) body)
    → BodyKept text (Some (Function (option_map bare_type result) name bs body))
function_kept text None name bs body h = h
function_kept text (Some t) name bs body h = h

kind_kept : (text : List Def) → Facts text → (k : DefKind) → Sound text k → BodyKept text (Some (bare_kind k))
kind_kept text facts (kind.Struct tag members) s = tt
kind_kept text facts (kind.Forward tag) s = tt
kind_kept text facts (kind.Mutex name) s = tt
kind_kept text facts (kind.Function f) s =
    function_kept text f.result f.name.text (map bare_binding f.parameters) (bare_block (map bare_stmt f.body))
    (all_kept f.body (each_kept f.body) (inside text f) (as_locals (map bare_binding f.parameters)) facts (with_all text f.parameters s.parameters) s.body)
kind_kept text facts (kind.Prototype p) s = tt
kind_kept text facts (kind.Global d) s = tt
kind_kept text facts (kind.Array a) s = tt
kind_kept text facts (kind.TransformStruct t) s = tt
kind_kept text facts (kind.TransformGlobal name v) s = tt

found_kept : (text ds : List Def) (name : Bytes) → Facts text → AllSound text ds → BodyKept text (find (defines name) (map bare_def ds))
found_kept text [] name facts s = tt
found_kept text (d ∷ ds) name facts s = by (defines name (bare_def d)) (found_kept text ds name facts s.1)
  where
    by : (b : Bool) → BodyKept text (find (defines name) (map bare_def ds))
        → BodyKept text (cond b (Some (bare_def d)) (find (defines name) (map bare_def ds)))
    by true rest = kind_kept text facts d.kind s.0
    by false rest = rest

-- each body of a text stores values of the declared types
abbrev pub BodiesStore : List BareDef → Type 0
BodiesStore text =
    (function : Bytes)
    → StmtsStore (definition text) (result_type (definition text function)) (resolved_body (definition text) (definition text function))

pub accepted_bodies_store : (text : Text) → IsAccepted text → BodiesStore text.definitions
accepted_bodies_store text a =
    subst BodiesStore (bare_of text a)
    (λ function. found_kept text.tree.definitions text.tree.definitions function (facts_in text a) (facts_in text a).sound)
