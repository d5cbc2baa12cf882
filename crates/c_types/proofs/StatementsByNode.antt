-- What the definitions give at a statement by its node, and what a statement leaves of the scopes round it.
use Rattle.std.proofs.Common.{◌≡◌, ℕ, ◌+◌, ◌<◌, Bool, true, false, List, [], ◌∷◌, ◌++◌, Option, map, length, get_or, drop, refl, ◌∙◌, sym, ap, append_assoc, if◌then◌else◌}
use Rattle.std.proofs.lemmas.List.{at_drop_more}
use Rattle.c_scope.specs.Tables.{declared}
use Rattle.c_tree.specs.declared.name.CType.{CType}
use Rattle.c_tree.specs.declared.expr.Expr.{Expr}
use Rattle.c_tree.specs.declared.stmt.Stmt.{Stmt, out-Stmt}
use Rattle.c_tree.specs.declared.stmt.Stmt.TheFolds.{fold_out-Stmt, map-Stmt}
use Rattle.c_tree.specs.declared.stmt.StmtNode.{StmtNode}
use Rattle.c_tree.specs.declared.stmt.StmtNode.TheVariants.{Block, Empty, Evaluate, Declare, If, IfElse, While, DoWhile, For, Break, Continue, Return, ReturnValue, Update, Transaction}
use Rattle.c_expr_types.specs.declared.fault.Fault.{Fault}
use Rattle.c_expr_types.specs.Faults.{sooner, first}
use Rattle.c_expr_types.proofs.Firsts.{sooner_of_three, first_append}
use Rattle.c_definitions.specs.Lookup.{Scopes, is_repeated}
use Rattle.c_expr_types.specs.Expressions.{is_condition}
use Rattle.c_expr_types.specs.Found.{is_evaluated}
use Rattle.c_types.specs.Statements.{Around, Walked, behind, expression_faults, in_block, in_loop, in_order, optional_faults, stmt_node, walk}

-- a statement by its node
pub walk_of : (s : Stmt) (node : StmtNode Stmt) (around : Around) → (out-Stmt s).node ≡ node →
    walk s around
    ≡ stmt_node (out-Stmt s).place (map-Stmt Stmt (Around → Walked) walk (record { place = (out-Stmt s).place; node = node })).node around
walk_of s node around is =
    ap (λ w. w around) (fold_out-Stmt (Around → Walked) (λ s'. stmt_node s'.place s'.node) s)
    ∙ ap (λ n. stmt_node (out-Stmt s).place (map-Stmt Stmt (Around → Walked) walk (record { place = (out-Stmt s).place; node = n })).node around) is

-- at most the innermost block changes
pub record SameOutside (before after : Scopes) : Type 0 where
  pub outer : drop 1 after ≡ drop 1 before
  pub depth : length after ≡ length before

unchanged : (scopes : Scopes) → SameOutside scopes scopes
unchanged scopes = record { outer = refl; depth = refl }

pub outside_twice : {a b c : Scopes} → SameOutside a b → SameOutside b c → SameOutside a c
outside_twice x y = record { outer = y.outer ∙ x.outer; depth = y.depth ∙ x.depth }

outside_declared : (scopes : Scopes) (name : List ℕ) (t : CType) → SameOutside scopes (declared scopes name t)
outside_declared [] name t = unchanged []
outside_declared (table ∷ scopes) name t = record { outer = refl; depth = refl }

outside_if : (b : Bool) (scopes new : Scopes) → SameOutside scopes new → SameOutside scopes (if b then scopes else new)
outside_if true scopes new same = unchanged scopes
outside_if false scopes new same = same

outside_of_node : (at : ℕ) (node : StmtNode (Around → Walked)) (around : Around) →
    SameOutside around.scopes (stmt_node at node around).scopes
outside_of_node at (Block body) around = unchanged around.scopes
outside_of_node at Empty around = unchanged around.scopes
outside_of_node at (Evaluate e) around = unchanged around.scopes
outside_of_node at (Declare d) around =
    outside_if (is_repeated d.name.text around.scopes) around.scopes (declared around.scopes d.name.text d.declared)
    (outside_declared around.scopes d.name.text d.declared)
outside_of_node at (If c s) around = unchanged around.scopes
outside_of_node at (IfElse c s t) around = unchanged around.scopes
outside_of_node at (While c s) around = unchanged around.scopes
outside_of_node at (DoWhile s c) around = unchanged around.scopes
outside_of_node at (For first test step s) around = unchanged around.scopes
outside_of_node at Break around = unchanged around.scopes
outside_of_node at Continue around = unchanged around.scopes
outside_of_node at Return around = unchanged around.scopes
outside_of_node at (ReturnValue e) around = unchanged around.scopes
outside_of_node at Update around = unchanged around.scopes
outside_of_node at (Transaction body end) around = unchanged around.scopes

pub outside_of_walk : (s : Stmt) (around : Around) → SameOutside around.scopes (walk s around).scopes
outside_of_walk s around =
    rw (walk_of s (out-Stmt s).node around refl)
    (outside_of_node (out-Stmt s).place (map-Stmt Stmt (Around → Walked) walk (out-Stmt s)).node around)

pub outside_of_all : (body : List Stmt) (around : Around) → SameOutside around.scopes (in_order (map walk body) around).scopes
outside_of_all [] around = unchanged around.scopes
outside_of_all (s ∷ body) around =
    outside_twice (outside_of_walk s around) (outside_of_all body (behind (walk s around).scopes around))

-- one step along statements: what was found so far, with what is found of the rest
pub statement_faults_step : (body : List Stmt) (i : ℕ) (s : Stmt) (around : Around) (scopes : Scopes) (now next : Option Fault) →
    i < length body → s ≡ get_or body i s → scopes ≡ (walk s around).scopes → next ≡ sooner now (first (walk s around).faults) →
    sooner next (first (in_order (map walk (drop (i + 1) body)) (behind scopes around)).faults)
    ≡ sooner now (first (in_order (map walk (drop i body)) around).faults)
statement_faults_step body i s around scopes now next below is left made =
    let rest : Scopes → List Fault = λ inner. (in_order (map walk (drop (i + 1) body)) (behind inner around)).faults in
    ap (λ inner. sooner next (first (rest inner))) left
    ∙ ap (λ n. sooner n (first (rest (walk s around).scopes))) made
    ∙ sym (sooner_of_three now (first (walk s around).faults) (first (rest (walk s around).scopes)))
    ∙ ap (sooner now)
    (sym (first_append (walk s around).faults (rest (walk s around).scopes))
    ∙ ap (λ s'. first (in_order (map walk (s' ∷ drop (i + 1) body)) around).faults) is
    ∙ sym (at_drop_more (λ ss. first (in_order (map walk ss) around).faults) body i s below))

pub statement_scopes_step : (body : List Stmt) (i : ℕ) (s : Stmt) (around : Around) (scopes : Scopes) →
    i < length body → s ≡ get_or body i s → scopes ≡ (walk s around).scopes →
    (in_order (map walk (drop (i + 1) body)) (behind scopes around)).scopes
    ≡ (in_order (map walk (drop i body)) around).scopes
statement_scopes_step body i s around scopes below is left =
    ap (λ inner. (in_order (map walk (drop (i + 1) body)) (behind inner around)).scopes) left
    ∙ ap (λ s'. (in_order (map walk (s' ∷ drop (i + 1) body)) around).scopes) is
    ∙ sym (at_drop_more (λ ss. (in_order (map walk ss) around).scopes) body i s below)

-- the first fault of a statement with others in it, by its node
pub fault_of_if_else : (s : Stmt) (test : Expr) (body otherwise : Stmt) (around : Around) →
    (out-Stmt s).node ≡ IfElse test body otherwise →
    first (walk s around).faults
    ≡ sooner (first (expression_faults is_condition around test ++ (walk body (in_block around)).faults))
    (first ((walk otherwise (in_block around)).faults))
fault_of_if_else s test body otherwise around is =
    let of_test : List Fault = expression_faults is_condition around test in
    let of_body : List Fault = (walk body (in_block around)).faults in
    let of_otherwise : List Fault = (walk otherwise (in_block around)).faults in
    ap (λ w. first w.faults) (walk_of s (IfElse test body otherwise) around is)
    ∙ ap first (sym (append_assoc of_test of_body of_otherwise))
    ∙ first_append (of_test ++ of_body) of_otherwise

-- what comes after the first part of a `for`
abbrev pub turn : Option Expr → Option Expr → Stmt → Around → List Fault
turn test step body around =
    optional_faults is_condition around test
    ++ (optional_faults is_evaluated around step ++ (walk body (in_block (in_loop around))).faults)

pub fault_of_for : (s : Stmt) (opening : List Stmt) (test step : Option Expr) (body : Stmt) (around : Around) →
    (out-Stmt s).node ≡ For opening test step body →
    first (walk s around).faults
    ≡ (let first_part : Walked = in_order (map walk opening) (in_block around) in
    sooner (first first_part.faults) (first (turn test step body (behind first_part.scopes around))))
fault_of_for s opening test step body around is =
    let first_part : Walked = in_order (map walk opening) (in_block around) in
    ap (λ w. first w.faults) (walk_of s (For opening test step body) around is)
    ∙ first_append first_part.faults (turn test step body (behind first_part.scopes around))

-- the sooner of two faults that are known
pub sooner_is : {r a b x y : Option Fault} → r ≡ sooner a b → a ≡ x → b ≡ y → r ≡ sooner x y
sooner_is {b = b} {x = x} r a y = r ∙ ap (λ f. sooner f b) a ∙ ap (sooner x) y
