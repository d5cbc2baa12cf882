-- The types of statements (6.8) and of the declarations in blocks (6.7). A statement is no node of its own: what is wrong
-- with it hides nothing, and nothing in it hides that.
use Rattle.std.specs.Prelude.{ℕ, ◌+◌, Bool, true, not, List, [], ◌∷◌, ◌++◌, Option, Some, None}
use Rattle.c_tree.specs.declared.name.CType.{CType}
use Rattle.c_tree.specs.declared.expr.Expr.{Expr}
use Rattle.c_tree.specs.declared.stmt.Declaration.{Declaration}
use Rattle.c_tree.specs.declared.stmt.Stmt.{Stmt}
use Rattle.c_tree.specs.declared.stmt.Stmt.TheFolds.{fold-Stmt}
use Rattle.c_tree.specs.declared.stmt.StmtNode.{StmtNode}
use Rattle.c_tree.specs.declared.stmt.StmtNode.TheVariants.{Block, Empty, Evaluate, Declare, If, IfElse, While, DoWhile, For, Break, Continue, Return, ReturnValue, Update, Transaction}
use Rattle.c_tree.specs.declared.def.Def.{Def}
use Rattle.c_expr_types.specs.declared.fault.TypeKind.TheVariants.{DeclaredTwice, WrongType, OutsideLoop, LeavesTransaction}
use Rattle.c_expr_types.specs.declared.fault.Fault.{Fault}
use Rattle.c_expr_types.specs.Faults.{fault, unless}
use Rattle.c_definitions.specs.Lookup.{Scopes, declare, is_repeated}
use Rattle.c_definitions.specs.declared.lookup.Position.TheVariants.{InFunction}
use Rattle.c_types.specs.declared.statement.Loop.{Loop}
use Rattle.c_types.specs.declared.statement.Loop.TheVariants.{Outside, Within, Beyond}
use Rattle.c_expr_types.specs.declared.found.Found.{Found}
use Rattle.c_expr_types.specs.declared.found.Part.{Part}
use Rattle.c_expr_types.specs.Found.{required, is_evaluated}
use Rattle.c_expr_types.specs.Expressions.{is_condition, fits, unknown_tag, infer}

-- what surrounds a statement
pub record Around : Type 0 where
  pub text : List Def
  -- the type of the function's result; none where it is void
  pub result : Option CType
  pub loop : Loop
  pub in_transaction : Bool
  pub scopes : Scopes

-- what is found of a statement: its faults and the scopes after it
pub record Walked : Type 0 where
  pub faults : List Fault
  pub scopes : Scopes

-- faults of the parts hide those of the whole
abbrev pub hiding : List Fault → List Fault → List Fault
hiding [] whole = whole
hiding (f ∷ more) whole = f ∷ more

-- the same place in a block of its own, in a loop, in a transaction, after a declaration
abbrev pub in_block : Around → Around
in_block around = record around { scopes = [] ∷ around.scopes }

abbrev pub in_loop : Around → Around
in_loop around = record around { loop = Within }

abbrev pub beyond : Loop → Loop
beyond Outside = Outside
beyond _ = Beyond

abbrev pub in_a_transaction : Around → Around
in_a_transaction around = record around { loop = beyond around.loop; in_transaction = true }

abbrev pub behind : Scopes → Around → Around
behind scopes around = record around { scopes = scopes }

-- an expression
abbrev pub part_in : Around → Expr → Part
part_in around e = infer (record { text = around.text; scopes = around.scopes; position = InFunction }) e

-- an expression of which something is required
abbrev pub expression_faults : (Found → Bool) → Around → Expr → List Fault
expression_faults test around e = required (test (part_in around e).found) (part_in around e)

abbrev pub optional_faults : (Found → Bool) → Around → Option Expr → List Fault
optional_faults test around None = []
optional_faults test around (Some e) = expression_faults test around e

-- a declaration in a block (6.7): the variable is known in its own initialiser (6.2.1p7). The initialiser is its part
abbrev pub walk_declaration : Around → Declaration → Walked
walk_declaration around d =
    let inner : Scopes = declare d.name.text d.declared around.scopes in
    record {
      faults = hiding (optional_faults (fits around.text d.declared) (behind inner around) d.initial)
          (unknown_tag around.text d.declared
          ++ unless (not (is_repeated d.name.text around.scopes)) DeclaredTwice d.name.place);
      scopes = inner;
    }

-- a `break` or `continue` (6.8.6.2, 6.8.6.3)
abbrev pub jump_faults : Loop → ℕ → List Fault
jump_faults Outside at = fault OutsideLoop at ∷ []
jump_faults Within at = []
jump_faults Beyond at = fault LeavesTransaction at ∷ []

-- `return` in a function with a result or none (6.8.6.4)
abbrev pub leaving_faults : Around → ℕ → List Fault
leaving_faults around at = unless (not around.in_transaction) LeavesTransaction at

abbrev pub return_faults : Option CType → ℕ → List Fault
return_faults None at = []
return_faults (Some t) at = fault WrongType at ∷ []

abbrev pub value_return_faults : Option CType → ℕ → Around → Expr → List Fault
value_return_faults None at around e = fault WrongType at ∷ expression_faults is_evaluated around e
value_return_faults (Some t) at around e = expression_faults (fits around.text t) around e

-- what comes after some faults
abbrev pub with_faults : List Fault → Walked → Walked
with_faults faults rest = record { faults = faults ++ rest.faults; scopes = rest.scopes }

-- statements one after another: each declaration holds for what is after it
abbrev pub in_sequence : Walked → (Scopes → Walked) → Walked
in_sequence s rest = with_faults s.faults (rest s.scopes)

abbrev pub in_order : List (Around → Walked) → Around → Walked
in_order [] around = record { faults = []; scopes = around.scopes }
in_order (s ∷ ss) around = in_sequence (s around) (λ scopes. in_order ss (behind scopes around))

-- a statement that declares nothing for what is after it
abbrev pub plain : Around → List Fault → Walked
plain around faults = record { faults = faults; scopes = around.scopes }

-- `for` (6.8.5.3), a block of its own: after its first part come the test, the step and the body. The first part and the
-- step may be without a value
abbrev pub for_faults : Option Expr → Option Expr → (Around → Walked) → Around → Walked → List Fault
for_faults test step body around first =
    first.faults
    ++ (optional_faults is_condition (behind first.scopes around) test
    ++ (optional_faults is_evaluated (behind first.scopes around) step
    ++ (body (in_block (in_loop (behind first.scopes around)))).faults))

-- a statement at a place, by the statements in it; each part of an `if` or a loop is a block of its own (6.8.4 paragraph 3,
-- 6.8.5 paragraph 5)
abbrev pub stmt_node : ℕ → StmtNode (Around → Walked) → Around → Walked
stmt_node at (Block body) around = plain around (in_order body (in_block around)).faults
stmt_node at Empty around = plain around []
stmt_node at (Evaluate e) around = plain around (expression_faults is_evaluated around e)
stmt_node at (Declare d) around = walk_declaration around d
stmt_node at (If c s) around = plain around (expression_faults is_condition around c ++ (s (in_block around)).faults)
stmt_node at (IfElse c s t) around =
    plain around (expression_faults is_condition around c ++ ((s (in_block around)).faults ++ (t (in_block around)).faults))
stmt_node at (While c s) around = plain around (expression_faults is_condition around c ++ (s (in_block (in_loop around))).faults)
stmt_node at (DoWhile s c) around = plain around ((s (in_block (in_loop around))).faults ++ expression_faults is_condition around c)
stmt_node at (For first test step s) around =
    plain around (for_faults test step s (in_block around) (in_order first (in_block around)))
stmt_node at Break around = plain around (jump_faults around.loop at)
stmt_node at Continue around = plain around (jump_faults around.loop at)
stmt_node at Return around = plain around (return_faults around.result at ++ leaving_faults around at)
stmt_node at (ReturnValue e) around = plain around (leaving_faults around at ++ value_return_faults around.result at around e)
stmt_node at Update around = plain around []
stmt_node at (Transaction body end) around = plain around (in_order body (in_block (in_a_transaction around))).faults

-- a statement
abbrev pub walk : Stmt → Around → Walked
walk = fold-Stmt (Around → Walked) (λ s. stmt_node s.place s.node)

-- How many variables a statement declares, by the statements in it.
abbrev pub total : List ℕ → ℕ
total [] = 0
total (n ∷ ns) = n + total ns

abbrev pub node_variables : StmtNode ℕ → ℕ
node_variables (Block body) = total body
node_variables (Declare d) = 1
node_variables (If c s) = s
node_variables (IfElse c s t) = s + t
node_variables (While c s) = s
node_variables (DoWhile s c) = s
node_variables (For first test step s) = total first + s
node_variables (Transaction body end) = total body
node_variables _ = 0

abbrev pub variables : Stmt → ℕ
variables = fold-Stmt ℕ (λ s. node_variables s.node)
