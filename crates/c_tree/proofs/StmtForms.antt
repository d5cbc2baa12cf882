-- A statement with the meaning of another has its form.
use Rattle.std.proofs.Common.{◌≡◌, ℕ, List, Option, refl, sym, ◌∙◌, ap, subst}
use Rattle.c_tree.specs.declared.expr.Expr.{Expr}
use Rattle.c_tree.specs.declared.stmt.Declaration.{Declaration}
use Rattle.c_tree.specs.declared.stmt.Stmt.{Stmt, out-Stmt}
use Rattle.c_tree.specs.declared.stmt.Stmt.TheFolds.{map-Stmt}
use Rattle.c_tree.specs.declared.stmt.StmtNode.{StmtNode}
use Rattle.c_tree.specs.declared.stmt.StmtNode.TheVariants.{Block, Empty, Evaluate, Declare, If, IfElse, While, DoWhile, For, Break, Continue, Return, ReturnValue, Update, Transaction}
use Rattle.c_tree.specs.BareStmt.{BareStmt}
use Rattle.c_tree.specs.BareStmt as bare
use Rattle.c_tree.specs.Bare.{bare_stmt_node, bare_stmt}
use Rattle.c_tree.proofs.Stmts.{by_node}

-- the forms of statements
pub data Form : Type 0 where
  BlockForm : Form
  EmptyForm : Form
  EvaluateForm : Form
  DeclareForm : Form
  IfForm : Form
  IfElseForm : Form
  WhileForm : Form
  DoWhileForm : Form
  ForForm : Form
  BreakForm : Form
  ContinueForm : Form
  ReturnForm : Form
  ReturnValueForm : Form
  UpdateForm : Form
  TransactionForm : Form

-- the form of a node
abbrev pub form_of : StmtNode Stmt → Form
form_of (Block body) = BlockForm
form_of Empty = EmptyForm
form_of (Evaluate e) = EvaluateForm
form_of (Declare d) = DeclareForm
form_of (If c s) = IfForm
form_of (IfElse c s t) = IfElseForm
form_of (While c s) = WhileForm
form_of (DoWhile s c) = DoWhileForm
form_of (For first test step s) = ForForm
form_of Break = BreakForm
form_of Continue = ContinueForm
form_of Return = ReturnForm
form_of (ReturnValue e) = ReturnValueForm
form_of Update = UpdateForm
form_of (Transaction body end) = TransactionForm

-- the same, without places
abbrev bare_form : BareStmt → Form
bare_form (bare.Block body) = BlockForm
bare_form bare.Empty = EmptyForm
bare_form (bare.Evaluate e) = EvaluateForm
bare_form (bare.Declare d) = DeclareForm
bare_form (bare.If c s) = IfForm
bare_form (bare.IfElse c s t) = IfElseForm
bare_form (bare.While c s) = WhileForm
bare_form (bare.DoWhile s c) = DoWhileForm
bare_form (bare.For first test step s) = ForForm
bare_form bare.Break = BreakForm
bare_form bare.Continue = ContinueForm
bare_form bare.Return = ReturnForm
bare_form (bare.ReturnValue e) = ReturnValueForm
bare_form bare.Update = UpdateForm
bare_form (bare.Transaction body) = TransactionForm

-- a node has a form
abbrev pub HasForm : Form → StmtNode Stmt → Type 0
HasForm BlockForm node = (body : List Stmt) × (node ≡ Block body)
HasForm EmptyForm node = node ≡ Empty
HasForm EvaluateForm node = (e : Expr) × (node ≡ Evaluate e)
HasForm DeclareForm node = (d : Declaration) × (node ≡ Declare d)
HasForm IfForm node = (c : Expr) × (s : Stmt) × (node ≡ If c s)
HasForm IfElseForm node = (c : Expr) × (s : Stmt) × (t : Stmt) × (node ≡ IfElse c s t)
HasForm WhileForm node = (c : Expr) × (s : Stmt) × (node ≡ While c s)
HasForm DoWhileForm node = (s : Stmt) × (c : Expr) × (node ≡ DoWhile s c)
HasForm ForForm node = (first : List Stmt) × (test : Option Expr) × (step : Option Expr) × (s : Stmt) × (node ≡ For first test step s)
HasForm BreakForm node = node ≡ Break
HasForm ContinueForm node = node ≡ Continue
HasForm ReturnForm node = node ≡ Return
HasForm ReturnValueForm node = (e : Expr) × (node ≡ ReturnValue e)
HasForm UpdateForm node = node ≡ Update
HasForm TransactionForm node = (body : List Stmt) × (end : ℕ) × (node ≡ Transaction body end)

-- each node has its own form
its_form : (node : StmtNode Stmt) → HasForm (form_of node) node
its_form (Block body) = (body, refl)
its_form Empty = refl
its_form (Evaluate e) = (e, refl)
its_form (Declare d) = (d, refl)
its_form (If c s) = (c, s, refl)
its_form (IfElse c s t) = (c, s, t, refl)
its_form (While c s) = (c, s, refl)
its_form (DoWhile s c) = (s, c, refl)
its_form (For first test step s) = (first, test, step, s, refl)
its_form Break = refl
its_form Continue = refl
its_form Return = refl
its_form (ReturnValue e) = (e, refl)
its_form Update = refl
its_form (Transaction body end) = (body, end, refl)

-- what is left of a node without places keeps its form
form_left : (place : ℕ) (node : StmtNode Stmt) →
    bare_form (bare_stmt_node (map-Stmt Stmt BareStmt bare_stmt (record { place = place; node = node })).node) ≡ form_of node
form_left p (Block body) = refl
form_left p Empty = refl
form_left p (Evaluate e) = refl
form_left p (Declare d) = refl
form_left p (If c s) = refl
form_left p (IfElse c s t) = refl
form_left p (While c s) = refl
form_left p (DoWhile s c) = refl
form_left p (For first test step s) = refl
form_left p Break = refl
form_left p Continue = refl
form_left p Return = refl
form_left p (ReturnValue e) = refl
form_left p Update = refl
form_left p (Transaction body end) = refl

form_is : (s : Stmt) → bare_form (bare_stmt s) ≡ form_of (out-Stmt s).node
form_is s = ap bare_form (by_node s (out-Stmt s).node refl) ∙ form_left (out-Stmt s).place (out-Stmt s).node

-- what means the same as a node has its form
pub same_form : (a b : Stmt) (node : StmtNode Stmt) → (out-Stmt a).node ≡ node → bare_stmt a ≡ bare_stmt b →
    HasForm (form_of node) (out-Stmt b).node
same_form a b node is e =
    let f : form_of (out-Stmt b).node ≡ form_of node = sym (form_is b) ∙ ap bare_form (sym e) ∙ form_is a ∙ ap form_of is in
    subst (λ (f : Form). HasForm f (out-Stmt b).node) f (its_form (out-Stmt b).node)
