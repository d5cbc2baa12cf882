-- An expression with the meaning of another has its form.
use Rattle.std.proofs.Common.{◌≡◌, ℕ, List, refl, sym, ◌∙◌, ap, subst}
use Rattle.c_ints.specs.declared.int.Int.{Int}
use Rattle.c_ints.specs.declared.operator.BinOp.{BinOp}
use Rattle.c_ints.specs.declared.operator.UnOp.{UnOp}
use Rattle.c_tree.specs.declared.name.CType.{CType}
use Rattle.c_tree.specs.declared.name.Name.{Name}
use Rattle.c_tree.specs.declared.expr.StepOp.{StepOp}
use Rattle.c_tree.specs.declared.expr.Expr.{Expr, out-Expr}
use Rattle.c_tree.specs.declared.expr.Expr.TheFolds.{map-Expr}
use Rattle.c_tree.specs.declared.expr.ExprNode.{ExprNode}
use Rattle.c_tree.specs.declared.expr.ExprNode.TheVariants.{Number, Character, Null, Success, Error, Variable, Unary, Step, Cast, Binary, And, Or, Choice, Assign, Update, Call, Element, Arrow, Dot, Print, Calloc, Free, Create, Join, JoinInto, InitMutex, Lock, Unlock}
use Rattle.c_tree.specs.BareExpr.{Bytes, BareExpr}
use Rattle.c_tree.specs.BareExpr as bare
use Rattle.c_tree.specs.Bare.{bare_node, bare_expr}
use Rattle.c_tree.proofs.Exprs.{by_node}

-- the forms of expressions
pub data Form : Type 0 where
  NumberForm : Form
  CharacterForm : Form
  NullForm : Form
  SuccessForm : Form
  ErrorForm : Form
  VariableForm : Form
  UnaryForm : Form
  StepForm : Form
  CastForm : Form
  BinaryForm : Form
  AndForm : Form
  OrForm : Form
  ChoiceForm : Form
  AssignForm : Form
  UpdateForm : Form
  CallForm : Form
  ElementForm : Form
  ArrowForm : Form
  DotForm : Form
  PrintForm : Form
  CallocForm : Form
  FreeForm : Form
  CreateForm : Form
  JoinForm : Form
  JoinIntoForm : Form
  InitMutexForm : Form
  LockForm : Form
  UnlockForm : Form

-- the form of a node
abbrev pub form_of : ExprNode Expr → Form
form_of (Number n) = NumberForm
form_of (Character n) = CharacterForm
form_of Null = NullForm
form_of Success = SuccessForm
form_of Error = ErrorForm
form_of (Variable name) = VariableForm
form_of (Unary op a) = UnaryForm
form_of (Step op a) = StepForm
form_of (Cast to a) = CastForm
form_of (Binary op a b) = BinaryForm
form_of (And a b) = AndForm
form_of (Or a b) = OrForm
form_of (Choice a b c) = ChoiceForm
form_of (Assign a b) = AssignForm
form_of (Update op a b) = UpdateForm
form_of (Call name arguments) = CallForm
form_of (Element name a) = ElementForm
form_of (Arrow a field) = ArrowForm
form_of (Dot a field) = DotForm
form_of (Print place format arguments) = PrintForm
form_of (Calloc name) = CallocForm
form_of (Free a) = FreeForm
form_of (Create a name b) = CreateForm
form_of (Join a) = JoinForm
form_of (JoinInto a b) = JoinIntoForm
form_of (InitMutex name) = InitMutexForm
form_of (Lock name) = LockForm
form_of (Unlock name) = UnlockForm

-- the same, without places
abbrev bare_form : BareExpr → Form
bare_form (bare.Number n) = NumberForm
bare_form (bare.Character n) = CharacterForm
bare_form bare.Null = NullForm
bare_form bare.Success = SuccessForm
bare_form bare.Error = ErrorForm
bare_form (bare.Variable name) = VariableForm
bare_form (bare.Unary op a) = UnaryForm
bare_form (bare.Step op a) = StepForm
bare_form (bare.Cast to a) = CastForm
bare_form (bare.Binary op a b) = BinaryForm
bare_form (bare.And a b) = AndForm
bare_form (bare.Or a b) = OrForm
bare_form (bare.Choice a b c) = ChoiceForm
bare_form (bare.Assign a b) = AssignForm
bare_form (bare.Update op a b) = UpdateForm
bare_form (bare.Call name arguments) = CallForm
bare_form (bare.Element name a) = ElementForm
bare_form (bare.Arrow a field) = ArrowForm
bare_form (bare.Dot a field) = DotForm
bare_form (bare.Print format arguments) = PrintForm
bare_form (bare.Calloc name) = CallocForm
bare_form (bare.Free a) = FreeForm
bare_form (bare.Create a name b) = CreateForm
bare_form (bare.Join a) = JoinForm
bare_form (bare.JoinInto a b) = JoinIntoForm
bare_form (bare.InitMutex name) = InitMutexForm
bare_form (bare.Lock name) = LockForm
bare_form (bare.Unlock name) = UnlockForm

-- a node has a form
abbrev pub HasForm : Form → ExprNode Expr → Type 0
HasForm NumberForm node = (n : Int) × (node ≡ Number n)
HasForm CharacterForm node = (n : Int) × (node ≡ Character n)
HasForm NullForm node = node ≡ Null
HasForm SuccessForm node = node ≡ Success
HasForm ErrorForm node = node ≡ Error
HasForm VariableForm node = (name : Bytes) × (node ≡ Variable name)
HasForm UnaryForm node = (op : UnOp) × (a : Expr) × (node ≡ Unary op a)
HasForm StepForm node = (op : StepOp) × (a : Expr) × (node ≡ Step op a)
HasForm CastForm node = (to : CType) × (a : Expr) × (node ≡ Cast to a)
HasForm BinaryForm node = (op : BinOp) × (a : Expr) × (b : Expr) × (node ≡ Binary op a b)
HasForm AndForm node = (a : Expr) × (b : Expr) × (node ≡ And a b)
HasForm OrForm node = (a : Expr) × (b : Expr) × (node ≡ Or a b)
HasForm ChoiceForm node = (a : Expr) × (b : Expr) × (c : Expr) × (node ≡ Choice a b c)
HasForm AssignForm node = (a : Expr) × (b : Expr) × (node ≡ Assign a b)
HasForm UpdateForm node = (op : BinOp) × (a : Expr) × (b : Expr) × (node ≡ Update op a b)
HasForm CallForm node = (name : Bytes) × (arguments : List Expr) × (node ≡ Call name arguments)
HasForm ElementForm node = (name : Bytes) × (a : Expr) × (node ≡ Element name a)
HasForm ArrowForm node = (a : Expr) × (field : Name) × (node ≡ Arrow a field)
HasForm DotForm node = (a : Expr) × (field : Name) × (node ≡ Dot a field)
HasForm PrintForm node = (place : ℕ) × (format : Bytes) × (arguments : List Expr) × (node ≡ Print place format arguments)
HasForm CallocForm node = (name : Name) × (node ≡ Calloc name)
HasForm FreeForm node = (a : Expr) × (node ≡ Free a)
HasForm CreateForm node = (a : Expr) × (name : Name) × (b : Expr) × (node ≡ Create a name b)
HasForm JoinForm node = (a : Expr) × (node ≡ Join a)
HasForm JoinIntoForm node = (a : Expr) × (b : Expr) × (node ≡ JoinInto a b)
HasForm InitMutexForm node = (name : Name) × (node ≡ InitMutex name)
HasForm LockForm node = (name : Name) × (node ≡ Lock name)
HasForm UnlockForm node = (name : Name) × (node ≡ Unlock name)

-- each node has its own form
its_form : (node : ExprNode Expr) → HasForm (form_of node) node
its_form (Number n) = (n, refl)
its_form (Character n) = (n, refl)
its_form Null = refl
its_form Success = refl
its_form Error = refl
its_form (Variable name) = (name, refl)
its_form (Unary op a) = (op, a, refl)
its_form (Step op a) = (op, a, refl)
its_form (Cast to a) = (to, a, refl)
its_form (Binary op a b) = (op, a, b, refl)
its_form (And a b) = (a, b, refl)
its_form (Or a b) = (a, b, refl)
its_form (Choice a b c) = (a, b, c, refl)
its_form (Assign a b) = (a, b, refl)
its_form (Update op a b) = (op, a, b, refl)
its_form (Call name arguments) = (name, arguments, refl)
its_form (Element name a) = (name, a, refl)
its_form (Arrow a field) = (a, field, refl)
its_form (Dot a field) = (a, field, refl)
its_form (Print place format arguments) = (place, format, arguments, refl)
its_form (Calloc name) = (name, refl)
its_form (Free a) = (a, refl)
its_form (Create a name b) = (a, name, b, refl)
its_form (Join a) = (a, refl)
its_form (JoinInto a b) = (a, b, refl)
its_form (InitMutex name) = (name, refl)
its_form (Lock name) = (name, refl)
its_form (Unlock name) = (name, refl)

-- what is left of a node without places keeps its form
form_left : (place : ℕ) (node : ExprNode Expr) →
    bare_form (bare_node (map-Expr Expr BareExpr bare_expr (record { place = place; node = node })).node) ≡ form_of node
form_left p (Number n) = refl
form_left p (Character n) = refl
form_left p Null = refl
form_left p Success = refl
form_left p Error = refl
form_left p (Variable name) = refl
form_left p (Unary op a) = refl
form_left p (Step op a) = refl
form_left p (Cast to a) = refl
form_left p (Binary op a b) = refl
form_left p (And a b) = refl
form_left p (Or a b) = refl
form_left p (Choice a b c) = refl
form_left p (Assign a b) = refl
form_left p (Update op a b) = refl
form_left p (Call name arguments) = refl
form_left p (Element name a) = refl
form_left p (Arrow a field) = refl
form_left p (Dot a field) = refl
form_left p (Print at format arguments) = refl
form_left p (Calloc name) = refl
form_left p (Free a) = refl
form_left p (Create a name b) = refl
form_left p (Join a) = refl
form_left p (JoinInto a b) = refl
form_left p (InitMutex name) = refl
form_left p (Lock name) = refl
form_left p (Unlock name) = refl

form_is : (e : Expr) → bare_form (bare_expr e) ≡ form_of (out-Expr e).node
form_is e = ap bare_form (by_node e (out-Expr e).node refl) ∙ form_left (out-Expr e).place (out-Expr e).node

-- what means the same as a node has its form
pub same_form : (a b : Expr) (node : ExprNode Expr) → (out-Expr a).node ≡ node → bare_expr a ≡ bare_expr b →
    HasForm (form_of node) (out-Expr b).node
same_form a b node is e =
    let f : form_of (out-Expr b).node ≡ form_of node = sym (form_is b) ∙ ap bare_form (sym e) ∙ form_is a ∙ ap form_of is in
    subst (λ (f : Form). HasForm f (out-Expr b).node) f (its_form (out-Expr b).node)
