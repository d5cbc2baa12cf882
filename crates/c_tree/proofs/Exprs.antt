-- Expressions without their places, form by form.
use Rattle.std.proofs.Common.{◌≡◌, ℕ, List, [], ◌∷◌, map, refl, ◌∙◌, ap, arith}
use Rattle.c_tree.specs.declared.expr.Expr.{Expr, out-Expr}
use Rattle.c_tree.specs.declared.expr.Expr.TheFolds.{fold_out-Expr, map-Expr}
use Rattle.c_tree.specs.declared.expr.ExprNode.{ExprNode}
use Rattle.c_tree.specs.declared.expr.ExprNode.TheVariants.{Number, Character, Null, Success, Error, Variable, Unary, Step, Cast, Binary, And, Or, Choice, Assign, Update, Call, Element, Arrow, Dot, Print, Calloc, Free, Create, Join, JoinInto, InitMutex, Lock, Unlock}
use Rattle.c_ints.specs.declared.int.Int.{Int}
use Rattle.c_ints.specs.declared.operator.BinOp.{BinOp}
use Rattle.c_ints.specs.declared.operator.UnOp.{UnOp}
use Rattle.c_tree.specs.declared.expr.StepOp.{StepOp}
use Rattle.c_tree.specs.declared.name.CType.{CType}
use Rattle.c_tree.specs.declared.name.Name.{Name}
use Rattle.c_tree.specs.BareExpr.{Bytes, BareExpr}
use Rattle.c_tree.specs.BareExpr as bare
use Rattle.c_tree.specs.Bare.{bare_type, bare_arguments, bare_node, bare_expr}

-- arguments are listed in one way only
pub arguments_once : (xs ys : List BareExpr) → bare_arguments xs ≡ bare_arguments ys → xs ≡ ys
arguments_once [] [] e = refl
arguments_once [] (y ∷ ys) e = cc
arguments_once (x ∷ xs) [] e = cc
arguments_once (x ∷ xs) (y ∷ ys) e = grind (arith, arguments_once xs ys)

-- what an expression is without places, by its node
pub by_node : (e : Expr) (node : ExprNode Expr) → (out-Expr e).node ≡ node →
    bare_expr e ≡ bare_node (map-Expr Expr BareExpr bare_expr (record { place = (out-Expr e).place; node = node })).node
by_node e node is =
    fold_out-Expr BareExpr (λ e'. bare_node e'.node) e
    ∙ ap (λ n. bare_node (map-Expr Expr BareExpr bare_expr (record { place = (out-Expr e).place; node = n })).node) is

-- the same, form by form
pub of_call : (e : Expr) (name : List ℕ) (x : List Expr) → (out-Expr e).node ≡ Call name x →
    bare_expr e ≡ bare.Call name (bare_arguments (map bare_expr x))
of_call e name x is = by_node e (Call name x) is

pub of_print : (e : Expr) (place : ℕ) (format : List ℕ) (x : List Expr) → (out-Expr e).node ≡ Print place format x →
    bare_expr e ≡ bare.Print format (bare_arguments (map bare_expr x))
of_print e place format x is = by_node e (Print place format x) is

pub of_number : (e : Expr) (n : Int) → (out-Expr e).node ≡ Number n → bare_expr e ≡ bare.Number n
of_number e n is = by_node e (Number n) is

pub of_character : (e : Expr) (n : Int) → (out-Expr e).node ≡ Character n → bare_expr e ≡ bare.Character n
of_character e n is = by_node e (Character n) is

pub of_null : (e : Expr) → (out-Expr e).node ≡ Null → bare_expr e ≡ bare.Null
of_null e is = by_node e Null is

pub of_success : (e : Expr) → (out-Expr e).node ≡ Success → bare_expr e ≡ bare.Success
of_success e is = by_node e Success is

pub of_error : (e : Expr) → (out-Expr e).node ≡ Error → bare_expr e ≡ bare.Error
of_error e is = by_node e Error is

pub of_variable : (e : Expr) (name : Bytes) → (out-Expr e).node ≡ Variable name → bare_expr e ≡ bare.Variable name
of_variable e name is = by_node e (Variable name) is

pub of_unary : (e : Expr) (op : UnOp) (a : Expr) → (out-Expr e).node ≡ Unary op a →
    bare_expr e ≡ bare.Unary op (bare_expr a)
of_unary e op a is = by_node e (Unary op a) is

pub of_step : (e : Expr) (op : StepOp) (a : Expr) → (out-Expr e).node ≡ Step op a →
    bare_expr e ≡ bare.Step op (bare_expr a)
of_step e op a is = by_node e (Step op a) is

pub of_cast : (e : Expr) (to : CType) (a : Expr) → (out-Expr e).node ≡ Cast to a →
    bare_expr e ≡ bare.Cast (bare_type to) (bare_expr a)
of_cast e to a is = by_node e (Cast to a) is

pub of_binary : (e : Expr) (op : BinOp) (a b : Expr) → (out-Expr e).node ≡ Binary op a b →
    bare_expr e ≡ bare.Binary op (bare_expr a) (bare_expr b)
of_binary e op a b is = by_node e (Binary op a b) is

pub of_and : (e a b : Expr) → (out-Expr e).node ≡ And a b → bare_expr e ≡ bare.And (bare_expr a) (bare_expr b)
of_and e a b is = by_node e (And a b) is

pub of_or : (e a b : Expr) → (out-Expr e).node ≡ Or a b → bare_expr e ≡ bare.Or (bare_expr a) (bare_expr b)
of_or e a b is = by_node e (Or a b) is

pub of_choice : (e a b c : Expr) → (out-Expr e).node ≡ Choice a b c →
    bare_expr e ≡ bare.Choice (bare_expr a) (bare_expr b) (bare_expr c)
of_choice e a b c is = by_node e (Choice a b c) is

pub of_assign : (e a b : Expr) → (out-Expr e).node ≡ Assign a b →
    bare_expr e ≡ bare.Assign (bare_expr a) (bare_expr b)
of_assign e a b is = by_node e (Assign a b) is

pub of_update : (e : Expr) (op : BinOp) (a b : Expr) → (out-Expr e).node ≡ Update op a b →
    bare_expr e ≡ bare.Update op (bare_expr a) (bare_expr b)
of_update e op a b is = by_node e (Update op a b) is

pub of_element : (e : Expr) (name : Bytes) (a : Expr) → (out-Expr e).node ≡ Element name a →
    bare_expr e ≡ bare.Element name (bare_expr a)
of_element e name a is = by_node e (Element name a) is

pub of_arrow : (e : Expr) (a : Expr) (field : Name) → (out-Expr e).node ≡ Arrow a field →
    bare_expr e ≡ bare.Arrow (bare_expr a) field.text
of_arrow e a field is = by_node e (Arrow a field) is

pub of_dot : (e : Expr) (a : Expr) (field : Name) → (out-Expr e).node ≡ Dot a field →
    bare_expr e ≡ bare.Dot (bare_expr a) field.text
of_dot e a field is = by_node e (Dot a field) is

pub of_calloc : (e : Expr) (name : Name) → (out-Expr e).node ≡ Calloc name → bare_expr e ≡ bare.Calloc name.text
of_calloc e name is = by_node e (Calloc name) is

pub of_free : (e a : Expr) → (out-Expr e).node ≡ Free a → bare_expr e ≡ bare.Free (bare_expr a)
of_free e a is = by_node e (Free a) is

pub of_create : (e : Expr) (a : Expr) (name : Name) (b : Expr) → (out-Expr e).node ≡ Create a name b →
    bare_expr e ≡ bare.Create (bare_expr a) name.text (bare_expr b)
of_create e a name b is = by_node e (Create a name b) is

pub of_join : (e a : Expr) → (out-Expr e).node ≡ Join a → bare_expr e ≡ bare.Join (bare_expr a)
of_join e a is = by_node e (Join a) is

pub of_join_into : (e a b : Expr) → (out-Expr e).node ≡ JoinInto a b →
    bare_expr e ≡ bare.JoinInto (bare_expr a) (bare_expr b)
of_join_into e a b is = by_node e (JoinInto a b) is

pub of_init_mutex : (e : Expr) (name : Name) → (out-Expr e).node ≡ InitMutex name →
    bare_expr e ≡ bare.InitMutex name.text
of_init_mutex e name is = by_node e (InitMutex name) is

pub of_lock : (e : Expr) (name : Name) → (out-Expr e).node ≡ Lock name → bare_expr e ≡ bare.Lock name.text
of_lock e name is = by_node e (Lock name) is

pub of_unlock : (e : Expr) (name : Name) → (out-Expr e).node ≡ Unlock name → bare_expr e ≡ bare.Unlock name.text
of_unlock e name is = by_node e (Unlock name) is
