-- The operators by their spelling.
use Rattle.std.specs.Prelude.{ℕ, List, codes}
use Rattle.c_ints.specs.declared.operator.BinOp.{BinOp}
use Rattle.c_ints.specs.declared.operator.BinOp.TheVariants.{Add, Sub, Mul, Div, Rem, And, Or, Xor, Shl, Shr, Lt, Gt, Le, Ge, Eq, Ne}
use Rattle.c_ints.specs.declared.operator.UnOp.{UnOp}
use Rattle.c_ints.specs.declared.operator.UnOp.TheVariants.{Plus, Negate, Complement, Not}
use Rattle.c_tree.specs.declared.expr.Expr.{Expr}
use Rattle.c_tree.specs.declared.expr.ExprNode.{ExprNode}
use Rattle.c_tree.specs.declared.expr.ExprNode.TheVariants as node
use Rattle.c_expr_parser.specs.declared.operators.Joint.{Joint}
use Rattle.c_expr_parser.specs.declared.operators.Joint.TheVariants.{Operation, Both, Either}

-- the node of two operands
abbrev pub joined : Joint → Expr → Expr → ExprNode Expr
joined (Operation op) a b = node.Binary op a b
joined Both a b = node.And a b
joined Either a b = node.Or a b

-- the binary operators by level, the tightest first (6.5.5 to 6.5.14)
pub data BinaryOperator : ℕ → List ℕ → Joint → Type 0 where
  times : BinaryOperator 1 (codes "*") (Operation Mul)
  divide : BinaryOperator 1 (codes "/") (Operation Div)
  remainder : BinaryOperator 1 (codes "%") (Operation Rem)
  plus : BinaryOperator 2 (codes "+") (Operation Add)
  minus : BinaryOperator 2 (codes "-") (Operation Sub)
  shift_left : BinaryOperator 3 (codes "<<") (Operation Shl)
  shift_right : BinaryOperator 3 (codes ">>") (Operation Shr)
  less : BinaryOperator 4 (codes "<") (Operation Lt)
  greater : BinaryOperator 4 (codes ">") (Operation Gt)
  at_most : BinaryOperator 4 (codes "<=") (Operation Le)
  at_least : BinaryOperator 4 (codes ">=") (Operation Ge)
  equal : BinaryOperator 5 (codes "==") (Operation Eq)
  unequal : BinaryOperator 5 (codes "!=") (Operation Ne)
  bit_and : BinaryOperator 6 (codes "&") (Operation And)
  bit_xor : BinaryOperator 7 (codes "^") (Operation Xor)
  bit_or : BinaryOperator 8 (codes "|") (Operation Or)
  and : BinaryOperator 9 (codes "&&") Both
  or : BinaryOperator 10 (codes "||") Either

-- the loosest level
abbrev pub loosest : ℕ
loosest = 10

-- the prefix operators that take a cast (6.5.3.3)
pub data UnaryOperator : List ℕ → UnOp → Type 0 where
  plus : UnaryOperator (codes "+") Plus
  negate : UnaryOperator (codes "-") Negate
  complement : UnaryOperator (codes "~") Complement
  not : UnaryOperator (codes "!") Not

-- the operators of compound assignment (6.5.16.2)
pub data CompoundOperator : List ℕ → BinOp → Type 0 where
  add : CompoundOperator (codes "+=") Add
  subtract : CompoundOperator (codes "-=") Sub
  multiply : CompoundOperator (codes "*=") Mul
  divide : CompoundOperator (codes "/=") Div
  remainder : CompoundOperator (codes "%=") Rem
  bit_and : CompoundOperator (codes "&=") And
  bit_or : CompoundOperator (codes "|=") Or
  bit_xor : CompoundOperator (codes "^=") Xor
  shift_left : CompoundOperator (codes "<<=") Shl
  shift_right : CompoundOperator (codes ">>=") Shr
