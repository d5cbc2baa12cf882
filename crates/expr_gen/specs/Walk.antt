-- What the walk over an expression adds to code before the expression does something itself.
use Rattle.std.specs.Prelude.{◌≡◌, ℕ, ◌+◌, List, [], ◌∷◌, ◌++◌, length}
use Rattle.c_semantics.specs.Texts.{Definitions}
use Rattle.typed_trees.specs.ValueTypes.{Environment}
use Rattle.resolved_tree.specs.declared.node.ExpressionNode.{ExpressionNode}
use Rattle.resolved_tree.specs.Nodes.{Table, expression_of}
use Rattle.bytecode.specs.declared.instr.Instr.{Instr}
use Rattle.bytecode.specs.Instructions.{IsNotZero, Jump}
use Rattle.tree_code.specs.Code.{Code, int_code}
use Rattle.expr_gen.specs.declared.jump.Leap.{Leap}
use Rattle.expr_gen.specs.declared.jump.Leap.TheVariants.{IfZero, UnlessZero}
use Rattle.expr_gen.specs.declared.ending.Ready.{Ready}
use Rattle.expr_gen.specs.declared.walk.Connective.{Connective}
use Rattle.expr_gen.specs.declared.walk.Connective.TheVariants.{And, Or}
use Rattle.expr_gen.specs.Kinds.{leaping}
use Rattle.expr_gen.specs.Operands.{operands_of, operand_code, operand_size, operand_kind, between, size_between}
use Rattle.expr_gen.specs.Scope.{Adds}

-- the number of the point after the first operand, before the second operand, and after it
abbrev pub middle_at : Table → ExpressionNode → ℕ → ℕ
middle_at t node n = n + operand_size t (operands_of t node).first

abbrev pub second_at : Table → ExpressionNode → ℕ → ℕ
second_at t node n = middle_at t node n + size_between (expression_of t node)

abbrev pub ending_at : Table → ExpressionNode → ℕ → ℕ
ending_at t node n = second_at t node n + operand_size t (operands_of t node).second

-- the operands, in order
abbrev pub beginning : Table → Definitions → Environment → ExpressionNode → ℕ → Code
beginning t look env node n =
    operand_code t look env (operands_of t node).first n ++ between env (expression_of t node) (middle_at t node n)
    ++ operand_code t look env (operands_of t node).second (second_at t node n)

-- they have been added
pub record IsReady (t : Table) (look : Definitions) (env : Environment) (node : ExpressionNode) (n : ℕ) (old new : List Instr) (r : Ready) : Type 0 where
  pub code : Adds t old new (beginning t look env node n)
  pub first : r.first ≡ operand_kind t look env (operands_of t node).first
  pub second : r.second ≡ operand_kind t look env (operands_of t node).second
  pub at : r.at ≡ ending_at t node n

-- when the right side of `&&` and `||` is left out, and the value then
abbrev pub skipping : Connective → Leap
skipping And = IfZero
skipping Or = UnlessZero

abbrev pub skipped : Connective → ℕ
skipped And = 0
skipped Or = 1

-- their code, of that of their sides
abbrev pub logical_code : Connective → Code → Code → Code
logical_code op a b =
    a ++ leaping (skipping op) (length b + 2) ∷ b ++ IsNotZero ∷ Jump 1 ∷ int_code (skipped op) ∷ []
