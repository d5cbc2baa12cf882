-- Operators and conversions by the kinds of words, on which alone they depend.
use Rattle.std.specs.Prelude.{ℕ, [], ◌∷◌, Option, Some, None, if◌then◌else◌}
use Rattle.c_ints.specs.declared.kind.Kind.{Kind}
use Rattle.c_ints.specs.declared.kind.Kind.TheVariants.{I32}
use Rattle.c_ints.specs.declared.int.Int.{Int}
use Rattle.c_ints.specs.declared.operator.BinOp.{BinOp}
use Rattle.c_ints.specs.declared.operator.UnOp.{UnOp}
use Rattle.c_ints.specs.declared.operator.UnOp.TheVariants.{Plus, Not}
use Rattle.c_ints.specs.Kind.{promoted}
use Rattle.c_ints.specs.Number.{value_of, reduced}
use Rattle.c_ints.specs.Arithmetic.{binary_kind}
use Rattle.bytecode.specs.declared.kind.ValueKind.{ValueKind}
use Rattle.bytecode.specs.declared.kind.ValueKind.TheVariants.{Number, Handle, Thread}
use Rattle.bytecode.specs.Words.{integer_word}
use Rattle.bytecode.specs.Instructions.{Instruction, Constant, Convert, Unary, Binary, IsZero, Jump, JumpIfZero, JumpUnlessZero}
use Rattle.tree_code.specs.Code.{Code, keeps_word, working_kind, comparison}
use Rattle.expr_gen.specs.declared.jump.Leap.{Leap}
use Rattle.expr_gen.specs.declared.jump.Leap.TheVariants as leap

-- the kind of an int
abbrev pub int_kind : ValueKind
int_kind = Number I32

-- the kind of an integer; that of `int` where it is none
abbrev pub integer_kind : ValueKind → Kind
integer_kind (Number k) = k
integer_kind _ = I32

-- an integer constant as a value of a kind
abbrev pub constant_as : ValueKind → Int → Instruction
constant_as (Number k) n = Constant (Number k) (integer_word (reduced k (value_of n)))
constant_as Handle n = Constant Handle 0
constant_as Thread n = Constant Thread 0

-- a conversion to the first kind from the second
abbrev pub converting : ValueKind → ValueKind → Code
converting (Number k) (Number j) = if keeps_word k j then [] else Convert k ∷ []
converting _ _ = []

-- operators
abbrev pub applying : UnOp → ValueKind → Code
applying Plus a = []
applying Not a = IsZero ∷ []
applying op a = Unary op (promoted (integer_kind a)) ∷ []

abbrev pub combining : BinOp → ValueKind → ValueKind → Instruction
combining op Handle b = comparison op
combining op a b = Binary op (working_kind op (integer_kind a) (integer_kind b))

abbrev pub combined_kind : BinOp → ValueKind → ValueKind → ValueKind
combined_kind op a b = Number (binary_kind op (integer_kind a) (integer_kind b))

-- an operator on a place's value and another, and the conversion back to the kind of the place
abbrev pub computing : BinOp → ValueKind → ValueKind → Code
computing op a b = combining op a b ∷ converting a (combined_kind op a b)

-- a value that has been computed unless it is a constant, converted
abbrev pub becoming : ValueKind → ValueKind → Option Int → Code
becoming to from (Some n) = constant_as to n ∷ []
becoming to from None = converting to from

-- a jump over so many instructions
abbrev pub leaping : Leap → ℕ → Instruction
leaping leap.Always d = Jump d
leaping leap.IfZero d = JumpIfZero d
leaping leap.UnlessZero d = JumpUnlessZero d
