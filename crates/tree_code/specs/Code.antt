-- The code of resolved trees. An expression's code leaves its value on the stack. Jumps are by distance, so code is the same
-- at each place.
use Rattle.std.specs.Prelude.{ℕ, suc, ◌+◌, ◌^◌, ◌<◌, Bool, ◌||◌, ◌&&◌, nat_le, int_le, List, [], ◌∷◌, ◌++◌, length, Option, Some, None, bytes_eq, if◌then◌else◌}
use Rattle.c_ints.specs.declared.kind.Kind.{Kind}
use Rattle.c_ints.specs.declared.kind.Kind.TheVariants.{I32}
use Rattle.c_ints.specs.declared.int.Int.{Int}
use Rattle.c_ints.specs.declared.operator.BinOp.{BinOp}
use Rattle.c_ints.specs.declared.operator.BinOp.TheVariants.{Eq}
use Rattle.c_ints.specs.declared.operator.UnOp.{UnOp}
use Rattle.c_ints.specs.declared.operator.UnOp.TheVariants.{Plus, Not}
use Rattle.c_ints.specs.Kind.{width, least, greatest, holds, promoted, common_kind}
use Rattle.c_ints.specs.Number.{kind_of, value_of, reduced}
use Rattle.c_ints.specs.Arithmetic.{binary_kind, is_shift}
use Rattle.run_types.specs.CheckIns as check_in
use Rattle.c_tree.specs.BareExpr.{Bytes, BareType, Integer, Handle, Thread}
use Rattle.c_tree.specs.BareDef.{BareBinding}
use Rattle.c_semantics.specs.Texts.{Definitions}
use Rattle.c_semantics.specs.Resolved.{Expression, Expressions, Place, Statement, Statements, Read, Unary, And, Or, Choice, Assign, Update, Postfix, Call, Print, New, Free, Create, Join, JoinInto, InitMutex, Lock, Unlock, NoExpressions, ExpressionThen, Local, Global, Element, Field, Block, Empty, Evaluate, Declare, If, IfElse, While, DoWhile, For, Break, Continue, Return, UpdatePoint, Transaction, NoStatements, StatementThen}
use Rattle.c_semantics.specs.Resolved as tree
use Rattle.c_semantics.specs.Resolution.{kind}
use Rattle.c_semantics.specs.Points.{size, size_if, size_all, size_parts, size_read, size_stmt, size_stmts}
use Rattle.c_semantics.specs.Stops as stop
use Rattle.c_semantics.specs.Evaluation.{count, has_part}
use Rattle.typed_trees.specs.ValueTypes.{Environment, in_scope}
use Rattle.typed_trees.specs.ExpressionTypes.{type_of}
use Rattle.typed_trees.specs.StatementTypes.{with_variable, declares, declare_all}
use Rattle.bytecode.specs.declared.kind.ValueKind.{ValueKind}
use Rattle.bytecode.specs.declared.kind.ValueKind.TheVariants as value_kind
use Rattle.bytecode.specs.Words.{integer_word}
use Rattle.bytecode.specs.Instructions.{Instruction, Constant, Load, Store, Copy, CopyUnder, Swap, Drop, Convert, Binary, IsZero, IsNotZero, Same, Different, Jump, JumpIfZero, JumpUnlessZero, Halt, Back, CheckIn}
use Rattle.bytecode.specs.Instructions as instruction

-- some instructions, in order
abbrev pub Code : Type 0
Code = List Instruction

-- ---- variables, constants, operators

-- the number of a name's variable: how many of the variables in scope were declared before it, or are parameters after it
abbrev pub slot_in : List BareBinding → Bytes → ℕ
slot_in [] name = 0
slot_in (b ∷ bs) name = if bytes_eq name b.name then length bs else slot_in bs name

abbrev pub slot : Environment → Bytes → ℕ
slot env name = slot_in (in_scope env) name

-- what a word of a type is
abbrev pub kind_of_type : BareType → ValueKind
kind_of_type (Integer k) = value_kind.Number k
kind_of_type (Handle tag) = value_kind.Handle
kind_of_type Thread = value_kind.Thread

-- a constant's word; an integer out of the range of its kind, which no text has, has none
abbrev pub constant_word : Int → ℕ
constant_word n = if holds (kind_of n) (value_of n) then integer_word (value_of n) else 2 ^ 64

-- an integer, and what it is at a type; the null constant is the null handle
abbrev pub number_code : Int → Instruction
number_code n = Constant (value_kind.Number (kind_of n)) (constant_word n)

abbrev pub constant_code : BareType → Int → Instruction
constant_code (Integer k) n = Constant (value_kind.Number k) (integer_word (reduced k (value_of n)))
constant_code (Handle tag) n = Constant value_kind.Handle 0
constant_code Thread n = Constant value_kind.Thread 0

-- zero, null, or no thread
abbrev pub zero_code : BareType → Instruction
zero_code type = Constant (kind_of_type type) 0

-- the int 0 or 1
abbrev pub int_code : ℕ → Instruction
int_code n = Constant (value_kind.Number I32) n

-- whether each number of the second kind has the same word at the first
abbrev pub keeps_word : Kind → Kind → Bool
keeps_word k j = nat_le 64 (width k) || (int_le (least k) (least j) && int_le (greatest j) (greatest k))

-- the conversion of a value to the first type from the second
abbrev pub conversion : BareType → BareType → Code
conversion (Integer k) (Integer j) = if keeps_word k j then [] else Convert k ∷ []
conversion _ _ = []

-- the kind at which a binary operator works on operands of two kinds
abbrev pub working_kind : BinOp → Kind → Kind → Kind
working_kind op a b = if is_shift op then promoted a else common_kind a b

-- `==` and `!=` of handles
abbrev pub comparison : BinOp → Instruction
comparison Eq = Same
comparison _ = Different

-- the type of a binary operator's value
abbrev pub result_of : BinOp → BareType → BareType → BareType
result_of op a b = Integer (binary_kind op (kind a) (kind b))

-- an operator on values of these types
abbrev pub combination : BinOp → BareType → BareType → Instruction
combination op (Handle tag) b = comparison op
combination op a b = Binary op (working_kind op (kind a) (kind b))

abbrev pub application : UnOp → BareType → Code
application Plus t = []
application Not t = IsZero ∷ []
application op t = instruction.Unary op (promoted (kind t)) ∷ []

-- ---- places

-- the read of a place whose parts are the newest words, and its write, after which the word stays
abbrev pub getting : Environment → Place → ℕ → Instruction
getting env (Local name) n = Load (slot env name)
getting env (Global name) n = Halt (stop.ReadGlobal name) n
getting env (Element name index) n = Halt (stop.ReadElement name) n
getting env (Field tag handle name) n = Halt (stop.ReadField tag name) n

abbrev pub setting : Environment → Place → ℕ → Code
setting env (Local name) n = Copy ∷ Store (slot env name) ∷ []
setting env (Global name) n = Halt (stop.WriteGlobal name) n ∷ []
setting env (Element name index) n = Halt (stop.WriteElement name) n ∷ []
setting env (Field tag handle name) n = Halt (stop.WriteField tag name) n ∷ []

-- the write of a place, after which the word is dropped
abbrev pub setting_only : Environment → Place → ℕ → Code
setting_only env (Local name) n = Store (slot env name) ∷ []
setting_only env p n = setting env p n ++ Drop ∷ []

-- a copy of a place's part; a copy of the newest word under it; the word under it comes up
abbrev pub copying : Place → Code
copying p = if has_part p then Copy ∷ [] else []

abbrev pub tucking : Place → Instruction
tucking p = if has_part p then CopyUnder else Copy

abbrev pub swapping : Place → Code
swapping p = if has_part p then Swap ∷ [] else []

-- ---- expressions

-- the number of a constant
abbrev pub constant_of : Expression → Option Int
constant_of (tree.Constant n) = Some n
constant_of _ = None

-- a value that is converted, from its own code; a constant is converted here
abbrev pub converted_code : BareType → BareType → Option Int → Code → Code
converted_code to from (Some n) code = constant_code to n ∷ []
converted_code to from None code = code ++ conversion to from

-- `a && b` and `a || b`, of the code of their sides
abbrev pub and_code : Code → Code → Code
and_code a b = a ++ JumpIfZero (length b + 2) ∷ b ++ IsNotZero ∷ Jump 1 ∷ int_code 0 ∷ []

abbrev pub or_code : Code → Code → Code
or_code a b = a ++ JumpUnlessZero (length b + 2) ∷ b ++ IsNotZero ∷ Jump 1 ∷ int_code 1 ∷ []

-- one of two values, or of two statements, after a jump that is taken where the second is meant
abbrev pub either : (ℕ → Instruction) → Code → Code → Code
either jump a b = jump (suc (length a)) ∷ a ++ Jump (length b) ∷ b

-- an expression whose first point is n, arguments, the parts of a place
abbrev mutual
  pub value : Definitions → Environment → Expression → ℕ → Code
  value look env (tree.Constant v) n = number_code v ∷ []
  value look env (Read p) n = parts look env p n ++ getting env p (n + size_parts p) ∷ []
  value look env (Unary op a) n = value look env a n ++ application op (type_of look env a)
  value look env (tree.Binary op a b) n =
      value look env a n ++ value look env b (n + size a)
      ++ combination op (type_of look env a) (type_of look env b) ∷ []
  value look env (tree.Convert type a) n =
      converted_code type (type_of look env a) (constant_of a) (value look env a n)
  value look env (And a b) n = and_code (value look env a n) (value look env b (n + size a))
  value look env (Or a b) n = or_code (value look env a n) (value look env b (n + size a))
  value look env (Choice c a b) n =
      let m = n + size c in
      value look env c n ++ either JumpIfZero (value look env a m) (value look env b (m + size a))
  value look env (Assign p e) n =
      let m = n + size_parts p in parts look env p n ++ value look env e m ++ setting env p (m + size e)
  value look env (Update type op p e) n =
      let r = n + size_parts p in
      let m = r + size_read p in
      parts look env p n ++ copying p ++ getting env p r ∷ value look env e m
      ++ combination op type (type_of look env e) ∷ conversion type (result_of op type (type_of look env e)) ++ setting env p (m + size e)
  value look env (Postfix type op p) n =
      let r = n + size_parts p in
      parts look env p n ++ copying p ++ getting env p r ∷ tucking p ∷ int_code 1 ∷ combination op type (Integer I32)
      ∷ conversion type (result_of op type (Integer I32)) ++ setting_only env p (r + size_read p)
  value look env (Call name arguments) n =
      let m = n + size_all arguments in
      values look env arguments n ++ Halt (stop.Call name (count arguments)) m ∷ CheckIn check_in.Call (suc m) ∷ []
  value look env (Print format arguments) n =
      values look env arguments n ++ Halt (stop.Print format (count arguments)) (n + size_all arguments) ∷ []
  value look env (New tag) n = Halt (stop.New tag) n ∷ []
  value look env (Free tag e) n = value look env e n ++ Halt (stop.Free tag) (n + size e) ∷ []
  value look env (Create p name e) n =
      let m = n + size_parts p in
      let s = m + size e in
      parts look env p n ++ value look env e m ++ Halt (stop.Spawn name) s ∷ setting env p (s + 1) ++ IsZero ∷ []
  value look env (Join e) n = value look env e n ++ Halt stop.Join (n + size e) ∷ Drop ∷ int_code 0 ∷ []
  value look env (JoinInto e p) n =
      let m = n + size e in
      let j = m + size_parts p in
      value look env e n ++ parts look env p m ++ swapping p ++ Halt stop.Join j ∷ setting_only env p (j + 1) ++ int_code 0 ∷ []
  value look env (InitMutex name) n = Halt (stop.InitMutex name) n ∷ []
  value look env (Lock name) n = Halt (stop.Lock name) n ∷ []
  value look env (Unlock name) n = Halt (stop.Unlock name) n ∷ []

  pub values : Definitions → Environment → Expressions → ℕ → Code
  values look env NoExpressions n = []
  values look env (ExpressionThen e es) n = value look env e n ++ values look env es (n + size e)

  pub parts : Definitions → Environment → Place → ℕ → Code
  parts look env (Local name) n = []
  parts look env (Global name) n = []
  parts look env (Element name index) n = value look env index n
  parts look env (Field tag handle name) n = value look env handle n

-- an expression whose value is dropped; what it stores in a variable isn't kept besides
abbrev pub effect : Definitions → Environment → Expression → ℕ → Code
effect look env (Assign p e) n =
    let m = n + size_parts p in parts look env p n ++ value look env e m ++ setting_only env p (m + size e)
effect look env (Update type op p e) n =
    let r = n + size_parts p in
    let m = r + size_read p in
    parts look env p n ++ copying p ++ getting env p r ∷ value look env e m
    ++ combination op type (type_of look env e) ∷ conversion type (result_of op type (type_of look env e)) ++ setting_only env p (m + size e)
effect look env (Postfix type op (Local name)) n =
    Load (slot env name) ∷ int_code 1 ∷ combination op type (Integer I32)
    ∷ conversion type (result_of op type (Integer I32)) ++ Store (slot env name) ∷ []
effect look env e n = value look env e n ++ Drop ∷ []

-- and of one that may be absent
abbrev pub effect_if : Definitions → Environment → Option Expression → ℕ → Code
effect_if look env None n = []
effect_if look env (Some e) n = effect look env e n

-- ---- statements

-- a condition without the `!` before it, if it has one, and the jump that is taken where it doesn't hold
abbrev pub negated : Expression → Option Expression
negated (Unary Not a) = Some a
negated _ = None

abbrev pub condition_code : Definitions → Environment → Expression → Option Expression → ℕ → Code
condition_code look env c None n = value look env c n
condition_code look env c (Some a) n = value look env a n

abbrev pub unless_jump : Option Expression → ℕ → Instruction
unless_jump None d = JumpIfZero d
unless_jump (Some a) d = JumpUnlessZero d

-- a condition, and a jump over some code that is taken where it doesn't hold; the jump is so much further besides
abbrev pub guarded : Definitions → Environment → Expression → ℕ → Code → ℕ → Code
guarded look env c n inside further =
    condition_code look env c (negated c) n ++ unless_jump (negated c) (length inside + further) ∷ inside

-- where there is no condition, none
abbrev pub guarded_if : Definitions → Environment → Option Expression → ℕ → Code → ℕ → Code
guarded_if look env None n inside further = inside
guarded_if look env (Some c) n inside further = guarded look env c n inside further

-- such code and a back edge to its beginning, which is the point b
abbrev pub looping : Environment → Code → ℕ → Code
looping env inside b = inside ++ Back (length inside) b (length (in_scope env)) ∷ []

-- a loop with its test, of the code of its body and of its step
abbrev pub turning : Definitions → Environment → Option Expression → ℕ → Code → Code → ℕ → Code
turning look env test n body stepped b = looping env (guarded_if look env test n (body ++ stepped) 1) b

-- the first value of a variable in its own scope
abbrev pub initial : Definitions → Environment → BareType → Bytes → Option Expression → ℕ → Code
initial look env type name None n = zero_code type ∷ Store (slot env name) ∷ []
initial look env type name (Some e) n =
    zero_code type ∷ Store (slot env name) ∷ value look env e n ++ Store (slot env name) ∷ []

-- a statement whose first point is n, and statements in order; from the end of its code the target of a `break` is as many
-- instructions on as the first distance says, that of a `continue` as many as the second
abbrev mutual
  pub statement : Definitions → Environment → Statement → ℕ → ℕ → ℕ → Code
  statement look env (Block ss) n broken continued = statements look ([] ∷ env) ss n broken continued
  statement look env Empty n broken continued = []
  statement look env (Evaluate e) n broken continued = effect look env e n
  statement look env (Declare type name e) n broken continued = initial look (with_variable type name env) type name e n
  statement look env (If c s) n broken continued =
      guarded look env c n (statement look env s (n + size c) broken continued) 0
  statement look env (IfElse c s t) n broken continued =
      let m = n + size c in
      let other = statement look env t (m + size_stmt s) broken continued in
      let passed = suc (length other) in
      guarded look env c n (statement look env s m (passed + broken) (passed + continued) ++ Jump (length other) ∷ []) 0 ++ other
  statement look env (While c s) n broken continued =
      let m = n + size c in
      turning look env (Some c) n (statement look env s m 1 0) [] (m + size_stmt s + 0)
  statement look env (DoWhile s c) n broken continued =
      let m = n + size_stmt s in
      let test = condition_code look env c (negated c) m ++ unless_jump (negated c) 1 ∷ [] in
      looping env (statement look env s n (suc (length test)) 0 ++ test) (m + size c)
  statement look env (For first test step s) n broken continued =
      let inner = declare_all first ([] ∷ env) in
      let t = n + size_stmts first in
      let m = t + size_if test in
      let p = m + size_stmt s in
      let stepped = effect_if look inner step p in
      let turns = turning look inner test t (statement look inner s m (suc (length stepped)) 0) stepped (p + size_if step) in
      statements look ([] ∷ env) first n (length turns + broken) (length turns + continued) ++ turns
  statement look env Break n broken continued = Jump broken ∷ []
  statement look env Continue n broken continued = Jump continued ∷ []
  statement look env (Return e) n broken continued = value look env e n ++ Halt stop.Return (n + size e) ∷ []
  statement look env UpdatePoint n broken continued = Halt stop.Update n ∷ CheckIn check_in.Update (suc n) ∷ []
  statement look env (Transaction ss) n broken continued =
      let e = n + 2 + size_stmts ss in
      Halt stop.Begin n ∷ CheckIn check_in.Begin (suc n) ∷ statements look ([] ∷ env) ss (n + 2) (2 + broken) (2 + continued)
      ++ Halt stop.End e ∷ CheckIn check_in.End (suc e) ∷ []

  pub statements : Definitions → Environment → Statements → ℕ → ℕ → ℕ → Code
  statements look env NoStatements n broken continued = []
  statements look env (StatementThen s ss) n broken continued =
      let rest = statements look (declares s env) ss (n + size_stmt s) broken continued in
      statement look env s n (length rest + broken) (length rest + continued) ++ rest

-- a function's code: its entry, its body, and the closing return, which gives zero
abbrev pub body_code : Definitions → List BareBinding → BareType → Statements → Code
body_code look parameters result body =
    CheckIn check_in.Entry 0 ∷ statements look (parameters ∷ []) body 1 0 0
    ++ zero_code result ∷ Halt stop.Return (1 + size_stmts body) ∷ []

-- ---- room for variables

-- so many variables are enough for a statement under those in scope
abbrev mutual
  pub HasRoom : ℕ → Environment → Statement → Type 0
  HasRoom most env (Block ss) = HaveRoom most ([] ∷ env) ss
  HasRoom most env (Declare type name e) = length (in_scope env) < most
  HasRoom most env (If c s) = HasRoom most env s
  HasRoom most env (IfElse c s t) = HasRoom most env s × HasRoom most env t
  HasRoom most env (While c s) = HasRoom most env s
  HasRoom most env (DoWhile s c) = HasRoom most env s
  HasRoom most env (For first test step s) = HaveRoom most ([] ∷ env) first × HasRoom most (declare_all first ([] ∷ env)) s
  HasRoom most env (Transaction ss) = HaveRoom most ([] ∷ env) ss
  HasRoom most env _ = Unit {0}

  pub HaveRoom : ℕ → Environment → Statements → Type 0
  HaveRoom most env NoStatements = Unit {0}
  HaveRoom most env (StatementThen s ss) = HasRoom most env s × HaveRoom most (declares s env) ss
