-- What an expression does after its operands, by the kinds of their values and the number of the next point.
use Rattle.std.specs.Prelude.{ℕ, suc, ◌+◌, [], ◌∷◌, ◌++◌}
use Rattle.c_ints.specs.declared.operator.BinOp.{BinOp}
use Rattle.c_ints.specs.Number.{kind_of}
use Rattle.c_ints.specs.Arithmetic.{unary_kind}
use Rattle.run_types.specs.CheckIns as check_in
use Rattle.c_tree.specs.BareExpr.{Bytes, BareType}
use Rattle.c_semantics.specs.Texts.{Definitions, result_type}
use Rattle.c_semantics.specs.Resolved.{Expression, Place, Local, Global, Element, Field, Constant, Read, Unary, Binary, Convert, And, Or, Choice, Assign, Update, Postfix, Call, Print, New, Free, Create, Join, JoinInto, InitMutex, Lock, Unlock}
use Rattle.c_semantics.specs.Points.{size_read}
use Rattle.c_semantics.specs.Stops as stop
use Rattle.c_semantics.specs.Evaluation.{count}
use Rattle.typed_trees.specs.ValueTypes.{Environment}
use Rattle.typed_trees.specs.ExpressionTypes.{place_type}
use Rattle.bytecode.specs.declared.kind.ValueKind.{ValueKind}
use Rattle.bytecode.specs.declared.kind.ValueKind.TheVariants.{Number, Handle}
use Rattle.bytecode.specs.Instructions.{Instruction, Load, Store, Drop, IsZero, Halt, CheckIn}
use Rattle.tree_code.specs.Code.{Code, kind_of_type, slot, number_code, int_code, constant_of, getting, setting, setting_only, copying, tucking, swapping}
use Rattle.expr_gen.specs.Kinds.{int_kind, integer_kind, applying, combining, combined_kind, computing, becoming}

-- the write of a place, which takes the newest word
abbrev pub writing : Environment → Place → ℕ → Instruction
writing env (Local name) n = Store (slot env name)
writing env (Global name) n = Halt (stop.WriteGlobal name) n
writing env (Element name index) n = Halt (stop.WriteElement name) n
writing env (Field tag handle name) n = Halt (stop.WriteField tag name) n

-- a postfix step: the read of a place, whose part is still needed; a copy of the old value; one more or less; the write
abbrev pub stepping : Environment → BareType → BinOp → Place → ℕ → Code
stepping env type op p r =
    copying p ++ getting env p r ∷ tucking p ∷ int_code 1 ∷ computing op (kind_of_type type) int_kind
    ++ setting_only env p (r + size_read p)

-- and one of a variable, whose old value isn't kept
abbrev pub stepping_variable : Environment → BareType → BinOp → Bytes → Code
stepping_variable env type op name =
    Load (slot env name) ∷ int_code 1 ∷ computing op (kind_of_type type) int_kind ++ Store (slot env name) ∷ []

-- a start of a thread, and a join with a place for the result
abbrev pub creating : Environment → Place → Bytes → ℕ → Code
creating env p name m = Halt (stop.Spawn name) m ∷ setting env p (m + 1) ++ IsZero ∷ []

abbrev pub joining : Environment → Place → ℕ → Code
joining env p m = swapping p ++ Halt stop.Join m ∷ setting_only env p (m + 1) ++ int_code 0 ∷ []

-- the code
abbrev pub ending : Environment → Expression → ValueKind → ValueKind → ℕ → Code
ending env (Constant v) a b m = number_code v ∷ []
ending env (Read p) a b m = getting env p m ∷ []
ending env (Unary op e) a b m = applying op a
ending env (Binary op x y) a b m = combining op a b ∷ []
ending env (Convert type e) a b m = becoming (kind_of_type type) a (constant_of e)
ending env (And x y) a b m = []
ending env (Or x y) a b m = []
ending env (Choice c x y) a b m = []
ending env (Assign p e) a b m = setting env p m
ending env (Update type op p e) a b m = computing op (kind_of_type type) b ++ setting env p m
ending env (Postfix type op p) a b m = stepping env type op p m
ending env (Call name es) a b m = Halt (stop.Call name (count es)) m ∷ CheckIn check_in.Call (suc m) ∷ []
ending env (Print format es) a b m = Halt (stop.Print format (count es)) m ∷ []
ending env (New tag) a b m = Halt (stop.New tag) m ∷ []
ending env (Free tag e) a b m = Halt (stop.Free tag) m ∷ []
ending env (Create p name e) a b m = creating env p name m
ending env (Join e) a b m = Halt stop.Join m ∷ Drop ∷ int_code 0 ∷ []
ending env (JoinInto e p) a b m = joining env p m
ending env (InitMutex name) a b m = Halt (stop.InitMutex name) m ∷ []
ending env (Lock name) a b m = Halt (stop.Lock name) m ∷ []
ending env (Unlock name) a b m = Halt (stop.Unlock name) m ∷ []

-- the kind of the value that it leaves
abbrev pub left_kind : Definitions → Environment → Expression → ValueKind → ValueKind → ValueKind
left_kind look env (Constant n) a b = Number (kind_of n)
left_kind look env (Read p) a b = kind_of_type (place_type look env p)
left_kind look env (Unary op e) a b = Number (unary_kind op (integer_kind a))
left_kind look env (Binary op x y) a b = combined_kind op a b
left_kind look env (Convert type e) a b = kind_of_type type
left_kind look env (Assign p e) a b = kind_of_type (place_type look env p)
left_kind look env (Update type op p e) a b = kind_of_type type
left_kind look env (Postfix type op p) a b = kind_of_type type
left_kind look env (Call name es) a b = kind_of_type (result_type (look name))
left_kind look env (New tag) a b = Handle
left_kind look env _ a b = int_kind
