-- The types of what a thread has still to evaluate: from which types of values and variables pending pieces go on well to
-- the end of their function. It is a recursion on the pieces, as what they mean is.
use Rattle.std.specs.Prelude.{◌≡◌, ℕ, Bool, IsTrue, List, [], ◌∷◌, ◌++◌, reverse, length, Option, Some, None}
use Rattle.c_ints.specs.declared.kind.Kind.{Kind}
use Rattle.c_ints.specs.Kind.{promoted}
use Rattle.c_ints.specs.Arithmetic.{binary_kind, unary_kind}
use Rattle.c_format.specs.declared.reading.Reading.TheVariants.{Text}
use Rattle.c_format.specs.Formats.{kinds}
use Rattle.run_types.specs.Trap.{trap_of}
use Rattle.c_ints.specs.declared.operator.ArithTrap.{ArithTrap}
use Rattle.c_tree.specs.BareExpr.{Bytes, BareType, Integer, Handle, Thread}
use Rattle.c_tree.specs.BareDef.{BareBinding}
use Rattle.c_semantics.specs.Names.{struct_name}
use Rattle.c_semantics.specs.Texts.{Definitions, int, global_type, result_type, members_of, bound, bound_type}
use Rattle.c_semantics.specs.Values.{Value}
use Rattle.c_semantics.specs.Resolution.{kind}
use Rattle.c_semantics.specs.Resolved.{Expression, Statement}
use Rattle.c_semantics.specs.Stops.{Stop, ReadGlobal, WriteGlobal, ReadElement, WriteElement, ReadField, WriteField, New, Free, Print, InitMutex, Lock, Unlock, Spawn, Join, Call, Return, Back, Begin, End, Update}
use Rattle.c_semantics.specs.Pieces.{Loop, Piece, Scopes, Halt, Compute, Arguments, Parts, Get, Set, Dup, Tuck, Swap, Apply, Combine, ConvertTo, Drop, Push, Truth, Created, AndThen, OrElse, Choose, Then, ThenElse, Turn, Repeat, Do, Sequence, Close, LoopTest, AfterBody, BackEdge, Until, At, Stopped, Trapped, Nothing}
use Rattle.typed_trees.specs.ValueTypes.{HasType, HaveTypes, Environment, ScopesHave}
use Rattle.typed_trees.specs.ExpressionTypes.{IsVariable, IsArray, IsFunction, IsMutex, IsStruct, Runs, parameter_types, IsInteger, IsScalar, AreOperands, IsOperand, Becomes, place_type, type_of, types_of, part_types, IsTyped, AreTyped, IsPlaced}
use Rattle.typed_trees.specs.StatementTypes.{declares, declare_all, IsPart, IsCondition, ConditionIf, TypedIf, StatementTyped, StatementsTyped, jumps, some_jump}

-- the types of the values of a frame, the newest first
abbrev pub Stack : Type 0
Stack = List BareType

-- what is asked of the types of the newest value and of those under it
abbrev pub Top : Stack → (BareType → Stack → Type 0) → Type 0
Top [] then = ⊥
Top (t ∷ stack) then = then t stack

-- the newest values have these types, and those under them are as asked
abbrev pub Pops : List BareType → Stack → (Stack → Type 0) → Type 0
Pops [] stack then = then stack
Pops (t ∷ ts) [] then = ⊥
Pops (t ∷ ts) (u ∷ stack) then = (u ≡ t) × Pops ts stack then

-- the newest values are integers that are promoted to these kinds, and those under them are as asked
abbrev pub PopsPrinted : List Kind → Stack → (Stack → Type 0) → Type 0
PopsPrinted [] stack then = then stack
PopsPrinted (k ∷ ks) (Integer j ∷ stack) then = (promoted j ≡ k) × PopsPrinted ks stack then
PopsPrinted (k ∷ ks) _ then = ⊥

-- n arguments of a format
abbrev pub PopsFormat : Option (List Kind) → ℕ → Stack → (Stack → Type 0) → Type 0
PopsFormat None n stack then = ⊥
PopsFormat (Some ks) n stack then = (length ks ≡ n) × PopsPrinted (reverse ks) stack then

-- the type of a field of a struct
abbrev pub field_type : Definitions → Bytes → Bytes → BareType
field_type look tag name = bound_type (members_of (look (struct_name tag))) name

abbrev pub HasField : Definitions → Bytes → Bytes → Type 0
HasField look tag name = (b : BareBinding) × (bound (members_of (look (struct_name tag))) name ≡ Some b)

-- a stop takes the newest values, which have its types, and leaves one of its type, or none
abbrev pub StopTyped : Definitions → BareType → Stop → Stack → (Stack → Type 0) → Type 0
StopTyped look result (ReadGlobal name) stack then = IsVariable (look name) × then (global_type (look name) ∷ stack)
StopTyped look result (WriteGlobal name) stack then =
    IsVariable (look name) × Top stack (λ t under. (t ≡ global_type (look name)) × then (global_type (look name) ∷ under))
StopTyped look result (ReadElement name) stack then =
    IsArray (look name) × Top stack (λ i under. IsInteger i × then (global_type (look name) ∷ under))
StopTyped look result (WriteElement name) stack then =
    IsArray (look name)
    × Top stack (λ t below. (t ≡ global_type (look name)) × Top below (λ i under. IsInteger i × then (global_type (look name) ∷ under)))
StopTyped look result (ReadField tag name) stack then =
    HasField look tag name × Top stack (λ h under. (h ≡ Handle tag) × then (field_type look tag name ∷ under))
StopTyped look result (WriteField tag name) stack then =
    HasField look tag name
    × Top stack (λ t below. (t ≡ field_type look tag name) × Top below (λ h under. (h ≡ Handle tag) × then (field_type look tag name ∷ under)))
StopTyped look result (New tag) stack then = IsStruct (look (struct_name tag)) × then (Handle tag ∷ stack)
StopTyped look result (Free tag) stack then = Top stack (λ h under. (h ≡ Handle tag) × then (int ∷ under))
StopTyped look result (Print format n) stack then = PopsFormat (kinds Text format) n stack (λ under. then (int ∷ under))
StopTyped look result (InitMutex name) stack then = IsMutex (look name) × then (int ∷ stack)
StopTyped look result (Lock name) stack then = IsMutex (look name) × then (int ∷ stack)
StopTyped look result (Unlock name) stack then = IsMutex (look name) × then (int ∷ stack)
StopTyped look result (Spawn name) stack then = Top stack (λ t under. Runs (look name) t × then (Thread ∷ under))
StopTyped look result Join stack then = Top stack (λ t under. (t ≡ Thread) × then (int ∷ under))
StopTyped look result (Call name n) stack then =
    IsFunction (look name) × (length (parameter_types (look name)) ≡ n)
    × Pops (reverse (parameter_types (look name))) stack (λ under. then (result_type (look name) ∷ under))
StopTyped look result Return stack then = Top stack (λ t under. t ≡ result)
StopTyped look result Back stack then = then stack
StopTyped look result Begin stack then = then stack
StopTyped look result End stack then = then stack
StopTyped look result Update stack then = then stack

-- from which types control goes on well, at a `break`, at a `continue`
pub record Going : Type 1 where
  pub on : Stack → Environment → Type 0
  pub broken : Stack → Environment → Type 0
  pub continued : Stack → Environment → Type 0

abbrev pub only : (Stack → Environment → Type 0) → Going → Going
only on k = record { on = on; broken = k.broken; continued = k.continued }

-- values pushed in order
abbrev pub pushed : List BareType → Stack → Stack
pushed [] stack = stack
pushed (t ∷ ts) stack = pushed ts (t ∷ stack)

-- a jump out of a statement goes on well, where there is one
abbrev pub JumpsWell : Bool → Going → Stack → Environment → Type 0
JumpsWell jump k stack env = IsTrue jump → k.broken stack env × k.continued stack env

-- whatever the innermost scope declares by then
abbrev pub Inside : Environment → (Environment → Type 0) → Type 0
Inside [] then = ⊥
Inside (bindings ∷ outer) then = (more : List BareBinding) → then (more ∷ outer)

abbrev pub JumpInside : Bool → Going → Stack → Environment → Type 0
JumpInside jump k stack env = IsTrue jump → Inside env (λ inner. k.broken stack inner × k.continued stack inner)

-- a loop after its first part
pub record LoopTyped (look : Definitions) (result : BareType) (env : Environment) (l : Loop) : Type 0 where
  pub test : ConditionIf look env l.test
  pub step : TypedIf look env l.step
  pub body : StatementTyped look result env l.body
  pub part : IsPart l.body

-- a body and its condition, of `do`
pub record DoTyped (look : Definitions) (result : BareType) (env : Environment) (s : Statement) (c : Expression) : Type 0 where
  pub condition : IsCondition look env c
  pub body : StatementTyped look result env s
  pub part : IsPart s

-- at the end of a scope
abbrev pub AtClose : (Stack → Environment → Type 0) → Stack → Environment → Type 0
AtClose k stack [] = ⊥
AtClose k stack (bindings ∷ outer) = k stack outer

-- a piece before others
abbrev pub typed_piece : Definitions → BareType → Piece → Going → Going
typed_piece look result (Compute e n) k = only (λ stack env. IsTyped look env e × k.on (type_of look env e ∷ stack) env) k
typed_piece look result (Arguments es n) k =
    only (λ stack env. AreTyped look env es × k.on (pushed (types_of look env es) stack) env) k
typed_piece look result (Parts p n) k =
    only (λ stack env. IsPlaced look env p × k.on (part_types look env p ++ stack) env) k
typed_piece look result (Get p n) k =
    only (λ stack env. IsPlaced look env p × Pops (part_types look env p) stack (λ under. k.on (place_type look env p ∷ under) env)) k
typed_piece look result (Set p n) k =
    only (λ stack env. IsPlaced look env p × Top stack (λ t below.
    (t ≡ place_type look env p)
    × Pops (part_types look env p) below (λ under. k.on (place_type look env p ∷ under) env))) k
typed_piece look result (Dup p) k =
    only (λ stack env. let parts = part_types look env p in
    Pops parts stack (λ under. k.on (parts ++ (parts ++ under)) env)) k
typed_piece look result (Tuck p) k =
    only (λ stack env. let parts = part_types look env p in
    Top stack (λ t below. Pops parts below (λ under. k.on (t ∷ (parts ++ (t ∷ under))) env))) k
typed_piece look result (Swap p) k =
    only (λ stack env. let parts = part_types look env p in
    Pops parts stack (λ below. Top below (λ t under. k.on (t ∷ (parts ++ under)) env))) k
typed_piece look result (Apply op) k =
    only (λ stack env. Top stack (λ t under. IsOperand op t × k.on (Integer (unary_kind op (kind t)) ∷ under) env)) k
typed_piece look result (Combine op) k =
    only (λ stack env. Top stack (λ b below. Top below (λ a under.
    AreOperands op a b × k.on (Integer (binary_kind op (kind a) (kind b)) ∷ under) env))) k
typed_piece look result (ConvertTo type) k =
    only (λ stack env. Top stack (λ t under. Becomes type t × k.on (type ∷ under) env)) k
typed_piece look result Drop k = only (λ stack env. Top stack (λ t under. k.on under env)) k
typed_piece look result (Push v) k = only (λ stack env. (t : BareType) × HasType [] t v × k.on (t ∷ stack) env) k
typed_piece look result Truth k = only (λ stack env. Top stack (λ t under. IsScalar t × k.on (int ∷ under) env)) k
typed_piece look result Created k = only (λ stack env. Top stack (λ t under. (t ≡ Thread) × k.on (int ∷ under) env)) k
typed_piece look result (AndThen b m) k =
    only (λ stack env. Top stack (λ t under. IsScalar t × IsCondition look env b × k.on (int ∷ under) env)) k
typed_piece look result (OrElse b m) k =
    only (λ stack env. Top stack (λ t under. IsScalar t × IsCondition look env b × k.on (int ∷ under) env)) k
typed_piece look result (Choose a b m) k =
    only (λ stack env. Top stack (λ t under. IsScalar t × IsTyped look env a × IsTyped look env b
    × (type_of look env b ≡ type_of look env a) × k.on (type_of look env a ∷ under) env)) k
typed_piece look result (Then s m) k =
    only (λ stack env. Top stack (λ t under. IsScalar t × StatementTyped look result env s × IsPart s
    × JumpsWell (jumps s) k under env × k.on under env)) k
typed_piece look result (ThenElse s r m) k =
    only (λ stack env. Top stack (λ t under. IsScalar t × StatementTyped look result env s × StatementTyped look result env r
    × IsPart s × IsPart r × JumpsWell (jumps s) k under env × JumpsWell (jumps r) k under env × k.on under env)) k
typed_piece look result (Turn l) k =
    only (λ stack env. Top stack (λ t under. IsScalar t × LoopTyped look result env l × k.on under env)) k
typed_piece look result (Repeat s c n) k =
    only (λ stack env. Top stack (λ t under. IsScalar t × DoTyped look result env s c × k.on under env)) k
typed_piece look result (Do s n) k =
    only (λ stack env. StatementTyped look result env s × JumpsWell (jumps s) k stack env × k.on stack (declares s env)) k
typed_piece look result (Sequence ss n) k =
    only (λ stack env. StatementsTyped look result env ss × JumpInside (some_jump ss) k stack env
    × k.on stack (declare_all ss env)) k
typed_piece look result Close k = record { on = AtClose k.on; broken = AtClose k.broken; continued = AtClose k.continued }
typed_piece look result (LoopTest l) k = only (λ stack env. LoopTyped look result env l × k.on stack env) k
typed_piece look result (AfterBody l) k =
    let turns : Stack → Environment → Type 0 = λ stack env. LoopTyped look result env l × k.on stack env in
    record { on = turns; broken = k.on; continued = turns }
typed_piece look result (BackEdge l) k = only (λ stack env. LoopTyped look result env l × k.on stack env) k
typed_piece look result (Until s c n) k =
    let turns : Stack → Environment → Type 0 = λ stack env. DoTyped look result env s c × k.on stack env in
    record { on = turns; broken = k.on; continued = turns }
typed_piece look result (At s n) k = only (λ stack env. StopTyped look result s stack (λ under. k.on under env)) k

-- pending pieces of a function with that result, under the definitions of its version; where nothing is left to do, a
-- thread wouldn't go on
abbrev pub going : Definitions → BareType → List Piece → Going
going look result [] = record { on = λ stack env. ⊥; broken = λ stack env. ⊥; continued = λ stack env. ⊥ }
going look result (p ∷ ps) = typed_piece look result p (going look result ps)

-- they go on well from values and variables
pub record GoesOn (look : Definitions) (result : BareType) (tags : List Bytes) (ps : List Piece) (values : List Value) (scopes : Scopes) : Type 0 where
  pub stack : Stack
  pub env : Environment
  pub typed : (going look result ps).on stack env
  pub values_have : HaveTypes tags stack values
  pub scopes_have : ScopesHave tags env scopes

-- local evaluation ended well: before a stop that has what it takes and whose rest goes on well after it, or with the trap
-- of an operator; not for want of a value or a variable
abbrev pub EndsWell : Definitions → BareType → List Bytes → Halt → Type 0
EndsWell look result tags (Stopped s n rest values scopes) = GoesOn look result tags (At s n ∷ rest) values scopes
EndsWell look result tags (Trapped kind) = (trap : ArithTrap) × (kind ≡ trap_of trap)
EndsWell look result tags Nothing = ⊥
