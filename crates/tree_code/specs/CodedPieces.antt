-- Which code does what a frame has still to evaluate: from which place of some code, with which types of values and
-- variables, it does pending pieces up to the end of their function. It is a recursion on the pieces, as what they mean is,
-- and as their types are.
use Rattle.std.specs.Prelude.{◌≡◌, ◌⊎◌, ℕ, suc, ◌+◌, Bool, IsTrue, List, [], ◌∷◌, ◌++◌, length, slice_get, Option, Some, None}
use Rattle.c_ints.specs.Number.{value_of}
use Rattle.c_ints.specs.Arithmetic.{binary_kind, unary_kind, is_not}
use Rattle.run_types.specs.CheckIns.{CheckInKind}
use Rattle.run_types.specs.Skeleton.{check_in_after}
use Rattle.c_tree.specs.BareExpr.{BareType, Integer, Thread}
use Rattle.c_semantics.specs.Texts.{Definitions, int}
use Rattle.c_semantics.specs.Values.{Value, Number}
use Rattle.c_semantics.specs.Resolution.{kind}
use Rattle.c_semantics.specs.Resolved.{Expression, Statement, Statements, Place, Local}
use Rattle.c_semantics.specs.Points.{size, size_stmt}
use Rattle.c_semantics.specs.Stops.{Stop, kind_of}
use Rattle.c_semantics.specs.Stops as stop
use Rattle.c_semantics.specs.Pieces.{Loop, Piece, body_at, step_at, back_at}
use Rattle.c_semantics.specs.Pieces as piece
use Rattle.typed_trees.specs.ValueTypes.{Environment}
use Rattle.typed_trees.specs.ExpressionTypes.{IsScalar, AreOperands, IsOperand, Becomes, place_type, type_of, types_of, part_types, IsTyped, AreTyped, IsPlaced}
use Rattle.typed_trees.specs.StatementTypes.{declares, declare_all, IsPart, IsCondition, StatementTyped, StatementsTyped, jumps, some_jump}
use Rattle.typed_trees.specs.PieceTypes.{Stack, Top, Pops, StopTyped, Inside, LoopTyped, DoTyped, pushed}
use Rattle.bytecode.specs.Words.{integer_word}
use Rattle.bytecode.specs.Instructions.{Constant, Drop, IsZero, IsNotZero, Jump, JumpIfZero, JumpUnlessZero, Halt, Back, CheckIn}
use Rattle.tree_code.specs.Ranges.{IsPlain}
use Rattle.tree_code.specs.Code.{Code, kind_of_type, int_code, conversion, combination, application, getting, setting, setting_only, copying, tucking, swapping, value, values, parts, effect_if, negated, condition_code, unless_jump, turning, looping, statement, statements, HasRoom, HaveRoom}

-- ---- places of code

-- some code is at a place
abbrev pub HasAt : Code → ℕ → Code → Type 0
HasAt code p [] = Unit {0}
HasAt code p (i ∷ is) = (slice_get code p ≡ Some i) × HasAt code (suc p) is

-- where control is: at a place, with all values on the stack; or at one of two places, with the newest value not there: at
-- the first where it is true, else at the second
pub data Where : Type 0 where
  At : ℕ → Where
  Branch : ℕ → ℕ → Where

-- from the first place jumps alone lead to the second
pub data Reaches (code : Code) : ℕ → ℕ → Type 0 where
  there : (p : ℕ) → Reaches code p p
  jumps_on : (p d q : ℕ) → slice_get code p ≡ Some (Jump d) → Reaches code (suc p + d) q → Reaches code p q

-- jumps alone lead to a place with all values on the stack, which is as asked
abbrev pub From : Code → Where → (ℕ → Type 0) → Type 0
From code (At p) then = (q : ℕ) × Reaches code p q × then q
From code (Branch t f) then = ⊥

-- some code is there, and the place after it is as asked
abbrev pub Has : Code → Where → Code → (ℕ → Type 0) → Type 0
Has code w is then = From code w (λ p. HasAt code p is × then (p + length is))

-- the newest value is tested, and control goes on at the first place where it is true, else at the second
pub data Tests (code : Code) : Where → ℕ → ℕ → Type 0 where
  branched : (t f : ℕ) → Tests code (Branch t f) t f
  if_zero : (p q d : ℕ) → Reaches code p q → slice_get code q ≡ Some (JumpIfZero d) → Tests code (At p) (suc q) (suc q + d)
  unless_zero : (p q d : ℕ) → Reaches code p q → slice_get code q ≡ Some (JumpUnlessZero d) → Tests code (At p) (suc q + d) (suc q)

abbrev pub Tested : Code → Where → (ℕ → ℕ → Type 0) → Type 0
Tested code w then = (t : ℕ) × (f : ℕ) × Tests code w t f × then t f

-- the newest value is dropped
abbrev pub Dropped : Code → Where → (ℕ → Type 0) → Type 0
Dropped code (At p) then = (q : ℕ) × Reaches code p q × (slice_get code q ≡ Some Drop) × then (suc q)
Dropped code (Branch t f) then = (q : ℕ) × Reaches code t q × Reaches code f q × then q

-- a stop at a place, and where control goes on after it and after the check-in that follows it, if one does
abbrev pub CheckedIn : Code → Option CheckInKind → ℕ → ℕ → ℕ → Type 0
CheckedIn code None n p q = q ≡ p
CheckedIn code (Some kind) n p q = (slice_get code p ≡ Some (CheckIn kind (suc n))) × (q ≡ suc p)

abbrev pub Stops : Code → Stop → ℕ → ℕ → ℕ → Type 0
Stops code stop.Back n p q = (d v : ℕ) × (q + d ≡ p) × (slice_get code p ≡ Some (Back d n v))
Stops code s n p q = (slice_get code p ≡ Some (Halt s n)) × CheckedIn code (check_in_after (kind_of s)) n (suc p) q

-- ---- statements and loops at places

-- a statement's code, its end, and room for its variables; and that of statements in order
pub record StatementAt (code : Code) (most : ℕ) (look : Definitions) (env : Environment) (s : Statement) (n broken continued p end : ℕ) : Type 0 where
  pub there : HasAt code p (statement look env s n broken continued)
  pub ends : end ≡ p + length (statement look env s n broken continued)
  pub room : HasRoom most env s

pub record StatementsAt (code : Code) (most : ℕ) (look : Definitions) (env : Environment) (ss : Statements) (n broken continued p end : ℕ) : Type 0 where
  pub there : HasAt code p (statements look env ss n broken continued)
  pub ends : end ≡ p + length (statements look env ss n broken continued)
  pub room : HaveRoom most env ss

-- a condition with its jump, if there is one
abbrev pub guard_length : Definitions → Environment → Option Expression → ℕ → ℕ
guard_length look env None n = 0
guard_length look env (Some c) n = suc (length (condition_code look env c (negated c) n))

-- the step of a loop, its body, and the loop whole
abbrev pub step_code : Definitions → Environment → Loop → Code
step_code look env l = effect_if look env l.step (step_at l)

abbrev pub turn_code : Definitions → Environment → Loop → Code
turn_code look env l = statement look env l.body (body_at l) (suc (length (step_code look env l))) 0

abbrev pub loop_code : Definitions → Environment → Loop → Code
loop_code look env l = turning look env l.test l.first (turn_code look env l) (step_code look env l) (back_at l)

-- the places of a loop that begins at a place: its body, its step, its back edge, its end
abbrev pub body_place : Definitions → Environment → Loop → ℕ → ℕ
body_place look env l start = start + guard_length look env l.test l.first

abbrev pub step_place : Definitions → Environment → Loop → ℕ → ℕ
step_place look env l start = body_place look env l start + length (turn_code look env l)

abbrev pub back_place : Definitions → Environment → Loop → ℕ → ℕ
back_place look env l start = step_place look env l start + length (step_code look env l)

abbrev pub end_place : Definitions → Environment → Loop → ℕ → ℕ
end_place look env l start = suc (back_place look env l start)

-- a loop after its first part, at a place
pub record LoopAt (code : Code) (most : ℕ) (look : Definitions) (env : Environment) (l : Loop) (start : ℕ) : Type 0 where
  pub there : HasAt code start (loop_code look env l)
  pub room : HasRoom most env l.body

-- a `do` loop at a place: its condition with the jump, its body, its places
abbrev pub do_test : Definitions → Environment → Statement → Expression → ℕ → Code
do_test look env s c n = condition_code look env c (negated c) (n + size_stmt s) ++ unless_jump (negated c) 1 ∷ []

abbrev pub do_turn : Definitions → Environment → Statement → Expression → ℕ → Code
do_turn look env s c n = statement look env s n (suc (length (do_test look env s c n))) 0

abbrev pub test_place : Definitions → Environment → Statement → Expression → ℕ → ℕ → ℕ
test_place look env s c n start = start + length (do_turn look env s c n)

abbrev pub edge_place : Definitions → Environment → Statement → Expression → ℕ → ℕ → ℕ
edge_place look env s c n start = test_place look env s c n start + length (do_test look env s c n)

pub record DoAt (code : Code) (most : ℕ) (look : Definitions) (env : Environment) (s : Statement) (c : Expression) (n start : ℕ) : Type 0 where
  pub there : HasAt code start (looping env (do_turn look env s c n ++ do_test look env s c n) (n + size_stmt s + size c))
  pub room : HasRoom most env s

-- ---- pieces

-- from which types of values and variables, and from where, control goes on well
abbrev pub Goal : Type 1
Goal = Stack → Environment → Where → Type 0

-- on, at a `break`, at a `continue`
pub record Coding : Type 1 where
  pub on : Goal
  pub broken : Goal
  pub continued : Goal

abbrev pub only : Goal → Coding → Coding
only on k = record { on = on; broken = k.broken; continued = k.continued }

-- where the jumps of a statement lead, where it has some: so far after its end
abbrev pub JumpsWell : Bool → Coding → Stack → Environment → ℕ → ℕ → ℕ → Type 0
JumpsWell jump k stack env end broken continued =
    IsTrue jump → k.broken stack env (At (end + broken)) × k.continued stack env (At (end + continued))

abbrev pub JumpInside : Bool → Coding → Stack → Environment → ℕ → ℕ → ℕ → Type 0
JumpInside jump k stack env end broken continued =
    IsTrue jump → Inside env (λ inner. k.broken stack inner (At (end + broken)) × k.continued stack inner (At (end + continued)))

-- at the end of a scope
abbrev pub AtClose : Goal → Goal
AtClose k stack [] w = ⊥
AtClose k stack (bindings ∷ outer) w = k stack outer w

-- whether a place is a variable's
abbrev pub IsLocal : Place → Type 0
IsLocal (Local name) = Unit {0}
IsLocal _ = ⊥

-- the word of a value that is no object's handle and no thread
abbrev pub plain_word : Value → ℕ
plain_word (Number i) = integer_word (value_of i)
plain_word _ = 0

-- a piece before others, in code of a function with that result and so many variables
abbrev pub coded_piece : Code → ℕ → Definitions → BareType → Piece → Coding → Coding
coded_piece code most look result (piece.Compute e n) k = only (λ stack env w.
    IsTyped look env e × Has code w (value look env e n) (λ q. k.on (type_of look env e ∷ stack) env (At q))) k
coded_piece code most look result (piece.Arguments es n) k = only (λ stack env w.
    AreTyped look env es × Has code w (values look env es n) (λ q. k.on (pushed (types_of look env es) stack) env (At q))) k
coded_piece code most look result (piece.Parts p n) k = only (λ stack env w.
    IsPlaced look env p × Has code w (parts look env p n) (λ q. k.on (part_types look env p ++ stack) env (At q))) k
coded_piece code most look result (piece.Get p n) k = only (λ stack env w.
    IsPlaced look env p × Pops (part_types look env p) stack (λ under.
    Has code w (getting env p n ∷ []) (λ q. k.on (place_type look env p ∷ under) env (At q)))) k
coded_piece code most look result (piece.Set p n) k = only (λ stack env w.
    IsPlaced look env p × Top stack (λ t below. (t ≡ place_type look env p) × Pops (part_types look env p) below (λ under.
    Has code w (setting env p n) (λ q. k.on (place_type look env p ∷ under) env (At q))
    ⊎ (IsLocal p × Has code w (setting_only env p n) (λ q. k.on (place_type look env p ∷ under) env (Branch q q)))))) k
coded_piece code most look result (piece.Dup p) k = only (λ stack env w. let parts = part_types look env p in
    Pops parts stack (λ under. Has code w (copying p) (λ q. k.on (parts ++ (parts ++ under)) env (At q)))) k
coded_piece code most look result (piece.Tuck p) k = only (λ stack env w. let parts = part_types look env p in
    Top stack (λ t below. Pops parts below (λ under.
    Has code w (tucking p ∷ []) (λ q. k.on (t ∷ (parts ++ (t ∷ under))) env (At q))))) k
coded_piece code most look result (piece.Swap p) k = only (λ stack env w. let parts = part_types look env p in
    Pops parts stack (λ below. Top below (λ t under. Has code w (swapping p) (λ q. k.on (t ∷ (parts ++ under)) env (At q))))) k
coded_piece code most look result (piece.Apply op) k = only (λ stack env w.
    Top stack (λ t under. IsOperand op t
    × (Has code w (application op t) (λ q. k.on (Integer (unary_kind op (kind t)) ∷ under) env (At q))
    ⊎ (IsTrue (is_not op) × Tested code w (λ yes no. k.on (Integer (unary_kind op (kind t)) ∷ under) env (Branch no yes)))))) k
coded_piece code most look result (piece.Combine op) k = only (λ stack env w.
    Top stack (λ b below. Top below (λ a under. AreOperands op a b
    × Has code w (combination op a b ∷ []) (λ q. k.on (Integer (binary_kind op (kind a) (kind b)) ∷ under) env (At q))))) k
coded_piece code most look result (piece.ConvertTo type) k = only (λ stack env w.
    Top stack (λ t under. Becomes type t × Has code w (conversion type t) (λ q. k.on (type ∷ under) env (At q)))) k
coded_piece code most look result piece.Drop k = only (λ stack env w.
    Top stack (λ t under. Dropped code w (λ q. k.on under env (At q)))) k
coded_piece code most look result (piece.Push v) k = only (λ stack env w.
    (t : BareType) × IsPlain t v × Has code w (Constant (kind_of_type t) (plain_word v) ∷ []) (λ q. k.on (t ∷ stack) env (At q))) k
coded_piece code most look result piece.Truth k = only (λ stack env w.
    Top stack (λ t under. IsScalar t × Has code w (IsNotZero ∷ []) (λ q. k.on (int ∷ under) env (At q)))) k
coded_piece code most look result piece.Created k = only (λ stack env w.
    Top stack (λ t under. (t ≡ Thread) × Has code w (IsZero ∷ []) (λ q. k.on (int ∷ under) env (At q)))) k
coded_piece code most look result (piece.AndThen b m) k = only (λ stack env w.
    Top stack (λ t under. IsScalar t × IsCondition look env b × Tested code w (λ yes no.
    HasAt code yes (value look env b m ++ IsNotZero ∷ Jump 1 ∷ int_code 0 ∷ []) × (no ≡ yes + length (value look env b m) + 2)
    × k.on (int ∷ under) env (At (suc no))))) k
coded_piece code most look result (piece.OrElse b m) k = only (λ stack env w.
    Top stack (λ t under. IsScalar t × IsCondition look env b × Tested code w (λ yes no.
    HasAt code no (value look env b m ++ IsNotZero ∷ Jump 1 ∷ int_code 1 ∷ []) × (yes ≡ no + length (value look env b m) + 2)
    × k.on (int ∷ under) env (At (suc yes))))) k
coded_piece code most look result (piece.Choose a b m) k = only (λ stack env w.
    Top stack (λ t under. IsScalar t × IsTyped look env a × IsTyped look env b × (type_of look env b ≡ type_of look env a)
    × Tested code w (λ yes no. (end : ℕ) × HasAt code yes (value look env a m) × Reaches code (yes + length (value look env a m)) end
    × HasAt code no (value look env b (m + size a)) × (end ≡ no + length (value look env b (m + size a)))
    × k.on (type_of look env a ∷ under) env (At end)))) k
coded_piece code most look result (piece.Then s m) k = only (λ stack env w.
    Top stack (λ t under. IsScalar t × StatementTyped look result env s × IsPart s
    × Tested code w (λ yes no. (broken continued : ℕ) × StatementAt code most look env s m broken continued yes no
    × JumpsWell (jumps s) k under env no broken continued × k.on under env (At no)))) k
coded_piece code most look result (piece.ThenElse s r m) k = only (λ stack env w.
    Top stack (λ t under. IsScalar t × StatementTyped look result env s × StatementTyped look result env r × IsPart s × IsPart r
    × Tested code w (λ yes no. (broken continued other_broken other_continued middle end : ℕ)
    × StatementAt code most look env s m broken continued yes middle × Reaches code middle end
    × StatementAt code most look env r (m + size_stmt s) other_broken other_continued no end
    × JumpsWell (jumps s) k under env middle broken continued
    × JumpsWell (jumps r) k under env end other_broken other_continued
    × k.on under env (At end)))) k
coded_piece code most look result (piece.Turn l) k = only (λ stack env w.
    Top stack (λ t under. IsScalar t × LoopTyped look result env l
    × Tested code w (λ yes no. (start : ℕ) × LoopAt code most look env l start × (yes ≡ body_place look env l start)
    × (no ≡ end_place look env l start) × k.on under env (At no)))) k
coded_piece code most look result (piece.Repeat s c n) k = only (λ stack env w.
    Top stack (λ t under. IsScalar t × DoTyped look result env s c
    × Tested code w (λ yes no. (start : ℕ) × DoAt code most look env s c n start × (yes ≡ edge_place look env s c n start)
    × (no ≡ suc (edge_place look env s c n start)) × k.on under env (At no)))) k
coded_piece code most look result (piece.Do s n) k = only (λ stack env w.
    StatementTyped look result env s × From code w (λ p. (broken continued end : ℕ)
    × StatementAt code most look env s n broken continued p end
    × JumpsWell (jumps s) k stack env end broken continued × k.on stack (declares s env) (At end))) k
coded_piece code most look result (piece.Sequence ss n) k = only (λ stack env w.
    StatementsTyped look result env ss × From code w (λ p. (broken continued end : ℕ)
    × StatementsAt code most look env ss n broken continued p end
    × JumpInside (some_jump ss) k stack env end broken continued × k.on stack (declare_all ss env) (At end))) k
coded_piece code most look result piece.Close k =
    record { on = AtClose k.on; broken = AtClose k.broken; continued = AtClose k.continued }
coded_piece code most look result (piece.LoopTest l) k = only (λ stack env w.
    LoopTyped look result env l × From code w (λ p. LoopAt code most look env l p × k.on stack env (At (end_place look env l p)))) k
coded_piece code most look result (piece.AfterBody l) k =
    let turns : Goal = λ stack env w.
    LoopTyped look result env l × From code w (λ p. (start : ℕ) × LoopAt code most look env l start
    × (p ≡ step_place look env l start) × k.on stack env (At (end_place look env l start))) in
    record { on = turns; broken = k.on; continued = turns }
coded_piece code most look result (piece.BackEdge l) k = only (λ stack env w.
    LoopTyped look result env l × From code w (λ p. (start : ℕ) × LoopAt code most look env l start
    × (p ≡ back_place look env l start) × k.on stack env (At (end_place look env l start)))) k
coded_piece code most look result (piece.Until s c n) k =
    let turns : Goal = λ stack env w.
    DoTyped look result env s c × From code w (λ p. (start : ℕ) × DoAt code most look env s c n start
    × (p ≡ test_place look env s c n start) × k.on stack env (At (suc (edge_place look env s c n start)))) in
    record { on = turns; broken = k.on; continued = turns }
coded_piece code most look result (piece.At s n) k = only (λ stack env w.
    From code w (λ p. (q : ℕ) × Stops code s n p q × StopTyped look result s stack (λ under. k.on under env (At q)))) k

-- pending pieces of a function; where nothing is left to do, a frame wouldn't go on
abbrev pub coding : Code → ℕ → Definitions → BareType → List Piece → Coding
coding code most look result [] = record { on = λ stack env w. ⊥; broken = λ stack env w. ⊥; continued = λ stack env w. ⊥ }
coding code most look result (p ∷ ps) = coded_piece code most look result p (coding code most look result ps)
