-- Between which points of code control may go without a point between. Each conditional jump is taken both ways.
use Rattle.std.specs.Prelude.{◌≡◌, ◌≢◌, ℕ, suc, ◌+◌, Bool, true, false, IsTrue, Option, Some, None, slice_get}
use Rattle.run_types.specs.CheckIns.{CheckInKind}
use Rattle.c_semantics.specs.Stops.{Stop, Return}
use Rattle.bytecode.specs.Instructions.{Instruction, Jump, JumpIfZero, JumpUnlessZero, Halt, Back, CheckIn}
use Rattle.tree_code.specs.Code.{Code}
use Rattle.code_points.specs.CodePoints.{CodePoint, point_of}

-- how far an instruction may jump from the next one, if it is a jump
abbrev pub distance_of : Instruction → Option ℕ
distance_of (Jump d) = Some d
distance_of (JumpIfZero d) = Some d
distance_of (JumpUnlessZero d) = Some d
distance_of _ = None

-- whether a private instruction may lead to the next one
abbrev pub goes_on : Instruction → Bool
goes_on (Jump d) = false
goes_on (Halt s n) = false
goes_on (Back d n v) = false
goes_on (CheckIn k n) = false
goes_on _ = true

-- from a place private instructions may come to a point
pub data Ways (code : Code) : ℕ → ℕ → Type 0 where
  arrives : (p : ℕ) (i : Instruction) (x : CodePoint) → slice_get code p ≡ Some i → point_of i ≡ Some x → Ways code p x.number
  steps : (p n : ℕ) (i : Instruction) → slice_get code p ≡ Some i → IsTrue (goes_on i) → Ways code (suc p) n → Ways code p n
  leaps : (p d n : ℕ) (i : Instruction) → slice_get code p ≡ Some i → distance_of i ≡ Some d → Ways code (suc p + d) n → Ways code p n

-- from a point at a place control may go to another: from a return to none, from a back edge from its loop's beginning
pub data GoesFrom (code : Code) (p : ℕ) : Instruction → ℕ → Type 0 where
  stopped : (s : Stop) (n b : ℕ) → s ≢ Return → Ways code (suc p) b → GoesFrom code p (Halt s n) b
  turned : (d n v q b : ℕ) → q + d ≡ p → Ways code q b → GoesFrom code p (Back d n v) b
  checked_in : (k : CheckInKind) (n b : ℕ) → Ways code (suc p) b → GoesFrom code p (CheckIn k n) b

-- control may go from point a of some code to point b without a point between
pub record CodeLeads (code : Code) (a b : ℕ) : Type 0 where
  pub place : ℕ
  pub instruction : Instruction
  pub point : CodePoint
  pub there : slice_get code place ≡ Some instruction
  pub is_point : point_of instruction ≡ Some point
  pub numbered : point.number ≡ a
  pub goes : GoesFrom code place instruction b
