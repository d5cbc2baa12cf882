-- What the rest of the verifier asks of an instruction.
use Rattle.std.specs.Prelude.{ℕ, suc, ◌+◌, ◌-◌, List, [], ◌∷◌, Option, Some, None}
use Rattle.run_types.specs.CheckIns.{CheckInKind}
use Rattle.bytecode.specs.Instructions.{Instruction, Back, CheckIn}
use Rattle.code_kinds.specs.Shapes.{Due}
use Rattle.code_verify.specs.declared.ways.Ways.{Ways}
use Rattle.code_verify.specs.declared.ways.Ways.TheVariants as way

-- a check-in with its number
abbrev pub due_numbered : CheckInKind → ℕ → Due
due_numbered kind number = record { kind = kind; number = number }

abbrev pub check_in_in : Instruction → Option Due
check_in_in (CheckIn kind n) = Some (due_numbered kind n)
check_in_in _ = None

-- the places to which control goes from a place
abbrev pub ways_of : ℕ → Ways → List ℕ
ways_of p way.On = suc p ∷ []
ways_of p (way.Over d) = (suc p + d) ∷ []
ways_of p (way.Either d) = suc p ∷ (suc p + d) ∷ []
ways_of p (way.Back d) = (p - d) ∷ []
ways_of p way.Ends = []

-- how far a back edge leads, and how many variables it keeps
pub record Edge : Type 0 where
  pub distance : ℕ
  pub variables : ℕ

abbrev pub edge_in : Instruction → Option Edge
edge_in (Back d n v) = Some (record { distance = d; variables = v })
edge_in _ = None

abbrev pub edge_of : (ℕ × ℕ) → Edge
edge_of e = record { distance = e.0; variables = e.1 }
