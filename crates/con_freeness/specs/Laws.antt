-- Laws of admission.
use Rattle.std.specs.Prelude.{◌≡◌, ℕ, ◌<◌, Bool, IsTrue, All, List, Some, slice_get}
use Rattle.std.specs.Option.{is_none}
use Rattle.con_freeness.specs.Verdicts.{Refusal, Verdict, Admitted, Refused}
use Rattle.con_freeness.specs.Rows.{Names, Row, InForce, admits, obstacle, verdict}

-- a row admits a patch exactly where it has no obstacle
abbrev pub AdmitsWithoutObstacle : Type 0
AdmitsWithoutObstacle =
    (row : Row) (pinned : Bool) (changed interface : Names)
    → admits row pinned changed interface ≡ is_none (obstacle row pinned changed interface)

-- the row in force of a slot admits
abbrev pub Admits : Names → Names → InForce → Type 0
Admits changed interface s = IsTrue (admits s.row s.pinned changed interface)

-- a refusal is that of the least slot that doesn't admit, with its obstacle
pub record IsLeastRefusal (slots : List InForce) (changed interface : Names) (r : Refusal) : Type 0 where
  pub refusing : InForce
  pub there : slice_get slots r.slot ≡ Some refusing
  pub why : obstacle refusing.row refusing.pinned changed interface ≡ Some r.effect
  pub least : (n : ℕ) (s : InForce) → n < r.slot → slice_get slots n ≡ Some s → Admits changed interface s

abbrev pub IsVerdict : List InForce → Names → Names → Verdict → Type 0
IsVerdict slots changed interface Admitted = All (Admits changed interface) slots
IsVerdict slots changed interface (Refused r) = IsLeastRefusal slots changed interface r

-- a patch is admitted where each row admits it, and else the least slot refuses it whose row doesn't
abbrev pub LeastSlotRefuses : Type 0
LeastSlotRefuses = (slots : List InForce) (changed interface : Names) → IsVerdict slots changed interface (verdict slots changed interface)
