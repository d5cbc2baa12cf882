-- What is behind a stop: one place, from which the code goes on.
use Rattle.std.proofs.Common.{◌≡◌, ℕ, suc, ◌+◌, slice_get, Option, Some, None, refl, sym, subst, ◌∙◌, arith}
use Rattle.run_types.specs.CheckIns.{CheckInKind}
use Rattle.run_types.specs.Skeleton.{check_in_after}
use Rattle.c_semantics.specs.Stops.{Stop, kind_of}
use Rattle.c_semantics.specs.Stops as stop
use Rattle.typed_trees.specs.PieceTypes.{StopTyped}
use Rattle.bytecode.specs.Instructions.{Instruction, Back, Halt, Jump}
use Rattle.tree_code.specs.Code.{Code}
use Rattle.tree_code.specs.CodedPieces.{At, CheckedIn, Reaches, Stops, coding, jumps_on, there}
use Rattle.tree_code.specs.CodeLaws.{CodeGoesOnAfterStops}

halt_no_jump : (o : Option Instruction) (s : Stop) (n d : ℕ) → o ≡ Some (Halt s n) → o ≡ Some (Jump d) → ⊥
halt_no_jump o s n d e f = cc

back_no_jump : (o : Option Instruction) (b n v d : ℕ) → o ≡ Some (Back b n v) → o ≡ Some (Jump d) → ⊥
back_no_jump o b n v d e f = cc

same_back : (o : Option Instruction) (b d n v w : ℕ) → o ≡ Some (Back b n v) → o ≡ Some (Back d n w) → b ≡ d
same_back o b d n v w e f = cc

-- at a stop there is no jump
no_jump : (code : Code) (s : Stop) (n p q d : ℕ) → Stops code s n p q → slice_get code p ≡ Some (Jump d) → ⊥
no_jump code stop.Back n p q d h e = back_no_jump (slice_get code p) h.0 n h.1 d h.3 e
no_jump code s n p q d h e = halt_no_jump (slice_get code p) s n d h.0 e

stays : (code : Code) (s : Stop) (n p q r : ℕ) → Stops code s n p q → Reaches code p r → r ≡ p
stays code s n p q r h (there a) = refl
stays code s n p q r h (jumps_on a d b is g) = absurd (no_jump code s n a q d h is)

-- control goes on at one place
checked_once : (code : Code) (o : Option CheckInKind) (n p q r : ℕ) → CheckedIn code o n p q → CheckedIn code o n p r → q ≡ r
checked_once code None n p q r h g = h ∙ sym g
checked_once code (Some kind) n p q r h g = h.1 ∙ sym g.1

once : (code : Code) (s : Stop) (n p q r : ℕ) → Stops code s n p q → Stops code s n p r → q ≡ r
once code stop.Back n p q r h g = back_to q r h.0 g.0 (same_back (slice_get code p) h.0 g.0 n h.1 g.1 h.3 g.3) h.2 g.2
  where
    back_to : (q r d e : ℕ) → d ≡ e → q + d ≡ p → r + e ≡ p → q ≡ r
    back_to q r d e same h g = omega (arith, same, h, g)
once code s n p q r h g = checked_once code (check_in_after (kind_of s)) n (suc p) q r h.1 g.1

pub code_goes_on_after_stops : CodeGoesOnAfterStops
code_goes_on_after_stops code most look result s n rest stack env place after h at =
    let stands = subst (λ p. Stops code s n p h.2.0) (stays code s n place after h.0 at h.1) h.2.1 in
    subst (λ q. StopTyped look result s stack (λ under. (coding code most look result rest).on under env (At q)))
    (once code s n place h.2.0 after stands at) h.2.2
