-- From one state private instructions come to one end, and at a place there is one point.
use Rattle.std.proofs.Common.{◌≡◌, ℕ, suc, ◌+◌, slice_get, Option, Some, None, refl, sym, subst, ◌∙◌, inl, inr, arith}
use Rattle.std.specs.Prelude.{◌⊎◌}
use Rattle.run_types.specs.declared.trap.TrapKind.{TrapKind}
use Rattle.run_types.specs.CheckIns.{CheckInKind}
use Rattle.run_types.specs.Skeleton.{check_in_after}
use Rattle.c_semantics.specs.Stops.{Stop, kind_of}
use Rattle.c_semantics.specs.Stops as stop
use Rattle.bytecode.specs.Instructions.{Instruction, Back, Halt}
use Rattle.bytecode.specs.Meaning.{State, Step, Goes, Rests, Traps, Runs, here, more, perform_if, step}
use Rattle.tree_code.specs.Code.{Code}
use Rattle.tree_code.specs.CodedPieces.{CheckedIn, Stops}
use Rattle.code_runs.specs.CodeMoves.{Ends, rests, traps}

-- ---- private instructions

same_goes : (o : Step) (t u : State) → o ≡ Goes t → o ≡ Goes u → t ≡ u
same_goes o t u e f = cc

rests_no_step : (o : Step) (t : State) → o ≡ Rests → o ≡ Goes t → ⊥
rests_no_step o t e f = cc

traps_no_step : (o : Step) (kind : TrapKind) (t : State) → o ≡ Traps kind → o ≡ Goes t → ⊥
traps_no_step o kind t e f = cc

no_step : (code : Code) (s t : State) → Ends code s → step code s ≡ Goes t → ⊥
no_step code s t (rests e) f = rests_no_step (step code s) t e f
no_step code s t (traps kind e) f = traps_no_step (step code s) kind t e f

pub one_end : (code : Code) (s a b : State) → Runs code s a → Runs code s b → Ends code a → Ends code b → a ≡ b
one_end code s a b (here x) (here y) ea eb = refl
one_end code s a b (here x) (more y t u e r) ea eb = absurd (no_step code s t ea e)
one_end code s a b (more x t u e r) (here y) ea eb = absurd (no_step code s t eb e)
one_end code s a b (more x t u e r) (more y v z f q) ea eb =
    one_end code t a b r (subst (λ m. Runs code m b) (same_goes (step code s) v t f e) q) ea eb

-- a state rests or traps, and not both
pub rests_no_trap : (o : Step) (kind : TrapKind) → o ≡ Rests → o ≡ Traps kind → ⊥
rests_no_trap o kind e f = cc

pub one_trap : (o : Step) (kind other : TrapKind) → o ≡ Traps kind → o ≡ Traps other → kind ≡ other
one_trap o kind other e f = cc

-- ---- points

-- a stop is a back edge, or it is at an instruction that has it
abbrev IsBack : Code → Stop → ℕ → ℕ → ℕ → Type 0
IsBack code s n p q = (s ≡ stop.Back) × ((d v : ℕ) × (q + d ≡ p) × (slice_get code p ≡ Some (Back d n v)))

abbrev IsHalt : Code → Stop → ℕ → ℕ → ℕ → Type 0
IsHalt code s n p q = (slice_get code p ≡ Some (Halt s n)) × CheckedIn code (check_in_after (kind_of s)) n (suc p) q

either : (code : Code) (s : Stop) (n p q : ℕ) → Stops code s n p q → IsBack code s n p q ⊎ IsHalt code s n p q
either code stop.Back n p q h = inl (refl, h)
either code s n p q h = inr h

back_no_halt : (o : Option Instruction) (d n v m : ℕ) (s : Stop) → o ≡ Some (Back d n v) → o ≡ Some (Halt s m) → ⊥
back_no_halt o d n v m s e f = cc

same_back : (o : Option Instruction) (b d n m v w : ℕ) → o ≡ Some (Back b n v) → o ≡ Some (Back d m w) → (n ≡ m) × (b ≡ d)
same_back o b d n m v w e f = (cc, cc)

same_halt : (o : Option Instruction) (s t : Stop) (n m : ℕ) → o ≡ Some (Halt s n) → o ≡ Some (Halt t m) → (s ≡ t) × (n ≡ m)
same_halt o s t n m e f = (cc, cc)

back_to : (p q r d e : ℕ) → d ≡ e → q + d ≡ p → r + e ≡ p → q ≡ r
back_to p q r d e same h g = omega (arith, same, h, g)

checked_once : (code : Code) (o : Option CheckInKind) (n p q r : ℕ) → CheckedIn code o n p q → CheckedIn code o n p r → q ≡ r
checked_once code None n p q r h g = h ∙ sym g
checked_once code (Some kind) n p q r h g = h.1 ∙ sym g.1

-- a place determines the stop, its number, and the place after it
pub record IsSamePoint (s t : Stop) (n m q r : ℕ) : Type 0 where
  pub stop_is : s ≡ t
  pub number_is : n ≡ m
  pub after_is : q ≡ r

pub one_point : (code : Code) (s t : Stop) (n m p q r : ℕ) → Stops code s n p q → Stops code t m p r → IsSamePoint s t n m q r
one_point code s t n m p q r h g = by (either code s n p q h) (either code t m p r g)
  where
    halts : IsHalt code s n p q → IsHalt code t m p r → (s ≡ t) × (n ≡ m) → IsSamePoint s t n m q r
    halts a b e = record {
      stop_is = e.0;
      number_is = e.1;
      after_is =
          checked_once code (check_in_after (kind_of t)) m (suc p) q r
          (subst (λ k. CheckedIn code (check_in_after (kind_of t)) k (suc p) q) e.1
          (subst (λ u. CheckedIn code (check_in_after (kind_of u)) n (suc p) q) e.0 a.1)) b.1;
    }

    by : IsBack code s n p q ⊎ IsHalt code s n p q → IsBack code t m p r ⊎ IsHalt code t m p r → IsSamePoint s t n m q r
    by (inl a) (inl b) =
        let e = same_back (slice_get code p) a.1.0 b.1.0 n m a.1.1 b.1.1 a.1.3 b.1.3 in
        record { stop_is = a.0 ∙ sym b.0; number_is = e.0; after_is = back_to p q r a.1.0 b.1.0 e.1 a.1.2 b.1.2 }
    by (inl a) (inr b) = absurd (back_no_halt (slice_get code p) a.1.0 n a.1.1 m t a.1.3 b.0)
    by (inr a) (inl b) = absurd (back_no_halt (slice_get code p) b.1.0 m b.1.1 n s b.1.3 a.0)
    by (inr a) (inr b) = halts a b (same_halt (slice_get code p) s t n m a.0 b.0)

-- a frame rests there
rests_by : (o : Option Instruction) (i : Instruction) (s : State) → o ≡ Some i → perform_if (Some i) s ≡ Rests → perform_if o s ≡ Rests
rests_by o i s e f = subst (λ x. perform_if x s ≡ Rests) (sym e) f

pub rests_at : (code : Code) (x : Stop) (n q : ℕ) (s : State) → Stops code x n s.place q → step code s ≡ Rests
rests_at code x n q s h = by (either code x n s.place q h)
  where
    by : IsBack code x n s.place q ⊎ IsHalt code x n s.place q → step code s ≡ Rests
    by (inl a) = rests_by (slice_get code s.place) (Back a.1.0 n a.1.1) s a.1.3 refl
    by (inr a) = rests_by (slice_get code s.place) (Halt x n) s a.0 refl
