-- Private instructions go along the ways of code.
use Rattle.std.proofs.Common.{◌≡◌, ℕ, suc, ◌+◌, IsTrue, List, [], ◌∷◌, slice_get, Option, Some, None, Result, Ok, Err, refl, sym, ap, subst}
use Rattle.std.specs.Prelude.{◌==◌, Bool, true, false, if◌then◌else◌}
use Rattle.c_ints.specs.declared.int.Int.{Int}
use Rattle.c_ints.specs.declared.operator.ArithTrap.{ArithTrap}
use Rattle.c_ints.specs.Number.{value_of}
use Rattle.c_ints.specs.Arithmetic.{operate, operate_on}
use Rattle.run_types.specs.Trap.{trap_of}
use Rattle.bytecode.specs.Words.{integer_word, number_at}
use Rattle.bytecode.specs.Instructions.{Instruction, Constant, Load, Store, Copy, CopyUnder, Swap, Drop, Convert, Unary, Binary, IsZero, IsNotZero, Same, Different, Jump, JumpIfZero, JumpUnlessZero, Halt, Back, CheckIn}
use Rattle.bytecode.specs.Meaning.{State, Step, Goes, Traps, Rests, Lost, Runs, here, more, step, perform, perform_if, one, two, outcome, loaded, stored, right_operand}
use Rattle.tree_code.specs.Code.{Code}
use Rattle.code_points.specs.CodeWays.{Ways, distance_of, goes_on, leaps, steps}
use Rattle.code_points.specs.PointLaws.{StepsGoAlongWays}

-- where an instruction leads from a place: to the next one, or over so many
data Leads (i : Instruction) (p q : ℕ) : Type 0 where
  on : q ≡ suc p → IsTrue (goes_on i) → Leads i p q
  over : (d : ℕ) → distance_of i ≡ Some d → q ≡ suc p + d → Leads i p q

abbrev place_of : Step → ℕ
place_of (Goes s) = s.place
place_of _ = 0

-- ---- what a step goes on with

lost : (t : State) → Lost ≡ Goes t → ⊥
lost t e = cc

trapped : (k : Rattle.run_types.specs.declared.trap.TrapKind.TrapKind) (t : State) → Traps k ≡ Goes t → ⊥
trapped k t e = cc

rested : (t : State) → Rests ≡ Goes t → ⊥
rested t e = cc

of_one : {P : Type 0} (stack : List ℕ) (k : ℕ → List ℕ → Step) (t : State) → ((a : ℕ) (under : List ℕ) → k a under ≡ Goes t → P)
    → one stack k ≡ Goes t → P
of_one [] k t go e = absurd (lost t e)
of_one (a ∷ under) k t go e = go a under e

of_two : {P : Type 0} (stack : List ℕ) (k : ℕ → ℕ → List ℕ → Step) (t : State)
    → ((b a : ℕ) (under : List ℕ) → k b a under ≡ Goes t → P) → two stack k ≡ Goes t → P
of_two [] k t go e = absurd (lost t e)
of_two (b ∷ []) k t go e = absurd (lost t e)
of_two (b ∷ a ∷ under) k t go e = go b a under e

of_outcome : {P : Type 0} (r : Result Int ArithTrap) (k : ℕ → Step) (t : State) → ((w : ℕ) → k w ≡ Goes t → P) → outcome r k ≡ Goes t → P
of_outcome (Ok n) k t go e = go (integer_word (value_of n)) e
of_outcome (Err trap) k t go e = absurd (trapped (trap_of trap) t e)

of_loaded : {P : Type 0} (o : Option ℕ) (k : ℕ → Step) (t : State) → ((w : ℕ) → k w ≡ Goes t → P) → loaded o k ≡ Goes t → P
of_loaded None k t go e = absurd (lost t e)
of_loaded (Some w) k t go e = go w e

of_if : {P : Type 0} (b : Bool) (u : State) (t : State) → (u.place ≡ t.place → P) → (if b then Goes u else Lost) ≡ Goes t → P
of_if true u t go e = go (ap place_of e)
of_if false u t go e = absurd (lost t e)

-- ---- one instruction

next_on : (i : Instruction) (p q : ℕ) → IsTrue (goes_on i) → suc p ≡ q → Leads i p q
next_on i p q goes e = on (sym e) goes

-- a conditional jump
either : (i : Instruction) (p d q : ℕ) (b : Bool) → IsTrue (goes_on i) → distance_of i ≡ Some d → (if b then suc p + d else suc p) ≡ q → Leads i p q
either i p d q true goes far e = over d far (sym e)
either i p d q false goes far e = on (sym e) goes

either_not : (i : Instruction) (p d q : ℕ) (b : Bool) → IsTrue (goes_on i) → distance_of i ≡ Some d → (if b then suc p else suc p + d) ≡ q
    → Leads i p q
either_not i p d q true goes far e = on (sym e) goes
either_not i p d q false goes far e = over d far (sym e)

performed : (i : Instruction) (s t : State) → perform i s ≡ Goes t → Leads i s.place t.place
performed (Constant kind w) s t e = next_on (Constant kind w) s.place t.place refl (ap place_of e)
performed (Load n) s t e =
    of_loaded (slice_get s.locals n) _ t (λ w f. next_on (Load n) s.place t.place refl (ap place_of f)) e
performed (Store n) s t e =
    of_one s.stack _ t (λ w under f. of_if _ _ t (λ g. next_on (Store n) s.place t.place refl g) f) e
performed Copy s t e = of_one s.stack _ t (λ a under f. next_on Copy s.place t.place refl (ap place_of f)) e
performed CopyUnder s t e = of_two s.stack _ t (λ b a under f. next_on CopyUnder s.place t.place refl (ap place_of f)) e
performed Swap s t e = of_two s.stack _ t (λ b a under f. next_on Swap s.place t.place refl (ap place_of f)) e
performed Drop s t e = of_one s.stack _ t (λ a under f. next_on Drop s.place t.place refl (ap place_of f)) e
performed (Convert k) s t e = of_one s.stack _ t (λ a under f. next_on (Convert k) s.place t.place refl (ap place_of f)) e
performed (Unary op k) s t e =
    of_one s.stack _ t (λ a under f. of_outcome (operate_on op k (number_at k a)) _ t
    (λ w g. next_on (Unary op k) s.place t.place refl (ap place_of g)) f) e
performed (Binary op k) s t e =
    of_two s.stack _ t (λ b a under f. of_outcome (operate op k (number_at k a) (right_operand op k b)) _ t
    (λ w g. next_on (Binary op k) s.place t.place refl (ap place_of g)) f) e
performed IsZero s t e = of_one s.stack _ t (λ a under f. next_on IsZero s.place t.place refl (ap place_of f)) e
performed IsNotZero s t e = of_one s.stack _ t (λ a under f. next_on IsNotZero s.place t.place refl (ap place_of f)) e
performed Same s t e = of_two s.stack _ t (λ b a under f. next_on Same s.place t.place refl (ap place_of f)) e
performed Different s t e = of_two s.stack _ t (λ b a under f. next_on Different s.place t.place refl (ap place_of f)) e
performed (Jump d) s t e = over d refl (sym (ap place_of e))
performed (JumpIfZero d) s t e =
    of_one s.stack _ t (λ a under f. either (JumpIfZero d) s.place d t.place (a == 0) refl refl (ap place_of f)) e
performed (JumpUnlessZero d) s t e =
    of_one s.stack _ t (λ a under f. either_not (JumpUnlessZero d) s.place d t.place (a == 0) refl refl (ap place_of f)) e
performed (Halt stop n) s t e = absurd (rested t e)
performed (Back d n v) s t e = absurd (rested t e)
performed (CheckIn kind n) s t e = absurd (rested t e)

-- ---- steps of code

stepped : (code : Code) (s t : State) (n : ℕ) (o : Option Instruction) → slice_get code s.place ≡ o → perform_if o s ≡ Goes t
    → Ways code t.place n → Ways code s.place n
stepped code s t n None there e w = absurd (lost t e)
stepped code s t n (Some i) there e w = by_way (performed i s t e)
  where
    by_way : Leads i s.place t.place → Ways code s.place n
    by_way (on same goes) = steps s.place n i there goes (subst (λ q. Ways code q n) same w)
    by_way (over d far same) = leaps s.place d n i there far (subst (λ q. Ways code q n) same w)

pub steps_go_along_ways : StepsGoAlongWays
steps_go_along_ways code s t n (here u) w = w
steps_go_along_ways code s t n (more u m v e r) w =
    stepped code u m n (slice_get code u.place) refl e (steps_go_along_ways code m v n r w)
