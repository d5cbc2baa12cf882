-- Private control goes forward.
use Rattle.std.proofs.Common.{◌≡◌, ℕ, suc, ◌+◌, ◌<◌, List, [], ◌∷◌, length, refl, subst, sym, ap, ◌∙◌, arith, Option, Some, None, Result, Ok, Err}
use Rattle.std.specs.Prelude.{◌==◌, nat_lt, Bool, true, false, slice_get, slice_set, if◌then◌else◌}
use Rattle.std.proofs.lemmas.Option.{slice_get_within}
use Rattle.c_ints.specs.declared.int.Int.{Int}
use Rattle.c_ints.specs.declared.operator.ArithTrap.{ArithTrap}
use Rattle.bytecode.specs.Instructions.{Instruction, Constant, Load, Store, Copy, CopyUnder, Swap, Drop, Convert, Unary, Binary, IsZero, IsNotZero, Same, Different, Jump, JumpIfZero, JumpUnlessZero, Halt, Back, CheckIn}
use Rattle.c_ints.specs.Number.{value_of}
use Rattle.c_ints.specs.Arithmetic.{operate, operate_on}
use Rattle.bytecode.specs.Words.{integer_word, number_at}
use Rattle.bytecode.specs.Meaning.{State, Step, Goes, Traps, Rests, Lost, loaded, next, outcome, perform, perform_if, right_operand, step}

-- a step comes to a place after this one, if it goes on
abbrev pub IsForward : ℕ → Step → Type 0
IsForward n (Goes t) = n < t.place
IsForward n (Traps kind) = Unit {0}
IsForward n Rests = Unit {0}
IsForward n Lost = Unit {0}

of_outcome : (n : ℕ) (r : Result Int ArithTrap) (k : ℕ → Step) → ((w : ℕ) → IsForward n (k w)) → IsForward n (outcome r k)
of_outcome n (Ok i) k h = h (integer_word (value_of i))
of_outcome n (Err trap) k h = tt

of_loaded : (n : ℕ) (o : Option ℕ) (k : ℕ → Step) → ((w : ℕ) → IsForward n (k w)) → IsForward n (loaded o k)
of_loaded n None k h = tt
of_loaded n (Some w) k h = h w

of_choice : (n : ℕ) (b : Bool) (x y : Step) → IsForward n x → IsForward n y → IsForward n (if b then x else y)
of_choice n true x y h k = h
of_choice n false x y h k = k

after_choice : (n : ℕ) (b : Bool) (x y : ℕ) → n < x → n < y → n < (if b then x else y)
after_choice n true x y h k = h
after_choice n false x y h k = k

-- the frame at a place with a stack and variables
abbrev frame : ℕ → List ℕ → List ℕ → State
frame p st ls = record { place = p; stack = st; locals = ls }

forward : (i : Instruction) (p : ℕ) (st ls : List ℕ) → IsForward p (perform i (frame p st ls))
forward (Constant kind w) p st ls = omega arith
forward (Load n) p st ls = of_loaded p (slice_get ls n) (λ w. next (frame p st ls) (w ∷ st)) (λ w. omega arith)
forward (Store n) p [] ls = tt
forward (Store n) p (w ∷ st) ls =
    of_choice p (nat_lt n (length ls)) (Goes (frame (suc p) st (slice_set ls n w))) Lost (omega arith) tt
forward Copy p [] ls = tt
forward Copy p (a ∷ st) ls = omega arith
forward CopyUnder p [] ls = tt
forward CopyUnder p (b ∷ []) ls = tt
forward CopyUnder p (b ∷ a ∷ st) ls = omega arith
forward Swap p [] ls = tt
forward Swap p (b ∷ []) ls = tt
forward Swap p (b ∷ a ∷ st) ls = omega arith
forward Drop p [] ls = tt
forward Drop p (a ∷ st) ls = omega arith
forward (Convert k) p [] ls = tt
forward (Convert k) p (a ∷ st) ls = omega arith
forward (Unary op k) p [] ls = tt
forward (Unary op k) p (a ∷ st) ls =
    of_outcome p (operate_on op k (number_at k a)) (λ w. next (frame p (a ∷ st) ls) (w ∷ st)) (λ w. omega arith)
forward (Binary op k) p [] ls = tt
forward (Binary op k) p (b ∷ []) ls = tt
forward (Binary op k) p (b ∷ a ∷ st) ls =
    of_outcome p (operate op k (number_at k a) (right_operand op k b)) (λ w. next (frame p (b ∷ a ∷ st) ls) (w ∷ st)) (λ w. omega arith)
forward IsZero p [] ls = tt
forward IsZero p (a ∷ st) ls = omega arith
forward IsNotZero p [] ls = tt
forward IsNotZero p (a ∷ st) ls = omega arith
forward Same p [] ls = tt
forward Same p (b ∷ []) ls = tt
forward Same p (b ∷ a ∷ st) ls = omega arith
forward Different p [] ls = tt
forward Different p (b ∷ []) ls = tt
forward Different p (b ∷ a ∷ st) ls = omega arith
forward (Jump d) p st ls = omega arith
forward (JumpIfZero d) p [] ls = tt
forward (JumpIfZero d) p (a ∷ st) ls = after_choice p (a == 0) (suc p + d) (suc p) (omega arith) (omega arith)
forward (JumpUnlessZero d) p [] ls = tt
forward (JumpUnlessZero d) p (a ∷ st) ls = after_choice p (a == 0) (suc p) (suc p + d) (omega arith) (omega arith)
forward (Halt stop n) p st ls = tt
forward (Back d n v) p st ls = tt
forward (CheckIn kind n) p st ls = tt

pub performs_forward : (i : Instruction) (s : State) → IsForward s.place (perform i s)
performs_forward i s = forward i s.place s.stack s.locals

steps_forward_if : (o : Option Instruction) (s : State) → IsForward s.place (perform_if o s)
steps_forward_if None s = tt
steps_forward_if (Some i) s = performs_forward i s

-- a step that goes on goes forward, from a place of the code
pub goes_forward : (code : List Instruction) (s t : State) → step code s ≡ Goes t → s.place < t.place
goes_forward code s t e = subst (IsForward s.place) e (steps_forward_if (slice_get code s.place) s)

pub goes_within : (code : List Instruction) (s t : State) → step code s ≡ Goes t → s.place < length code
goes_within code s t e = by (slice_get code s.place) refl
  where
    lost : Lost ≡ Goes t → ⊥
    lost h = cc

    by : (o : Option Instruction) → slice_get code s.place ≡ o → s.place < length code
    by None is = absurd (lost (sym (ap (λ (o : Option Instruction). perform_if o s) is) ∙ e))
    by (Some i) is = slice_get_within code s.place i is
