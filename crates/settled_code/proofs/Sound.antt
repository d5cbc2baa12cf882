-- In code whose heights are right each instruction finds what it takes, and the heights are right where it goes on.
use Rattle.std.proofs.Common.{◌≡◌, ℕ, zero, suc, ◌+◌, ◌-◌, ◌<◌, List, [], ◌∷◌, length, refl, subst, ◌∙◌, arith, Option, Some, None, Result, Ok, Err}
use Rattle.std.specs.Prelude.{◌==◌, nat_lt, Bool, true, false, slice_get, slice_set, if◌then◌else◌}
use Rattle.std.proofs.lemmas.List.{length-set}
use Rattle.std.proofs.lemmas.Option.{slice_get_within}
use Rattle.std.proofs.lemmas.Bool.Decides.{nat_tests}
use Rattle.c_ints.specs.declared.int.Int.{Int}
use Rattle.c_ints.specs.declared.operator.ArithTrap.{ArithTrap}
use Rattle.bytecode.specs.Instructions.{Instruction, Constant, Load, Store, Copy, CopyUnder, Swap, Drop, Convert, Unary, Binary, IsZero, IsNotZero, Same, Different, Jump, JumpIfZero, JumpUnlessZero, Halt, Back, CheckIn}
use Rattle.c_ints.specs.Number.{value_of}
use Rattle.c_ints.specs.Arithmetic.{operate, operate_on}
use Rattle.bytecode.specs.Words.{integer_word, number_at}
use Rattle.bytecode.specs.Meaning.{State, Step, Goes, Traps, Rests, Lost, loaded, next, outcome, perform, perform_if, right_operand, step}
use Rattle.thread_state.specs.Heights.{HasHeight, IsSoundAt}
use Rattle.settled_code.specs.Laws.{IsAt}

-- where a step goes on, the stack has the height of its place; it isn't lost
abbrev pub IsFine : List (Option ℕ) → ℕ → Step → Type 0
IsFine heights room (Goes t) = HasHeight heights t.place (length t.stack) × (length t.locals ≡ room)
IsFine heights room (Traps kind) = Unit {0}
IsFine heights room Rests = Unit {0}
IsFine heights room Lost = ⊥

module _ (heights : List (Option ℕ)) (room : ℕ) where
  of_outcome : (r : Result Int ArithTrap) (k : ℕ → Step) → ((w : ℕ) → IsFine heights room (k w)) → IsFine heights room (outcome r k)
  of_outcome (Ok i) k h = h (integer_word (value_of i))
  of_outcome (Err trap) k h = tt

  of_loaded : (ls : List ℕ) (n : ℕ) (k : ℕ → Step) → n < length ls → ((w : ℕ) → IsFine heights room (k w))
      → IsFine heights room (loaded (slice_get ls n) k)
  of_loaded [] n k inside h = absurd (omega arith)
  of_loaded (w ∷ ws) zero k inside h = h w
  of_loaded (w ∷ ws) (suc n) k inside h = of_loaded ws n k (omega arith) h

  of_store : (b : Bool) (x : Step) → b ≡ true → IsFine heights room x → IsFine heights room (if b then x else Lost)
  of_store true x e h = h
  of_store false x e h = absurd (cc)

  at_choice : (b : Bool) (x y height : ℕ) → HasHeight heights x height → HasHeight heights y height → HasHeight heights (if b then x else y) height
  at_choice true x y height h k = h
  at_choice false x y height h k = k

  high : (place m n : ℕ) → HasHeight heights place m → m ≡ n → HasHeight heights place n
  high place m n h e = subst (HasHeight heights place) e h

  inside : (n m : ℕ) → n < m → nat_lt n m ≡ true
  inside n m h = grind (arith, nat_tests)

  -- the frame at a place with a stack and variables
  abbrev frame : ℕ → List ℕ → List ℕ → State
  frame p st ls = record { place = p; stack = st; locals = ls }

  abbrev IsSound : Instruction → ℕ → List ℕ → Type 0
  IsSound i p st = IsSoundAt heights room i p (length st)

  fine : (i : Instruction) (p : ℕ) (st ls : List ℕ) → length ls ≡ room → IsSound i p st → IsFine heights room (perform i (frame p st ls))
  fine (Constant kind w) p st ls e at = (high (suc p) (length st - 0 + 1) (suc (length st)) at.goes.0 (omega arith), e)
  fine (Load n) p st ls e at =
      of_loaded ls n (λ w. next (frame p st ls) (w ∷ st)) (omega (arith, e, at.uses))
      (λ w. (high (suc p) (length st - 0 + 1) (suc (length st)) at.goes.0 (omega arith), e))
  fine (Store n) p [] ls e at = absurd (omega (arith, at.takes))
  fine (Store n) p (w ∷ st) ls e at =
      of_store (nat_lt n (length ls)) (Goes (frame (suc p) st (slice_set ls n w))) (inside n (length ls) (omega (arith, e, at.uses)))
      (high (suc p) (suc (length st) - 1 + 0) (length st) at.goes.0 (omega arith), length-set ls n w ∙ e)
  fine Copy p [] ls e at = absurd (omega (arith, at.takes))
  fine Copy p (a ∷ st) ls e at = (high (suc p) (suc (length st) - 1 + 2) (suc (suc (length st))) at.goes.0 (omega arith), e)
  fine CopyUnder p [] ls e at = absurd (omega (arith, at.takes))
  fine CopyUnder p (b ∷ []) ls e at = absurd (omega (arith, at.takes))
  fine CopyUnder p (b ∷ a ∷ st) ls e at =
      (high (suc p) (suc (suc (length st)) - 2 + 3) (suc (suc (suc (length st)))) at.goes.0 (omega arith), e)
  fine Swap p [] ls e at = absurd (omega (arith, at.takes))
  fine Swap p (b ∷ []) ls e at = absurd (omega (arith, at.takes))
  fine Swap p (b ∷ a ∷ st) ls e at = (high (suc p) (suc (suc (length st)) - 2 + 2) (suc (suc (length st))) at.goes.0 (omega arith), e)
  fine Drop p [] ls e at = absurd (omega (arith, at.takes))
  fine Drop p (a ∷ st) ls e at = (high (suc p) (suc (length st) - 1 + 0) (length st) at.goes.0 (omega arith), e)
  fine (Convert k) p [] ls e at = absurd (omega (arith, at.takes))
  fine (Convert k) p (a ∷ st) ls e at = (high (suc p) (suc (length st) - 1 + 1) (suc (length st)) at.goes.0 (omega arith), e)
  fine (Unary op k) p [] ls e at = absurd (omega (arith, at.takes))
  fine (Unary op k) p (a ∷ st) ls e at =
      of_outcome (operate_on op k (number_at k a)) (λ w. next (frame p (a ∷ st) ls) (w ∷ st))
      (λ w. (high (suc p) (suc (length st) - 1 + 1) (suc (length st)) at.goes.0 (omega arith), e))
  fine (Binary op k) p [] ls e at = absurd (omega (arith, at.takes))
  fine (Binary op k) p (b ∷ []) ls e at = absurd (omega (arith, at.takes))
  fine (Binary op k) p (b ∷ a ∷ st) ls e at =
      of_outcome (operate op k (number_at k a) (right_operand op k b)) (λ w. next (frame p (b ∷ a ∷ st) ls) (w ∷ st))
      (λ w. (high (suc p) (suc (suc (length st)) - 2 + 1) (suc (length st)) at.goes.0 (omega arith), e))
  fine IsZero p [] ls e at = absurd (omega (arith, at.takes))
  fine IsZero p (a ∷ st) ls e at = (high (suc p) (suc (length st) - 1 + 1) (suc (length st)) at.goes.0 (omega arith), e)
  fine IsNotZero p [] ls e at = absurd (omega (arith, at.takes))
  fine IsNotZero p (a ∷ st) ls e at = (high (suc p) (suc (length st) - 1 + 1) (suc (length st)) at.goes.0 (omega arith), e)
  fine Same p [] ls e at = absurd (omega (arith, at.takes))
  fine Same p (b ∷ []) ls e at = absurd (omega (arith, at.takes))
  fine Same p (b ∷ a ∷ st) ls e at = (high (suc p) (suc (suc (length st)) - 2 + 1) (suc (length st)) at.goes.0 (omega arith), e)
  fine Different p [] ls e at = absurd (omega (arith, at.takes))
  fine Different p (b ∷ []) ls e at = absurd (omega (arith, at.takes))
  fine Different p (b ∷ a ∷ st) ls e at = (high (suc p) (suc (suc (length st)) - 2 + 1) (suc (length st)) at.goes.0 (omega arith), e)
  fine (Jump d) p st ls e at = (high (suc p + d) (length st - 0 + 0) (length st) at.goes.0 (omega arith), e)
  fine (JumpIfZero d) p [] ls e at = absurd (omega (arith, at.takes))
  fine (JumpIfZero d) p (a ∷ st) ls e at = (
    at_choice (a == 0) (suc p + d) (suc p) (length st) (high (suc p + d) (suc (length st) - 1 + 0) (length st) at.goes.1.0 (omega arith))
        (high (suc p) (suc (length st) - 1 + 0) (length st) at.goes.0 (omega arith)),
    e,
  )
  fine (JumpUnlessZero d) p [] ls e at = absurd (omega (arith, at.takes))
  fine (JumpUnlessZero d) p (a ∷ st) ls e at = (
    at_choice (a == 0) (suc p) (suc p + d) (length st) (high (suc p) (suc (length st) - 1 + 0) (length st) at.goes.0 (omega arith))
        (high (suc p + d) (suc (length st) - 1 + 0) (length st) at.goes.1.0 (omega arith)),
    e,
  )
  fine (Halt stop n) p st ls e at = tt
  fine (Back d n v) p st ls e at = tt
  fine (CheckIn kind n) p st ls e at = tt

  pub performs_fine : (s : State) → length s.locals ≡ room → (i : Instruction) → IsSoundAt heights room i s.place (length s.stack)
      → IsFine heights room (perform i s)
  performs_fine s e i at = fine i s.place s.stack s.locals e at

-- a place with a height is a place of the code
pub within : (code : List Instruction) (room : ℕ) (heights : List (Option ℕ)) (s : State) → IsAt code room heights s → s.place < length code
within code room heights s at =
    let h : s.place < length heights = slice_get_within heights s.place (Some (length s.stack)) at.height in omega (arith, at.sound.whole)

pub steps_fine : (code : List Instruction) (room : ℕ) (heights : List (Option ℕ)) (s : State) → IsAt code room heights s
    → IsFine heights room (step code s)
steps_fine code room heights s at = by (slice_get code s.place) refl
  where
    none : (xs : List Instruction) (n : ℕ) → n < length xs → slice_get xs n ≡ None → ⊥
    none [] n h e = omega arith
    none (x ∷ xs) zero h e = cc
    none (x ∷ xs) (suc n) h e = none xs n (omega arith) e

    by : (o : Option Instruction) → slice_get code s.place ≡ o → IsFine heights room (perform_if o s)
    by None is = absurd (none code s.place (within code room heights s at) is)
    by (Some i) is = performs_fine heights room s at.locals i (at.sound.each s.place (length s.stack) i at.height is)
