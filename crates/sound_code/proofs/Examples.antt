-- A small body: heights that are right, and heights that aren't.
use Rattle.std.proofs.Common.{◌≡◌, ℕ, zero, suc, ◌<◌, ◌≤◌, List, [], ◌∷◌, length, slice_get, Option, Some, None, refl, sym, ap, ◌∙◌, subst, arith}
use Rattle.run_types.specs.CheckIns as check_in
use Rattle.c_semantics.specs.Stops as stop
use Rattle.bytecode.specs.Instructions.{Instruction, Load, JumpIfZero, Halt, Back, CheckIn}
use Rattle.code_verify.proofs.Below.{none_is_some, some_is}
use Rattle.thread_state.specs.Heights.{HasHeight, IsSoundAt, Sound}
use Rattle.sound_code.specs.StopWords.{height_after_stop, stop_takes}

-- `int f(int a) { while (a); return a; }`; control doesn't come to the last place
abbrev loop : List Instruction
loop = CheckIn check_in.Entry 0 ∷ Load 0 ∷ JumpIfZero 1 ∷ Back 2 1 1 ∷ Load 0 ∷ Halt stop.Return 2 ∷ Halt stop.Return 3 ∷ []

abbrev right : List (Option ℕ)
right = Some 0 ∷ Some 0 ∷ Some 1 ∷ Some 0 ∷ Some 0 ∷ Some 1 ∷ None ∷ []

same_height : {m n : ℕ} → Some (Some m) ≡ Some (Some n) → m ≡ n
same_height e = some_is (some_is e)

low : {m h : ℕ} → m ≤ 66 → Some (Some m) ≡ Some (Some h) → h ≤ 66
low {m} {h} few e = subst (λ n. n ≤ 66) (same_height e) few

is_low : (p h : ℕ) → HasHeight right p h → h ≤ 66
is_low zero h e = low (omega arith) e
is_low (suc zero) h e = low (omega arith) e
is_low (suc (suc zero)) h e = low (omega arith) e
is_low (suc (suc (suc zero))) h e = low (omega arith) e
is_low (suc (suc (suc (suc zero)))) h e = low (omega arith) e
is_low (suc (suc (suc (suc (suc zero))))) h e = low (omega arith) e
is_low (suc (suc (suc (suc (suc (suc zero)))))) h e = absurd (none_is_some (some_is e))
is_low (suc (suc (suc (suc (suc (suc (suc p))))))) h e = absurd (none_is_some e)

here : (heights : List (Option ℕ)) (room p m h : ℕ) (i j : Instruction) → IsSoundAt heights room i p m → Some (Some m) ≡ Some (Some h) → Some i ≡ Some j
    → IsSoundAt heights room j p h
here heights room p m h i j at same is =
    subst (λ (k : Instruction). IsSoundAt heights room k p h) (some_is is) (subst (λ n. IsSoundAt heights room i p n) (same_height same) at)

is_sound : (p h : ℕ) (i : Instruction) → HasHeight right p h → slice_get loop p ≡ Some i → IsSoundAt right 1 i p h
is_sound zero h i has is = here right 1 0 0 h (CheckIn check_in.Entry 0) i record { takes = omega arith; uses = tt; goes = tt } has is
is_sound (suc zero) h i has is = here right 1 1 0 h (Load 0) i record { takes = omega arith; uses = omega arith; goes = (refl, tt) } has is
is_sound (suc (suc zero)) h i has is = here right 1 2 1 h (JumpIfZero 1) i record { takes = omega arith; uses = tt; goes = (refl, (refl, tt)) } has is
is_sound (suc (suc (suc zero))) h i has is = here right 1 3 0 h (Back 2 1 1) i record { takes = omega arith; uses = tt; goes = tt } has is
is_sound (suc (suc (suc (suc zero)))) h i has is = here right 1 4 0 h (Load 0) i record { takes = omega arith; uses = omega arith; goes = (refl, tt) } has is
is_sound (suc (suc (suc (suc (suc zero))))) h i has is = here right 1 5 1 h (Halt stop.Return 2) i record { takes = omega arith; uses = tt; goes = tt } has is
is_sound (suc (suc (suc (suc (suc (suc zero)))))) h i has is = absurd (none_is_some (some_is has))
is_sound (suc (suc (suc (suc (suc (suc (suc p))))))) h i has is = absurd (none_is_some has)

right_heights : Sound loop 1 right
right_heights = record { whole = refl; low = is_low; each = is_sound }

-- without a variable the word that is loaded isn't there
no_room : Sound loop 0 right → ⊥
no_room s = let x = (s.each 1 0 (Load 0) refl refl).uses in omega (arith, x)

-- a word that the test takes is still counted after it
wrong_after_a_test : Sound loop 1 (Some 0 ∷ Some 0 ∷ Some 1 ∷ Some 1 ∷ Some 0 ∷ Some 1 ∷ None ∷ []) → ⊥
wrong_after_a_test s =
    let x : 1 ≡ 0 = same_height (s.each 2 1 (JumpIfZero 1) refl refl).goes.0 in omega (arith, x)

-- a place to which control comes has no height
none_at_the_end : Sound loop 1 (Some 0 ∷ Some 0 ∷ Some 1 ∷ Some 0 ∷ Some 0 ∷ None ∷ None ∷ []) → ⊥
none_at_the_end s = none_is_some (some_is (s.each 4 0 (Load 0) refl refl).goes.0)

-- a call takes its arguments and leaves its value, a return takes the value
after_a_call : height_after_stop (stop.Call (102 ∷ []) 3) 5 ≡ 3
after_a_call = refl

at_a_return : stop_takes stop.Return ≡ 1
at_a_return = refl
