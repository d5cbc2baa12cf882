-- The codes of the tests have right heights.
use Rattle.std.proofs.Common.{◌≡◌, ℕ, zero, suc, ◌≤◌, ◌<◌, List, [], ◌∷◌, Option, Some, None, refl, subst, arith}
use Rattle.std.specs.Prelude.{slice_get}
use Rattle.c_ints.specs.declared.kind.Kind.TheVariants.{I64}
use Rattle.c_ints.specs.declared.operator.BinOp.TheVariants.{Add, Mul, Sub}
use Rattle.resolved_tree.specs.Nodes.{Table}
use Rattle.local_evaluation.specs.declared.piece.Stop.TheVariants as stop
use Rattle.skeletons.specs.declared.point.CheckInKind.TheVariants.{Entry}
use Rattle.bytecode.specs.Instructions.{Instruction}
use Rattle.bytecode.specs.Seen.{code_of, instruction_of}
use Rattle.bytecode.specs.declared.instr.Instr.{Instr}
use Rattle.bytecode.specs.declared.instr.Instr.TheVariants as instr
use Rattle.bytecode.specs.declared.kind.ValueKind.TheVariants.{Number}
use Rattle.code_kinds.specs.WellFormed.{most_variables}
use Rattle.thread_state.specs.Frames.{most_words}
use Rattle.thread_state.specs.Heights.{HasHeight, IsSoundAt, Sound}

low_height : (n height : ℕ) → n ≤ 3 → ◌≡◌ {A = Option (Option ℕ)} (Some (Some n)) (Some (Some height)) → height ≤ 3
low_height n height low e = let same : n ≡ height = cc in omega arith

under_most : (height : ℕ) → height ≤ 3 → height ≤ most_words
under_most height low = omega (arith, low)

sound_at : (heights : List (Option ℕ)) (place n : ℕ) (j : Instruction) → IsSoundAt heights most_variables j place n → (height : ℕ) (i : Instruction)
    → ◌≡◌ {A = Option (Option ℕ)} (Some (Some n)) (Some (Some height)) → ◌≡◌ {A = Option Instruction} (Some j) (Some i) → IsSoundAt heights most_variables i place height
sound_at heights place n j at height i e g =
    let same : n ≡ height = cc in
    let one : j ≡ i = cc in
    subst (λ (x : Instruction). IsSoundAt heights most_variables x place height) one (subst (λ (m : ℕ). IsSoundAt heights most_variables j place m) same at)

abbrev ask_code : List Instr
ask_code = instr.CheckIn Entry 0 ∷ instr.Constant (Number I64) 7 ∷ instr.Constant (Number I64) 5 ∷ instr.Constant (Number I64) 3 ∷ instr.Halt (stop.Call (record { 0 = 1 }) 3) 1 ∷ instr.Halt stop.Return 2 ∷ []

abbrev ask_heights : List (Option ℕ)
ask_heights = Some 0 ∷ Some 0 ∷ Some 1 ∷ Some 2 ∷ Some 3 ∷ Some 1 ∷ []

pub ask_low : (place height : ℕ) → HasHeight ask_heights place height → height ≤ 3
ask_low zero height e = low_height 0 height (omega arith) e
ask_low (suc zero) height e = low_height 0 height (omega arith) e
ask_low (suc (suc zero)) height e = low_height 1 height (omega arith) e
ask_low (suc (suc (suc zero))) height e = low_height 2 height (omega arith) e
ask_low (suc (suc (suc (suc zero)))) height e = low_height 3 height (omega arith) e
ask_low (suc (suc (suc (suc (suc zero))))) height e = low_height 1 height (omega arith) e
ask_low (suc (suc (suc (suc (suc (suc place)))))) height e = absurd (cc)

ask_each : (t : Table) (place height : ℕ) (i : Instruction) → HasHeight ask_heights place height → slice_get (code_of t ask_code) place ≡ Some i → IsSoundAt ask_heights most_variables i place height
ask_each t zero height i e g = sound_at ask_heights 0 0 (instruction_of t (instr.CheckIn Entry 0)) record { takes = omega arith; uses = tt; goes = tt } height i e g
ask_each t (suc zero) height i e g = sound_at ask_heights 1 0 (instruction_of t (instr.Constant (Number I64) 7)) record { takes = omega arith; uses = tt; goes = (refl, tt) } height i e g
ask_each t (suc (suc zero)) height i e g = sound_at ask_heights 2 1 (instruction_of t (instr.Constant (Number I64) 5)) record { takes = omega arith; uses = tt; goes = (refl, tt) } height i e g
ask_each t (suc (suc (suc zero))) height i e g = sound_at ask_heights 3 2 (instruction_of t (instr.Constant (Number I64) 3)) record { takes = omega arith; uses = tt; goes = (refl, tt) } height i e g
ask_each t (suc (suc (suc (suc zero)))) height i e g = sound_at ask_heights 4 3 (instruction_of t (instr.Halt (stop.Call (record { 0 = 1 }) 3) 1)) record { takes = omega arith; uses = tt; goes = tt } height i e g
ask_each t (suc (suc (suc (suc (suc zero))))) height i e g = sound_at ask_heights 5 1 (instruction_of t (instr.Halt stop.Return 2)) record { takes = omega arith; uses = tt; goes = tt } height i e g
ask_each t (suc (suc (suc (suc (suc (suc place)))))) height i e g = absurd (cc)

pub ask_sound : (t : Table) → Sound (code_of t ask_code) most_variables ask_heights
ask_sound t = record { whole = refl; low = λ place height there. under_most height (ask_low place height there); each = ask_each t }

abbrev digits_code : List Instr
digits_code = instr.CheckIn Entry 0 ∷ instr.Load 2 ∷ instr.Constant (Number I64) 10 ∷ instr.Binary Mul I64 ∷ instr.Load 1 ∷ instr.Binary Add I64 ∷ instr.Constant (Number I64) 10 ∷ instr.Binary Mul I64 ∷ instr.Load 0 ∷ instr.Binary Add I64 ∷ instr.Halt stop.Return 1 ∷ []

abbrev digits_heights : List (Option ℕ)
digits_heights = Some 0 ∷ Some 0 ∷ Some 1 ∷ Some 2 ∷ Some 1 ∷ Some 2 ∷ Some 1 ∷ Some 2 ∷ Some 1 ∷ Some 2 ∷ Some 1 ∷ []

pub digits_low : (place height : ℕ) → HasHeight digits_heights place height → height ≤ 3
digits_low zero height e = low_height 0 height (omega arith) e
digits_low (suc zero) height e = low_height 0 height (omega arith) e
digits_low (suc (suc zero)) height e = low_height 1 height (omega arith) e
digits_low (suc (suc (suc zero))) height e = low_height 2 height (omega arith) e
digits_low (suc (suc (suc (suc zero)))) height e = low_height 1 height (omega arith) e
digits_low (suc (suc (suc (suc (suc zero))))) height e = low_height 2 height (omega arith) e
digits_low (suc (suc (suc (suc (suc (suc zero)))))) height e = low_height 1 height (omega arith) e
digits_low (suc (suc (suc (suc (suc (suc (suc zero))))))) height e = low_height 2 height (omega arith) e
digits_low (suc (suc (suc (suc (suc (suc (suc (suc zero)))))))) height e = low_height 1 height (omega arith) e
digits_low (suc (suc (suc (suc (suc (suc (suc (suc (suc zero))))))))) height e = low_height 2 height (omega arith) e
digits_low (suc (suc (suc (suc (suc (suc (suc (suc (suc (suc zero)))))))))) height e = low_height 1 height (omega arith) e
digits_low (suc (suc (suc (suc (suc (suc (suc (suc (suc (suc (suc place))))))))))) height e = absurd (cc)

digits_each : (t : Table) (place height : ℕ) (i : Instruction) → HasHeight digits_heights place height → slice_get (code_of t digits_code) place ≡ Some i → IsSoundAt digits_heights most_variables i place height
digits_each t zero height i e g = sound_at digits_heights 0 0 (instruction_of t (instr.CheckIn Entry 0)) record { takes = omega arith; uses = tt; goes = tt } height i e g
digits_each t (suc zero) height i e g = sound_at digits_heights 1 0 (instruction_of t (instr.Load 2)) record { takes = omega arith; uses = omega arith; goes = (refl, tt) } height i e g
digits_each t (suc (suc zero)) height i e g = sound_at digits_heights 2 1 (instruction_of t (instr.Constant (Number I64) 10)) record { takes = omega arith; uses = tt; goes = (refl, tt) } height i e g
digits_each t (suc (suc (suc zero))) height i e g = sound_at digits_heights 3 2 (instruction_of t (instr.Binary Mul I64)) record { takes = omega arith; uses = tt; goes = (refl, tt) } height i e g
digits_each t (suc (suc (suc (suc zero)))) height i e g = sound_at digits_heights 4 1 (instruction_of t (instr.Load 1)) record { takes = omega arith; uses = omega arith; goes = (refl, tt) } height i e g
digits_each t (suc (suc (suc (suc (suc zero))))) height i e g = sound_at digits_heights 5 2 (instruction_of t (instr.Binary Add I64)) record { takes = omega arith; uses = tt; goes = (refl, tt) } height i e g
digits_each t (suc (suc (suc (suc (suc (suc zero)))))) height i e g = sound_at digits_heights 6 1 (instruction_of t (instr.Constant (Number I64) 10)) record { takes = omega arith; uses = tt; goes = (refl, tt) } height i e g
digits_each t (suc (suc (suc (suc (suc (suc (suc zero))))))) height i e g = sound_at digits_heights 7 2 (instruction_of t (instr.Binary Mul I64)) record { takes = omega arith; uses = tt; goes = (refl, tt) } height i e g
digits_each t (suc (suc (suc (suc (suc (suc (suc (suc zero)))))))) height i e g = sound_at digits_heights 8 1 (instruction_of t (instr.Load 0)) record { takes = omega arith; uses = omega arith; goes = (refl, tt) } height i e g
digits_each t (suc (suc (suc (suc (suc (suc (suc (suc (suc zero))))))))) height i e g = sound_at digits_heights 9 2 (instruction_of t (instr.Binary Add I64)) record { takes = omega arith; uses = tt; goes = (refl, tt) } height i e g
digits_each t (suc (suc (suc (suc (suc (suc (suc (suc (suc (suc zero)))))))))) height i e g = sound_at digits_heights 10 1 (instruction_of t (instr.Halt stop.Return 1)) record { takes = omega arith; uses = tt; goes = tt } height i e g
digits_each t (suc (suc (suc (suc (suc (suc (suc (suc (suc (suc (suc place))))))))))) height i e g = absurd (cc)

pub digits_sound : (t : Table) → Sound (code_of t digits_code) most_variables digits_heights
digits_sound t = record { whole = refl; low = λ place height there. under_most height (digits_low place height there); each = digits_each t }

abbrev sum_code : List Instr
sum_code = instr.CheckIn Entry 0 ∷ instr.Load 0 ∷ instr.JumpUnlessZero 2 ∷ instr.Constant (Number I64) 0 ∷ instr.Halt stop.Return 1 ∷ instr.Load 0 ∷ instr.Load 0 ∷ instr.Constant (Number I64) 1 ∷ instr.Binary Sub I64 ∷ instr.Halt (stop.Call (record { 0 = 2 }) 1) 2 ∷ instr.Binary Add I64 ∷ instr.Halt stop.Return 3 ∷ []

abbrev sum_heights : List (Option ℕ)
sum_heights = Some 0 ∷ Some 0 ∷ Some 1 ∷ Some 0 ∷ Some 1 ∷ Some 0 ∷ Some 1 ∷ Some 2 ∷ Some 3 ∷ Some 2 ∷ Some 2 ∷ Some 1 ∷ []

pub sum_low : (place height : ℕ) → HasHeight sum_heights place height → height ≤ 3
sum_low zero height e = low_height 0 height (omega arith) e
sum_low (suc zero) height e = low_height 0 height (omega arith) e
sum_low (suc (suc zero)) height e = low_height 1 height (omega arith) e
sum_low (suc (suc (suc zero))) height e = low_height 0 height (omega arith) e
sum_low (suc (suc (suc (suc zero)))) height e = low_height 1 height (omega arith) e
sum_low (suc (suc (suc (suc (suc zero))))) height e = low_height 0 height (omega arith) e
sum_low (suc (suc (suc (suc (suc (suc zero)))))) height e = low_height 1 height (omega arith) e
sum_low (suc (suc (suc (suc (suc (suc (suc zero))))))) height e = low_height 2 height (omega arith) e
sum_low (suc (suc (suc (suc (suc (suc (suc (suc zero)))))))) height e = low_height 3 height (omega arith) e
sum_low (suc (suc (suc (suc (suc (suc (suc (suc (suc zero))))))))) height e = low_height 2 height (omega arith) e
sum_low (suc (suc (suc (suc (suc (suc (suc (suc (suc (suc zero)))))))))) height e = low_height 2 height (omega arith) e
sum_low (suc (suc (suc (suc (suc (suc (suc (suc (suc (suc (suc zero))))))))))) height e = low_height 1 height (omega arith) e
sum_low (suc (suc (suc (suc (suc (suc (suc (suc (suc (suc (suc (suc place)))))))))))) height e = absurd (cc)

sum_each : (t : Table) (place height : ℕ) (i : Instruction) → HasHeight sum_heights place height → slice_get (code_of t sum_code) place ≡ Some i → IsSoundAt sum_heights most_variables i place height
sum_each t zero height i e g = sound_at sum_heights 0 0 (instruction_of t (instr.CheckIn Entry 0)) record { takes = omega arith; uses = tt; goes = tt } height i e g
sum_each t (suc zero) height i e g = sound_at sum_heights 1 0 (instruction_of t (instr.Load 0)) record { takes = omega arith; uses = omega arith; goes = (refl, tt) } height i e g
sum_each t (suc (suc zero)) height i e g = sound_at sum_heights 2 1 (instruction_of t (instr.JumpUnlessZero 2)) record { takes = omega arith; uses = tt; goes = (refl, (refl, tt)) } height i e g
sum_each t (suc (suc (suc zero))) height i e g = sound_at sum_heights 3 0 (instruction_of t (instr.Constant (Number I64) 0)) record { takes = omega arith; uses = tt; goes = (refl, tt) } height i e g
sum_each t (suc (suc (suc (suc zero)))) height i e g = sound_at sum_heights 4 1 (instruction_of t (instr.Halt stop.Return 1)) record { takes = omega arith; uses = tt; goes = tt } height i e g
sum_each t (suc (suc (suc (suc (suc zero))))) height i e g = sound_at sum_heights 5 0 (instruction_of t (instr.Load 0)) record { takes = omega arith; uses = omega arith; goes = (refl, tt) } height i e g
sum_each t (suc (suc (suc (suc (suc (suc zero)))))) height i e g = sound_at sum_heights 6 1 (instruction_of t (instr.Load 0)) record { takes = omega arith; uses = omega arith; goes = (refl, tt) } height i e g
sum_each t (suc (suc (suc (suc (suc (suc (suc zero))))))) height i e g = sound_at sum_heights 7 2 (instruction_of t (instr.Constant (Number I64) 1)) record { takes = omega arith; uses = tt; goes = (refl, tt) } height i e g
sum_each t (suc (suc (suc (suc (suc (suc (suc (suc zero)))))))) height i e g = sound_at sum_heights 8 3 (instruction_of t (instr.Binary Sub I64)) record { takes = omega arith; uses = tt; goes = (refl, tt) } height i e g
sum_each t (suc (suc (suc (suc (suc (suc (suc (suc (suc zero))))))))) height i e g = sound_at sum_heights 9 2 (instruction_of t (instr.Halt (stop.Call (record { 0 = 2 }) 1) 2)) record { takes = omega arith; uses = tt; goes = tt } height i e g
sum_each t (suc (suc (suc (suc (suc (suc (suc (suc (suc (suc zero)))))))))) height i e g = sound_at sum_heights 10 2 (instruction_of t (instr.Binary Add I64)) record { takes = omega arith; uses = tt; goes = (refl, tt) } height i e g
sum_each t (suc (suc (suc (suc (suc (suc (suc (suc (suc (suc (suc zero))))))))))) height i e g = sound_at sum_heights 11 1 (instruction_of t (instr.Halt stop.Return 3)) record { takes = omega arith; uses = tt; goes = tt } height i e g
sum_each t (suc (suc (suc (suc (suc (suc (suc (suc (suc (suc (suc (suc place)))))))))))) height i e g = absurd (cc)

pub sum_sound : (t : Table) → Sound (code_of t sum_code) most_variables sum_heights
sum_sound t = record { whole = refl; low = λ place height there. under_most height (sum_low place height there); each = sum_each t }
