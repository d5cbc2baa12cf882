-- The codes of the tests have right heights.
use Rattle.std.proofs.Common.{◌≡◌, ℕ, zero, suc, ◌≤◌, ◌<◌, List, [], ◌∷◌, Option, Some, None, refl, subst, arith}
use Rattle.std.specs.Prelude.{slice_get}
use Rattle.c_ints.specs.declared.kind.Kind.{Kind}
use Rattle.c_ints.specs.declared.kind.Kind.TheVariants.{U8, I32, I64}
use Rattle.c_ints.specs.declared.operator.BinOp.{BinOp}
use Rattle.c_ints.specs.declared.operator.BinOp.TheVariants.{Add, Sub}
use Rattle.c_ints.specs.declared.operator.UnOp.TheVariants.{Negate}
use Rattle.resolved_tree.specs.Nodes.{Table}
use Rattle.bytecode.specs.Instructions.{Instruction}
use Rattle.bytecode.specs.Instructions as instruction
use Rattle.bytecode.specs.Seen.{code_of}
use Rattle.bytecode.specs.declared.instr.Instr.{Instr}
use Rattle.bytecode.specs.declared.instr.Instr.TheVariants as instr
use Rattle.bytecode.specs.declared.kind.ValueKind.TheVariants.{Number}
use Rattle.thread_state.specs.Frames.{most_words}
use Rattle.thread_state.specs.Heights.{HasHeight, IsSoundAt, Sound}

low_height : (n height : ℕ) → n ≤ most_words → ◌≡◌ {A = Option (Option ℕ)} (Some (Some n)) (Some (Some height)) → height ≤ most_words
low_height n height low e = let same : n ≡ height = cc in omega arith

sound_at : (heights : List (Option ℕ)) (room place n : ℕ) (j : Instruction) → IsSoundAt heights room j place n → (height : ℕ) (i : Instruction)
    → ◌≡◌ {A = Option (Option ℕ)} (Some (Some n)) (Some (Some height)) → ◌≡◌ {A = Option Instruction} (Some j) (Some i) → IsSoundAt heights room i place height
sound_at heights room place n j at height i e g =
    let same : n ≡ height = cc in
    let one : j ≡ i = cc in
    subst (λ (x : Instruction). IsSoundAt heights room x place height) one (subst (λ (m : ℕ). IsSoundAt heights room j place m) same at)

-- the loop
abbrev loop_code : List Instr
loop_code = instr.Load 0 ∷ instr.Load 1 ∷ instr.Binary Add I64 ∷ instr.Store 0 ∷ instr.Load 1 ∷ instr.Constant (Number I64) 1 ∷ instr.Binary Sub I64 ∷ instr.Store 1 ∷ instr.Load 1 ∷ instr.JumpIfZero 1 ∷ instr.Back 11 0 2 ∷ instr.Back 0 1 2 ∷ []

abbrev loop_heights : List (Option ℕ)
loop_heights = Some 0 ∷ Some 1 ∷ Some 2 ∷ Some 1 ∷ Some 0 ∷ Some 1 ∷ Some 2 ∷ Some 1 ∷ Some 0 ∷ Some 1 ∷ Some 0 ∷ Some 0 ∷ []

loop_sound_low : (place height : ℕ) → HasHeight loop_heights place height → height ≤ most_words
loop_sound_low zero height e = low_height 0 height (omega arith) e
loop_sound_low (suc zero) height e = low_height 1 height (omega arith) e
loop_sound_low (suc (suc zero)) height e = low_height 2 height (omega arith) e
loop_sound_low (suc (suc (suc zero))) height e = low_height 1 height (omega arith) e
loop_sound_low (suc (suc (suc (suc zero)))) height e = low_height 0 height (omega arith) e
loop_sound_low (suc (suc (suc (suc (suc zero))))) height e = low_height 1 height (omega arith) e
loop_sound_low (suc (suc (suc (suc (suc (suc zero)))))) height e = low_height 2 height (omega arith) e
loop_sound_low (suc (suc (suc (suc (suc (suc (suc zero))))))) height e = low_height 1 height (omega arith) e
loop_sound_low (suc (suc (suc (suc (suc (suc (suc (suc zero)))))))) height e = low_height 0 height (omega arith) e
loop_sound_low (suc (suc (suc (suc (suc (suc (suc (suc (suc zero))))))))) height e = low_height 1 height (omega arith) e
loop_sound_low (suc (suc (suc (suc (suc (suc (suc (suc (suc (suc zero)))))))))) height e = low_height 0 height (omega arith) e
loop_sound_low (suc (suc (suc (suc (suc (suc (suc (suc (suc (suc (suc zero))))))))))) height e = low_height 0 height (omega arith) e
loop_sound_low (suc (suc (suc (suc (suc (suc (suc (suc (suc (suc (suc (suc place)))))))))))) height e = absurd (cc)

loop_sound_each : (t : Table) (place height : ℕ) (i : Instruction) → HasHeight loop_heights place height → slice_get (code_of t loop_code) place ≡ Some i → IsSoundAt loop_heights 2 i place height
loop_sound_each t zero height i e g = sound_at loop_heights 2 0 0 (instruction.Load 0) record { takes = omega arith; uses = omega arith; goes = (refl, tt) } height i e g
loop_sound_each t (suc zero) height i e g = sound_at loop_heights 2 1 1 (instruction.Load 1) record { takes = omega arith; uses = omega arith; goes = (refl, tt) } height i e g
loop_sound_each t (suc (suc zero)) height i e g = sound_at loop_heights 2 2 2 (instruction.Binary Add I64) record { takes = omega arith; uses = tt; goes = (refl, tt) } height i e g
loop_sound_each t (suc (suc (suc zero))) height i e g = sound_at loop_heights 2 3 1 (instruction.Store 0) record { takes = omega arith; uses = omega arith; goes = (refl, tt) } height i e g
loop_sound_each t (suc (suc (suc (suc zero)))) height i e g = sound_at loop_heights 2 4 0 (instruction.Load 1) record { takes = omega arith; uses = omega arith; goes = (refl, tt) } height i e g
loop_sound_each t (suc (suc (suc (suc (suc zero))))) height i e g = sound_at loop_heights 2 5 1 (instruction.Constant (Number I64) 1) record { takes = omega arith; uses = tt; goes = (refl, tt) } height i e g
loop_sound_each t (suc (suc (suc (suc (suc (suc zero)))))) height i e g = sound_at loop_heights 2 6 2 (instruction.Binary Sub I64) record { takes = omega arith; uses = tt; goes = (refl, tt) } height i e g
loop_sound_each t (suc (suc (suc (suc (suc (suc (suc zero))))))) height i e g = sound_at loop_heights 2 7 1 (instruction.Store 1) record { takes = omega arith; uses = omega arith; goes = (refl, tt) } height i e g
loop_sound_each t (suc (suc (suc (suc (suc (suc (suc (suc zero)))))))) height i e g = sound_at loop_heights 2 8 0 (instruction.Load 1) record { takes = omega arith; uses = omega arith; goes = (refl, tt) } height i e g
loop_sound_each t (suc (suc (suc (suc (suc (suc (suc (suc (suc zero))))))))) height i e g = sound_at loop_heights 2 9 1 (instruction.JumpIfZero 1) record { takes = omega arith; uses = tt; goes = (refl, (refl, tt)) } height i e g
loop_sound_each t (suc (suc (suc (suc (suc (suc (suc (suc (suc (suc zero)))))))))) height i e g = sound_at loop_heights 2 10 0 (instruction.Back 11 0 2) record { takes = omega arith; uses = tt; goes = tt } height i e g
loop_sound_each t (suc (suc (suc (suc (suc (suc (suc (suc (suc (suc (suc zero))))))))))) height i e g = sound_at loop_heights 2 11 0 (instruction.Back 0 1 2) record { takes = omega arith; uses = tt; goes = tt } height i e g
loop_sound_each t (suc (suc (suc (suc (suc (suc (suc (suc (suc (suc (suc (suc place)))))))))))) height i e g = absurd (cc)

pub loop_sound : (t : Table) → Sound (code_of t loop_code) 2 loop_heights
loop_sound t = record { whole = refl; low = loop_sound_low; each = loop_sound_each t }

-- one operator
abbrev operation_code : BinOp → Kind → List Instr
operation_code op kind = instr.Load 0 ∷ instr.Load 1 ∷ instr.Binary op kind ∷ instr.Store 0 ∷ instr.Back 0 0 2 ∷ []

abbrev operation_heights : List (Option ℕ)
operation_heights = Some 0 ∷ Some 1 ∷ Some 2 ∷ Some 1 ∷ Some 0 ∷ []

operation_sound_low : (place height : ℕ) → HasHeight operation_heights place height → height ≤ most_words
operation_sound_low zero height e = low_height 0 height (omega arith) e
operation_sound_low (suc zero) height e = low_height 1 height (omega arith) e
operation_sound_low (suc (suc zero)) height e = low_height 2 height (omega arith) e
operation_sound_low (suc (suc (suc zero))) height e = low_height 1 height (omega arith) e
operation_sound_low (suc (suc (suc (suc zero)))) height e = low_height 0 height (omega arith) e
operation_sound_low (suc (suc (suc (suc (suc place))))) height e = absurd (cc)

operation_sound_each : (op : BinOp) (kind : Kind) (t : Table) (place height : ℕ) (i : Instruction) → HasHeight operation_heights place height → slice_get (code_of t (operation_code op kind)) place ≡ Some i → IsSoundAt operation_heights 2 i place height
operation_sound_each op kind t zero height i e g = sound_at operation_heights 2 0 0 (instruction.Load 0) record { takes = omega arith; uses = omega arith; goes = (refl, tt) } height i e g
operation_sound_each op kind t (suc zero) height i e g = sound_at operation_heights 2 1 1 (instruction.Load 1) record { takes = omega arith; uses = omega arith; goes = (refl, tt) } height i e g
operation_sound_each op kind t (suc (suc zero)) height i e g = sound_at operation_heights 2 2 2 (instruction.Binary op kind) record { takes = omega arith; uses = tt; goes = (refl, tt) } height i e g
operation_sound_each op kind t (suc (suc (suc zero))) height i e g = sound_at operation_heights 2 3 1 (instruction.Store 0) record { takes = omega arith; uses = omega arith; goes = (refl, tt) } height i e g
operation_sound_each op kind t (suc (suc (suc (suc zero)))) height i e g = sound_at operation_heights 2 4 0 (instruction.Back 0 0 2) record { takes = omega arith; uses = tt; goes = tt } height i e g
operation_sound_each op kind t (suc (suc (suc (suc (suc place))))) height i e g = absurd (cc)

pub operation_sound : (op : BinOp) (kind : Kind) (t : Table) → Sound (code_of t (operation_code op kind)) 2 operation_heights
operation_sound op kind t = record { whole = refl; low = operation_sound_low; each = operation_sound_each op kind t }

-- exchanges and tests
abbrev stack_code : List Instr
stack_code = instr.Load 0 ∷ instr.Load 1 ∷ instr.CopyUnder ∷ instr.Swap ∷ instr.Drop ∷ instr.Copy ∷ instr.Same ∷ instr.Store 0 ∷ instr.Unary Negate I32 ∷ instr.Convert U8 ∷ instr.Copy ∷ instr.Store 1 ∷ instr.IsNotZero ∷ instr.JumpUnlessZero 1 ∷ instr.Jump 1 ∷ instr.Back 0 0 2 ∷ instr.Back 0 1 2 ∷ []

abbrev stack_heights : List (Option ℕ)
stack_heights = Some 0 ∷ Some 1 ∷ Some 2 ∷ Some 3 ∷ Some 3 ∷ Some 2 ∷ Some 3 ∷ Some 2 ∷ Some 1 ∷ Some 1 ∷ Some 1 ∷ Some 2 ∷ Some 1 ∷ Some 1 ∷ Some 0 ∷ Some 0 ∷ Some 0 ∷ []

stack_sound_low : (place height : ℕ) → HasHeight stack_heights place height → height ≤ most_words
stack_sound_low zero height e = low_height 0 height (omega arith) e
stack_sound_low (suc zero) height e = low_height 1 height (omega arith) e
stack_sound_low (suc (suc zero)) height e = low_height 2 height (omega arith) e
stack_sound_low (suc (suc (suc zero))) height e = low_height 3 height (omega arith) e
stack_sound_low (suc (suc (suc (suc zero)))) height e = low_height 3 height (omega arith) e
stack_sound_low (suc (suc (suc (suc (suc zero))))) height e = low_height 2 height (omega arith) e
stack_sound_low (suc (suc (suc (suc (suc (suc zero)))))) height e = low_height 3 height (omega arith) e
stack_sound_low (suc (suc (suc (suc (suc (suc (suc zero))))))) height e = low_height 2 height (omega arith) e
stack_sound_low (suc (suc (suc (suc (suc (suc (suc (suc zero)))))))) height e = low_height 1 height (omega arith) e
stack_sound_low (suc (suc (suc (suc (suc (suc (suc (suc (suc zero))))))))) height e = low_height 1 height (omega arith) e
stack_sound_low (suc (suc (suc (suc (suc (suc (suc (suc (suc (suc zero)))))))))) height e = low_height 1 height (omega arith) e
stack_sound_low (suc (suc (suc (suc (suc (suc (suc (suc (suc (suc (suc zero))))))))))) height e = low_height 2 height (omega arith) e
stack_sound_low (suc (suc (suc (suc (suc (suc (suc (suc (suc (suc (suc (suc zero)))))))))))) height e = low_height 1 height (omega arith) e
stack_sound_low (suc (suc (suc (suc (suc (suc (suc (suc (suc (suc (suc (suc (suc zero))))))))))))) height e = low_height 1 height (omega arith) e
stack_sound_low (suc (suc (suc (suc (suc (suc (suc (suc (suc (suc (suc (suc (suc (suc zero)))))))))))))) height e = low_height 0 height (omega arith) e
stack_sound_low (suc (suc (suc (suc (suc (suc (suc (suc (suc (suc (suc (suc (suc (suc (suc zero))))))))))))))) height e = low_height 0 height (omega arith) e
stack_sound_low (suc (suc (suc (suc (suc (suc (suc (suc (suc (suc (suc (suc (suc (suc (suc (suc zero)))))))))))))))) height e = low_height 0 height (omega arith) e
stack_sound_low (suc (suc (suc (suc (suc (suc (suc (suc (suc (suc (suc (suc (suc (suc (suc (suc (suc place))))))))))))))))) height e = absurd (cc)

stack_sound_each : (t : Table) (place height : ℕ) (i : Instruction) → HasHeight stack_heights place height → slice_get (code_of t stack_code) place ≡ Some i → IsSoundAt stack_heights 2 i place height
stack_sound_each t zero height i e g = sound_at stack_heights 2 0 0 (instruction.Load 0) record { takes = omega arith; uses = omega arith; goes = (refl, tt) } height i e g
stack_sound_each t (suc zero) height i e g = sound_at stack_heights 2 1 1 (instruction.Load 1) record { takes = omega arith; uses = omega arith; goes = (refl, tt) } height i e g
stack_sound_each t (suc (suc zero)) height i e g = sound_at stack_heights 2 2 2 (instruction.CopyUnder) record { takes = omega arith; uses = tt; goes = (refl, tt) } height i e g
stack_sound_each t (suc (suc (suc zero))) height i e g = sound_at stack_heights 2 3 3 (instruction.Swap) record { takes = omega arith; uses = tt; goes = (refl, tt) } height i e g
stack_sound_each t (suc (suc (suc (suc zero)))) height i e g = sound_at stack_heights 2 4 3 (instruction.Drop) record { takes = omega arith; uses = tt; goes = (refl, tt) } height i e g
stack_sound_each t (suc (suc (suc (suc (suc zero))))) height i e g = sound_at stack_heights 2 5 2 (instruction.Copy) record { takes = omega arith; uses = tt; goes = (refl, tt) } height i e g
stack_sound_each t (suc (suc (suc (suc (suc (suc zero)))))) height i e g = sound_at stack_heights 2 6 3 (instruction.Same) record { takes = omega arith; uses = tt; goes = (refl, tt) } height i e g
stack_sound_each t (suc (suc (suc (suc (suc (suc (suc zero))))))) height i e g = sound_at stack_heights 2 7 2 (instruction.Store 0) record { takes = omega arith; uses = omega arith; goes = (refl, tt) } height i e g
stack_sound_each t (suc (suc (suc (suc (suc (suc (suc (suc zero)))))))) height i e g = sound_at stack_heights 2 8 1 (instruction.Unary Negate I32) record { takes = omega arith; uses = tt; goes = (refl, tt) } height i e g
stack_sound_each t (suc (suc (suc (suc (suc (suc (suc (suc (suc zero))))))))) height i e g = sound_at stack_heights 2 9 1 (instruction.Convert U8) record { takes = omega arith; uses = tt; goes = (refl, tt) } height i e g
stack_sound_each t (suc (suc (suc (suc (suc (suc (suc (suc (suc (suc zero)))))))))) height i e g = sound_at stack_heights 2 10 1 (instruction.Copy) record { takes = omega arith; uses = tt; goes = (refl, tt) } height i e g
stack_sound_each t (suc (suc (suc (suc (suc (suc (suc (suc (suc (suc (suc zero))))))))))) height i e g = sound_at stack_heights 2 11 2 (instruction.Store 1) record { takes = omega arith; uses = omega arith; goes = (refl, tt) } height i e g
stack_sound_each t (suc (suc (suc (suc (suc (suc (suc (suc (suc (suc (suc (suc zero)))))))))))) height i e g = sound_at stack_heights 2 12 1 (instruction.IsNotZero) record { takes = omega arith; uses = tt; goes = (refl, tt) } height i e g
stack_sound_each t (suc (suc (suc (suc (suc (suc (suc (suc (suc (suc (suc (suc (suc zero))))))))))))) height i e g = sound_at stack_heights 2 13 1 (instruction.JumpUnlessZero 1) record { takes = omega arith; uses = tt; goes = (refl, (refl, tt)) } height i e g
stack_sound_each t (suc (suc (suc (suc (suc (suc (suc (suc (suc (suc (suc (suc (suc (suc zero)))))))))))))) height i e g = sound_at stack_heights 2 14 0 (instruction.Jump 1) record { takes = omega arith; uses = tt; goes = (refl, tt) } height i e g
stack_sound_each t (suc (suc (suc (suc (suc (suc (suc (suc (suc (suc (suc (suc (suc (suc (suc zero))))))))))))))) height i e g = sound_at stack_heights 2 15 0 (instruction.Back 0 0 2) record { takes = omega arith; uses = tt; goes = tt } height i e g
stack_sound_each t (suc (suc (suc (suc (suc (suc (suc (suc (suc (suc (suc (suc (suc (suc (suc (suc zero)))))))))))))))) height i e g = sound_at stack_heights 2 16 0 (instruction.Back 0 1 2) record { takes = omega arith; uses = tt; goes = tt } height i e g
stack_sound_each t (suc (suc (suc (suc (suc (suc (suc (suc (suc (suc (suc (suc (suc (suc (suc (suc (suc place))))))))))))))))) height i e g = absurd (cc)

pub stack_sound : (t : Table) → Sound (code_of t stack_code) 2 stack_heights
stack_sound t = record { whole = refl; low = stack_sound_low; each = stack_sound_each t }
