-- The code of the tests has right heights.
use Rattle.std.proofs.Common.{◌≡◌, ℕ, zero, suc, ◌≤◌, List, [], ◌∷◌, Option, Some, refl, subst, arith}
use Rattle.std.specs.Prelude.{slice_get}
use Rattle.c_ints.specs.declared.kind.Kind.TheVariants.{U8, I32, U32, I64, U64}
use Rattle.c_ints.specs.declared.operator.BinOp.TheVariants.{Add, Mul, Div, Xor, Lt, Eq}
use Rattle.c_ints.specs.declared.operator.UnOp.TheVariants.{Negate}
use Rattle.resolved_tree.specs.Nodes.{Table}
use Rattle.bytecode.specs.Instructions.{Instruction}
use Rattle.bytecode.specs.Instructions as instruction
use Rattle.bytecode.specs.Seen.{code_of}
use Rattle.bytecode.specs.declared.instr.Instr.{Instr}
use Rattle.bytecode.specs.declared.instr.Instr.TheVariants as instr
use Rattle.bytecode.specs.declared.kind.ValueKind.TheVariants.{Number}
use Rattle.thread_state.specs.Frames.{most_words}
use Rattle.thread_state.specs.Heights.{HasHeight, IsSoundAt, Sound}

pub low_height : (n height : ℕ) → n ≤ most_words → ◌≡◌ {A = Option (Option ℕ)} (Some (Some n)) (Some (Some height)) → height ≤ most_words
low_height n height low e = let same : n ≡ height = cc in omega arith

pub sound_at : (heights : List (Option ℕ)) (room place n : ℕ) (j : Instruction) → IsSoundAt heights room j place n → (height : ℕ) (i : Instruction)
    → ◌≡◌ {A = Option (Option ℕ)} (Some (Some n)) (Some (Some height)) → ◌≡◌ {A = Option Instruction} (Some j) (Some i) → IsSoundAt heights room i place height
sound_at heights room place n j at height i e g =
    let same : n ≡ height = cc in
    let one : j ≡ i = cc in
    subst (λ (x : Instruction). IsSoundAt heights room x place height) one (subst (λ (m : ℕ). IsSoundAt heights room j place m) same at)

abbrev forms_code : List Instr
forms_code = instr.Load 0 ∷ instr.Load 1 ∷ instr.Binary Add I32 ∷ instr.Store 2 ∷ instr.Load 2 ∷ instr.Constant (Number I32) 7 ∷ instr.Binary Mul U32 ∷ instr.Store 2 ∷ instr.Load 0 ∷ instr.Load 1 ∷ instr.Binary Lt I32 ∷ instr.JumpIfZero 2 ∷ instr.Constant (Number I32) 5 ∷ instr.Store 1 ∷ instr.Load 1 ∷ instr.Constant (Number I32) 9 ∷ instr.Binary Eq U32 ∷ instr.JumpIfZero 1 ∷ instr.Jump 2 ∷ instr.Load 2 ∷ instr.Store 0 ∷ instr.Load 0 ∷ instr.Load 1 ∷ instr.Binary Div I64 ∷ instr.Convert U8 ∷ instr.Store 2 ∷ instr.Load 0 ∷ instr.Unary Negate I32 ∷ instr.Copy ∷ instr.Store 0 ∷ instr.IsZero ∷ instr.JumpUnlessZero 1 ∷ instr.Jump 0 ∷ instr.Load 0 ∷ instr.Load 1 ∷ instr.Same ∷ instr.Load 0 ∷ instr.Load 2 ∷ instr.Different ∷ instr.CopyUnder ∷ instr.Swap ∷ instr.Drop ∷ instr.Binary Xor U64 ∷ instr.IsNotZero ∷ instr.Store 1 ∷ instr.Load 2 ∷ instr.JumpIfZero 1 ∷ instr.Back 0 1 3 ∷ instr.Back 0 2 3 ∷ []

abbrev forms_heights : List (Option ℕ)
forms_heights = Some 0 ∷ Some 1 ∷ Some 2 ∷ Some 1 ∷ Some 0 ∷ Some 1 ∷ Some 2 ∷ Some 1 ∷ Some 0 ∷ Some 1 ∷ Some 2 ∷ Some 1 ∷ Some 0 ∷ Some 1 ∷ Some 0 ∷ Some 1 ∷ Some 2 ∷ Some 1 ∷ Some 0 ∷ Some 0 ∷ Some 1 ∷ Some 0 ∷ Some 1 ∷ Some 2 ∷ Some 1 ∷ Some 1 ∷ Some 0 ∷ Some 1 ∷ Some 1 ∷ Some 2 ∷ Some 1 ∷ Some 1 ∷ Some 0 ∷ Some 0 ∷ Some 1 ∷ Some 2 ∷ Some 1 ∷ Some 2 ∷ Some 3 ∷ Some 2 ∷ Some 3 ∷ Some 3 ∷ Some 2 ∷ Some 1 ∷ Some 1 ∷ Some 0 ∷ Some 1 ∷ Some 0 ∷ Some 0 ∷ []

forms_low : (place height : ℕ) → HasHeight forms_heights place height → height ≤ most_words
forms_low zero height e = low_height 0 height (omega arith) e
forms_low (suc zero) height e = low_height 1 height (omega arith) e
forms_low (suc (suc zero)) height e = low_height 2 height (omega arith) e
forms_low (suc (suc (suc zero))) height e = low_height 1 height (omega arith) e
forms_low (suc (suc (suc (suc zero)))) height e = low_height 0 height (omega arith) e
forms_low (suc (suc (suc (suc (suc zero))))) height e = low_height 1 height (omega arith) e
forms_low (suc (suc (suc (suc (suc (suc zero)))))) height e = low_height 2 height (omega arith) e
forms_low (suc (suc (suc (suc (suc (suc (suc zero))))))) height e = low_height 1 height (omega arith) e
forms_low (suc (suc (suc (suc (suc (suc (suc (suc zero)))))))) height e = low_height 0 height (omega arith) e
forms_low (suc (suc (suc (suc (suc (suc (suc (suc (suc zero))))))))) height e = low_height 1 height (omega arith) e
forms_low (suc (suc (suc (suc (suc (suc (suc (suc (suc (suc zero)))))))))) height e = low_height 2 height (omega arith) e
forms_low (suc (suc (suc (suc (suc (suc (suc (suc (suc (suc (suc zero))))))))))) height e = low_height 1 height (omega arith) e
forms_low (suc (suc (suc (suc (suc (suc (suc (suc (suc (suc (suc (suc zero)))))))))))) height e = low_height 0 height (omega arith) e
forms_low (suc (suc (suc (suc (suc (suc (suc (suc (suc (suc (suc (suc (suc zero))))))))))))) height e = low_height 1 height (omega arith) e
forms_low (suc (suc (suc (suc (suc (suc (suc (suc (suc (suc (suc (suc (suc (suc zero)))))))))))))) height e = low_height 0 height (omega arith) e
forms_low (suc (suc (suc (suc (suc (suc (suc (suc (suc (suc (suc (suc (suc (suc (suc zero))))))))))))))) height e = low_height 1 height (omega arith) e
forms_low (suc (suc (suc (suc (suc (suc (suc (suc (suc (suc (suc (suc (suc (suc (suc (suc zero)))))))))))))))) height e = low_height 2 height (omega arith) e
forms_low (suc (suc (suc (suc (suc (suc (suc (suc (suc (suc (suc (suc (suc (suc (suc (suc (suc zero))))))))))))))))) height e = low_height 1 height (omega arith) e
forms_low (suc (suc (suc (suc (suc (suc (suc (suc (suc (suc (suc (suc (suc (suc (suc (suc (suc (suc zero)))))))))))))))))) height e = low_height 0 height (omega arith) e
forms_low (suc (suc (suc (suc (suc (suc (suc (suc (suc (suc (suc (suc (suc (suc (suc (suc (suc (suc (suc zero))))))))))))))))))) height e = low_height 0 height (omega arith) e
forms_low (suc (suc (suc (suc (suc (suc (suc (suc (suc (suc (suc (suc (suc (suc (suc (suc (suc (suc (suc (suc zero)))))))))))))))))))) height e = low_height 1 height (omega arith) e
forms_low (suc (suc (suc (suc (suc (suc (suc (suc (suc (suc (suc (suc (suc (suc (suc (suc (suc (suc (suc (suc (suc zero))))))))))))))))))))) height e = low_height 0 height (omega arith) e
forms_low (suc (suc (suc (suc (suc (suc (suc (suc (suc (suc (suc (suc (suc (suc (suc (suc (suc (suc (suc (suc (suc (suc zero)))))))))))))))))))))) height e = low_height 1 height (omega arith) e
forms_low (suc (suc (suc (suc (suc (suc (suc (suc (suc (suc (suc (suc (suc (suc (suc (suc (suc (suc (suc (suc (suc (suc (suc zero))))))))))))))))))))))) height e = low_height 2 height (omega arith) e
forms_low (suc (suc (suc (suc (suc (suc (suc (suc (suc (suc (suc (suc (suc (suc (suc (suc (suc (suc (suc (suc (suc (suc (suc (suc zero)))))))))))))))))))))))) height e = low_height 1 height (omega arith) e
forms_low (suc (suc (suc (suc (suc (suc (suc (suc (suc (suc (suc (suc (suc (suc (suc (suc (suc (suc (suc (suc (suc (suc (suc (suc (suc zero))))))))))))))))))))))))) height e = low_height 1 height (omega arith) e
forms_low (suc (suc (suc (suc (suc (suc (suc (suc (suc (suc (suc (suc (suc (suc (suc (suc (suc (suc (suc (suc (suc (suc (suc (suc (suc (suc zero)))))))))))))))))))))))))) height e = low_height 0 height (omega arith) e
forms_low (suc (suc (suc (suc (suc (suc (suc (suc (suc (suc (suc (suc (suc (suc (suc (suc (suc (suc (suc (suc (suc (suc (suc (suc (suc (suc (suc zero))))))))))))))))))))))))))) height e = low_height 1 height (omega arith) e
forms_low (suc (suc (suc (suc (suc (suc (suc (suc (suc (suc (suc (suc (suc (suc (suc (suc (suc (suc (suc (suc (suc (suc (suc (suc (suc (suc (suc (suc zero)))))))))))))))))))))))))))) height e = low_height 1 height (omega arith) e
forms_low (suc (suc (suc (suc (suc (suc (suc (suc (suc (suc (suc (suc (suc (suc (suc (suc (suc (suc (suc (suc (suc (suc (suc (suc (suc (suc (suc (suc (suc zero))))))))))))))))))))))))))))) height e = low_height 2 height (omega arith) e
forms_low (suc (suc (suc (suc (suc (suc (suc (suc (suc (suc (suc (suc (suc (suc (suc (suc (suc (suc (suc (suc (suc (suc (suc (suc (suc (suc (suc (suc (suc (suc zero)))))))))))))))))))))))))))))) height e = low_height 1 height (omega arith) e
forms_low (suc (suc (suc (suc (suc (suc (suc (suc (suc (suc (suc (suc (suc (suc (suc (suc (suc (suc (suc (suc (suc (suc (suc (suc (suc (suc (suc (suc (suc (suc (suc zero))))))))))))))))))))))))))))))) height e = low_height 1 height (omega arith) e
forms_low (suc (suc (suc (suc (suc (suc (suc (suc (suc (suc (suc (suc (suc (suc (suc (suc (suc (suc (suc (suc (suc (suc (suc (suc (suc (suc (suc (suc (suc (suc (suc (suc zero)))))))))))))))))))))))))))))))) height e = low_height 0 height (omega arith) e
forms_low (suc (suc (suc (suc (suc (suc (suc (suc (suc (suc (suc (suc (suc (suc (suc (suc (suc (suc (suc (suc (suc (suc (suc (suc (suc (suc (suc (suc (suc (suc (suc (suc (suc zero))))))))))))))))))))))))))))))))) height e = low_height 0 height (omega arith) e
forms_low (suc (suc (suc (suc (suc (suc (suc (suc (suc (suc (suc (suc (suc (suc (suc (suc (suc (suc (suc (suc (suc (suc (suc (suc (suc (suc (suc (suc (suc (suc (suc (suc (suc (suc zero)))))))))))))))))))))))))))))))))) height e = low_height 1 height (omega arith) e
forms_low (suc (suc (suc (suc (suc (suc (suc (suc (suc (suc (suc (suc (suc (suc (suc (suc (suc (suc (suc (suc (suc (suc (suc (suc (suc (suc (suc (suc (suc (suc (suc (suc (suc (suc (suc zero))))))))))))))))))))))))))))))))))) height e = low_height 2 height (omega arith) e
forms_low (suc (suc (suc (suc (suc (suc (suc (suc (suc (suc (suc (suc (suc (suc (suc (suc (suc (suc (suc (suc (suc (suc (suc (suc (suc (suc (suc (suc (suc (suc (suc (suc (suc (suc (suc (suc zero)))))))))))))))))))))))))))))))))))) height e = low_height 1 height (omega arith) e
forms_low (suc (suc (suc (suc (suc (suc (suc (suc (suc (suc (suc (suc (suc (suc (suc (suc (suc (suc (suc (suc (suc (suc (suc (suc (suc (suc (suc (suc (suc (suc (suc (suc (suc (suc (suc (suc (suc zero))))))))))))))))))))))))))))))))))))) height e = low_height 2 height (omega arith) e
forms_low (suc (suc (suc (suc (suc (suc (suc (suc (suc (suc (suc (suc (suc (suc (suc (suc (suc (suc (suc (suc (suc (suc (suc (suc (suc (suc (suc (suc (suc (suc (suc (suc (suc (suc (suc (suc (suc (suc zero)))))))))))))))))))))))))))))))))))))) height e = low_height 3 height (omega arith) e
forms_low (suc (suc (suc (suc (suc (suc (suc (suc (suc (suc (suc (suc (suc (suc (suc (suc (suc (suc (suc (suc (suc (suc (suc (suc (suc (suc (suc (suc (suc (suc (suc (suc (suc (suc (suc (suc (suc (suc (suc zero))))))))))))))))))))))))))))))))))))))) height e = low_height 2 height (omega arith) e
forms_low (suc (suc (suc (suc (suc (suc (suc (suc (suc (suc (suc (suc (suc (suc (suc (suc (suc (suc (suc (suc (suc (suc (suc (suc (suc (suc (suc (suc (suc (suc (suc (suc (suc (suc (suc (suc (suc (suc (suc (suc zero)))))))))))))))))))))))))))))))))))))))) height e = low_height 3 height (omega arith) e
forms_low (suc (suc (suc (suc (suc (suc (suc (suc (suc (suc (suc (suc (suc (suc (suc (suc (suc (suc (suc (suc (suc (suc (suc (suc (suc (suc (suc (suc (suc (suc (suc (suc (suc (suc (suc (suc (suc (suc (suc (suc (suc zero))))))))))))))))))))))))))))))))))))))))) height e = low_height 3 height (omega arith) e
forms_low (suc (suc (suc (suc (suc (suc (suc (suc (suc (suc (suc (suc (suc (suc (suc (suc (suc (suc (suc (suc (suc (suc (suc (suc (suc (suc (suc (suc (suc (suc (suc (suc (suc (suc (suc (suc (suc (suc (suc (suc (suc (suc zero)))))))))))))))))))))))))))))))))))))))))) height e = low_height 2 height (omega arith) e
forms_low (suc (suc (suc (suc (suc (suc (suc (suc (suc (suc (suc (suc (suc (suc (suc (suc (suc (suc (suc (suc (suc (suc (suc (suc (suc (suc (suc (suc (suc (suc (suc (suc (suc (suc (suc (suc (suc (suc (suc (suc (suc (suc (suc zero))))))))))))))))))))))))))))))))))))))))))) height e = low_height 1 height (omega arith) e
forms_low (suc (suc (suc (suc (suc (suc (suc (suc (suc (suc (suc (suc (suc (suc (suc (suc (suc (suc (suc (suc (suc (suc (suc (suc (suc (suc (suc (suc (suc (suc (suc (suc (suc (suc (suc (suc (suc (suc (suc (suc (suc (suc (suc (suc zero)))))))))))))))))))))))))))))))))))))))))))) height e = low_height 1 height (omega arith) e
forms_low (suc (suc (suc (suc (suc (suc (suc (suc (suc (suc (suc (suc (suc (suc (suc (suc (suc (suc (suc (suc (suc (suc (suc (suc (suc (suc (suc (suc (suc (suc (suc (suc (suc (suc (suc (suc (suc (suc (suc (suc (suc (suc (suc (suc (suc zero))))))))))))))))))))))))))))))))))))))))))))) height e = low_height 0 height (omega arith) e
forms_low (suc (suc (suc (suc (suc (suc (suc (suc (suc (suc (suc (suc (suc (suc (suc (suc (suc (suc (suc (suc (suc (suc (suc (suc (suc (suc (suc (suc (suc (suc (suc (suc (suc (suc (suc (suc (suc (suc (suc (suc (suc (suc (suc (suc (suc (suc zero)))))))))))))))))))))))))))))))))))))))))))))) height e = low_height 1 height (omega arith) e
forms_low (suc (suc (suc (suc (suc (suc (suc (suc (suc (suc (suc (suc (suc (suc (suc (suc (suc (suc (suc (suc (suc (suc (suc (suc (suc (suc (suc (suc (suc (suc (suc (suc (suc (suc (suc (suc (suc (suc (suc (suc (suc (suc (suc (suc (suc (suc (suc zero))))))))))))))))))))))))))))))))))))))))))))))) height e = low_height 0 height (omega arith) e
forms_low (suc (suc (suc (suc (suc (suc (suc (suc (suc (suc (suc (suc (suc (suc (suc (suc (suc (suc (suc (suc (suc (suc (suc (suc (suc (suc (suc (suc (suc (suc (suc (suc (suc (suc (suc (suc (suc (suc (suc (suc (suc (suc (suc (suc (suc (suc (suc (suc zero)))))))))))))))))))))))))))))))))))))))))))))))) height e = low_height 0 height (omega arith) e
forms_low (suc (suc (suc (suc (suc (suc (suc (suc (suc (suc (suc (suc (suc (suc (suc (suc (suc (suc (suc (suc (suc (suc (suc (suc (suc (suc (suc (suc (suc (suc (suc (suc (suc (suc (suc (suc (suc (suc (suc (suc (suc (suc (suc (suc (suc (suc (suc (suc (suc place))))))))))))))))))))))))))))))))))))))))))))))))) height e = absurd (cc)

forms_each : (t : Table) (place height : ℕ) (i : Instruction) → HasHeight forms_heights place height → slice_get (code_of t forms_code) place ≡ Some i → IsSoundAt forms_heights 3 i place height
forms_each t zero height i e g = sound_at forms_heights 3 0 0 (instruction.Load 0) record { takes = omega arith; uses = omega arith; goes = (refl, tt) } height i e g
forms_each t (suc zero) height i e g = sound_at forms_heights 3 1 1 (instruction.Load 1) record { takes = omega arith; uses = omega arith; goes = (refl, tt) } height i e g
forms_each t (suc (suc zero)) height i e g = sound_at forms_heights 3 2 2 (instruction.Binary Add I32) record { takes = omega arith; uses = tt; goes = (refl, tt) } height i e g
forms_each t (suc (suc (suc zero))) height i e g = sound_at forms_heights 3 3 1 (instruction.Store 2) record { takes = omega arith; uses = omega arith; goes = (refl, tt) } height i e g
forms_each t (suc (suc (suc (suc zero)))) height i e g = sound_at forms_heights 3 4 0 (instruction.Load 2) record { takes = omega arith; uses = omega arith; goes = (refl, tt) } height i e g
forms_each t (suc (suc (suc (suc (suc zero))))) height i e g = sound_at forms_heights 3 5 1 (instruction.Constant (Number I32) 7) record { takes = omega arith; uses = tt; goes = (refl, tt) } height i e g
forms_each t (suc (suc (suc (suc (suc (suc zero)))))) height i e g = sound_at forms_heights 3 6 2 (instruction.Binary Mul U32) record { takes = omega arith; uses = tt; goes = (refl, tt) } height i e g
forms_each t (suc (suc (suc (suc (suc (suc (suc zero))))))) height i e g = sound_at forms_heights 3 7 1 (instruction.Store 2) record { takes = omega arith; uses = omega arith; goes = (refl, tt) } height i e g
forms_each t (suc (suc (suc (suc (suc (suc (suc (suc zero)))))))) height i e g = sound_at forms_heights 3 8 0 (instruction.Load 0) record { takes = omega arith; uses = omega arith; goes = (refl, tt) } height i e g
forms_each t (suc (suc (suc (suc (suc (suc (suc (suc (suc zero))))))))) height i e g = sound_at forms_heights 3 9 1 (instruction.Load 1) record { takes = omega arith; uses = omega arith; goes = (refl, tt) } height i e g
forms_each t (suc (suc (suc (suc (suc (suc (suc (suc (suc (suc zero)))))))))) height i e g = sound_at forms_heights 3 10 2 (instruction.Binary Lt I32) record { takes = omega arith; uses = tt; goes = (refl, tt) } height i e g
forms_each t (suc (suc (suc (suc (suc (suc (suc (suc (suc (suc (suc zero))))))))))) height i e g = sound_at forms_heights 3 11 1 (instruction.JumpIfZero 2) record { takes = omega arith; uses = tt; goes = (refl, (refl, tt)) } height i e g
forms_each t (suc (suc (suc (suc (suc (suc (suc (suc (suc (suc (suc (suc zero)))))))))))) height i e g = sound_at forms_heights 3 12 0 (instruction.Constant (Number I32) 5) record { takes = omega arith; uses = tt; goes = (refl, tt) } height i e g
forms_each t (suc (suc (suc (suc (suc (suc (suc (suc (suc (suc (suc (suc (suc zero))))))))))))) height i e g = sound_at forms_heights 3 13 1 (instruction.Store 1) record { takes = omega arith; uses = omega arith; goes = (refl, tt) } height i e g
forms_each t (suc (suc (suc (suc (suc (suc (suc (suc (suc (suc (suc (suc (suc (suc zero)))))))))))))) height i e g = sound_at forms_heights 3 14 0 (instruction.Load 1) record { takes = omega arith; uses = omega arith; goes = (refl, tt) } height i e g
forms_each t (suc (suc (suc (suc (suc (suc (suc (suc (suc (suc (suc (suc (suc (suc (suc zero))))))))))))))) height i e g = sound_at forms_heights 3 15 1 (instruction.Constant (Number I32) 9) record { takes = omega arith; uses = tt; goes = (refl, tt) } height i e g
forms_each t (suc (suc (suc (suc (suc (suc (suc (suc (suc (suc (suc (suc (suc (suc (suc (suc zero)))))))))))))))) height i e g = sound_at forms_heights 3 16 2 (instruction.Binary Eq U32) record { takes = omega arith; uses = tt; goes = (refl, tt) } height i e g
forms_each t (suc (suc (suc (suc (suc (suc (suc (suc (suc (suc (suc (suc (suc (suc (suc (suc (suc zero))))))))))))))))) height i e g = sound_at forms_heights 3 17 1 (instruction.JumpIfZero 1) record { takes = omega arith; uses = tt; goes = (refl, (refl, tt)) } height i e g
forms_each t (suc (suc (suc (suc (suc (suc (suc (suc (suc (suc (suc (suc (suc (suc (suc (suc (suc (suc zero)))))))))))))))))) height i e g = sound_at forms_heights 3 18 0 (instruction.Jump 2) record { takes = omega arith; uses = tt; goes = (refl, tt) } height i e g
forms_each t (suc (suc (suc (suc (suc (suc (suc (suc (suc (suc (suc (suc (suc (suc (suc (suc (suc (suc (suc zero))))))))))))))))))) height i e g = sound_at forms_heights 3 19 0 (instruction.Load 2) record { takes = omega arith; uses = omega arith; goes = (refl, tt) } height i e g
forms_each t (suc (suc (suc (suc (suc (suc (suc (suc (suc (suc (suc (suc (suc (suc (suc (suc (suc (suc (suc (suc zero)))))))))))))))))))) height i e g = sound_at forms_heights 3 20 1 (instruction.Store 0) record { takes = omega arith; uses = omega arith; goes = (refl, tt) } height i e g
forms_each t (suc (suc (suc (suc (suc (suc (suc (suc (suc (suc (suc (suc (suc (suc (suc (suc (suc (suc (suc (suc (suc zero))))))))))))))))))))) height i e g = sound_at forms_heights 3 21 0 (instruction.Load 0) record { takes = omega arith; uses = omega arith; goes = (refl, tt) } height i e g
forms_each t (suc (suc (suc (suc (suc (suc (suc (suc (suc (suc (suc (suc (suc (suc (suc (suc (suc (suc (suc (suc (suc (suc zero)))))))))))))))))))))) height i e g = sound_at forms_heights 3 22 1 (instruction.Load 1) record { takes = omega arith; uses = omega arith; goes = (refl, tt) } height i e g
forms_each t (suc (suc (suc (suc (suc (suc (suc (suc (suc (suc (suc (suc (suc (suc (suc (suc (suc (suc (suc (suc (suc (suc (suc zero))))))))))))))))))))))) height i e g = sound_at forms_heights 3 23 2 (instruction.Binary Div I64) record { takes = omega arith; uses = tt; goes = (refl, tt) } height i e g
forms_each t (suc (suc (suc (suc (suc (suc (suc (suc (suc (suc (suc (suc (suc (suc (suc (suc (suc (suc (suc (suc (suc (suc (suc (suc zero)))))))))))))))))))))))) height i e g = sound_at forms_heights 3 24 1 (instruction.Convert U8) record { takes = omega arith; uses = tt; goes = (refl, tt) } height i e g
forms_each t (suc (suc (suc (suc (suc (suc (suc (suc (suc (suc (suc (suc (suc (suc (suc (suc (suc (suc (suc (suc (suc (suc (suc (suc (suc zero))))))))))))))))))))))))) height i e g = sound_at forms_heights 3 25 1 (instruction.Store 2) record { takes = omega arith; uses = omega arith; goes = (refl, tt) } height i e g
forms_each t (suc (suc (suc (suc (suc (suc (suc (suc (suc (suc (suc (suc (suc (suc (suc (suc (suc (suc (suc (suc (suc (suc (suc (suc (suc (suc zero)))))))))))))))))))))))))) height i e g = sound_at forms_heights 3 26 0 (instruction.Load 0) record { takes = omega arith; uses = omega arith; goes = (refl, tt) } height i e g
forms_each t (suc (suc (suc (suc (suc (suc (suc (suc (suc (suc (suc (suc (suc (suc (suc (suc (suc (suc (suc (suc (suc (suc (suc (suc (suc (suc (suc zero))))))))))))))))))))))))))) height i e g = sound_at forms_heights 3 27 1 (instruction.Unary Negate I32) record { takes = omega arith; uses = tt; goes = (refl, tt) } height i e g
forms_each t (suc (suc (suc (suc (suc (suc (suc (suc (suc (suc (suc (suc (suc (suc (suc (suc (suc (suc (suc (suc (suc (suc (suc (suc (suc (suc (suc (suc zero)))))))))))))))))))))))))))) height i e g = sound_at forms_heights 3 28 1 (instruction.Copy) record { takes = omega arith; uses = tt; goes = (refl, tt) } height i e g
forms_each t (suc (suc (suc (suc (suc (suc (suc (suc (suc (suc (suc (suc (suc (suc (suc (suc (suc (suc (suc (suc (suc (suc (suc (suc (suc (suc (suc (suc (suc zero))))))))))))))))))))))))))))) height i e g = sound_at forms_heights 3 29 2 (instruction.Store 0) record { takes = omega arith; uses = omega arith; goes = (refl, tt) } height i e g
forms_each t (suc (suc (suc (suc (suc (suc (suc (suc (suc (suc (suc (suc (suc (suc (suc (suc (suc (suc (suc (suc (suc (suc (suc (suc (suc (suc (suc (suc (suc (suc zero)))))))))))))))))))))))))))))) height i e g = sound_at forms_heights 3 30 1 (instruction.IsZero) record { takes = omega arith; uses = tt; goes = (refl, tt) } height i e g
forms_each t (suc (suc (suc (suc (suc (suc (suc (suc (suc (suc (suc (suc (suc (suc (suc (suc (suc (suc (suc (suc (suc (suc (suc (suc (suc (suc (suc (suc (suc (suc (suc zero))))))))))))))))))))))))))))))) height i e g = sound_at forms_heights 3 31 1 (instruction.JumpUnlessZero 1) record { takes = omega arith; uses = tt; goes = (refl, (refl, tt)) } height i e g
forms_each t (suc (suc (suc (suc (suc (suc (suc (suc (suc (suc (suc (suc (suc (suc (suc (suc (suc (suc (suc (suc (suc (suc (suc (suc (suc (suc (suc (suc (suc (suc (suc (suc zero)))))))))))))))))))))))))))))))) height i e g = sound_at forms_heights 3 32 0 (instruction.Jump 0) record { takes = omega arith; uses = tt; goes = (refl, tt) } height i e g
forms_each t (suc (suc (suc (suc (suc (suc (suc (suc (suc (suc (suc (suc (suc (suc (suc (suc (suc (suc (suc (suc (suc (suc (suc (suc (suc (suc (suc (suc (suc (suc (suc (suc (suc zero))))))))))))))))))))))))))))))))) height i e g = sound_at forms_heights 3 33 0 (instruction.Load 0) record { takes = omega arith; uses = omega arith; goes = (refl, tt) } height i e g
forms_each t (suc (suc (suc (suc (suc (suc (suc (suc (suc (suc (suc (suc (suc (suc (suc (suc (suc (suc (suc (suc (suc (suc (suc (suc (suc (suc (suc (suc (suc (suc (suc (suc (suc (suc zero)))))))))))))))))))))))))))))))))) height i e g = sound_at forms_heights 3 34 1 (instruction.Load 1) record { takes = omega arith; uses = omega arith; goes = (refl, tt) } height i e g
forms_each t (suc (suc (suc (suc (suc (suc (suc (suc (suc (suc (suc (suc (suc (suc (suc (suc (suc (suc (suc (suc (suc (suc (suc (suc (suc (suc (suc (suc (suc (suc (suc (suc (suc (suc (suc zero))))))))))))))))))))))))))))))))))) height i e g = sound_at forms_heights 3 35 2 (instruction.Same) record { takes = omega arith; uses = tt; goes = (refl, tt) } height i e g
forms_each t (suc (suc (suc (suc (suc (suc (suc (suc (suc (suc (suc (suc (suc (suc (suc (suc (suc (suc (suc (suc (suc (suc (suc (suc (suc (suc (suc (suc (suc (suc (suc (suc (suc (suc (suc (suc zero)))))))))))))))))))))))))))))))))))) height i e g = sound_at forms_heights 3 36 1 (instruction.Load 0) record { takes = omega arith; uses = omega arith; goes = (refl, tt) } height i e g
forms_each t (suc (suc (suc (suc (suc (suc (suc (suc (suc (suc (suc (suc (suc (suc (suc (suc (suc (suc (suc (suc (suc (suc (suc (suc (suc (suc (suc (suc (suc (suc (suc (suc (suc (suc (suc (suc (suc zero))))))))))))))))))))))))))))))))))))) height i e g = sound_at forms_heights 3 37 2 (instruction.Load 2) record { takes = omega arith; uses = omega arith; goes = (refl, tt) } height i e g
forms_each t (suc (suc (suc (suc (suc (suc (suc (suc (suc (suc (suc (suc (suc (suc (suc (suc (suc (suc (suc (suc (suc (suc (suc (suc (suc (suc (suc (suc (suc (suc (suc (suc (suc (suc (suc (suc (suc (suc zero)))))))))))))))))))))))))))))))))))))) height i e g = sound_at forms_heights 3 38 3 (instruction.Different) record { takes = omega arith; uses = tt; goes = (refl, tt) } height i e g
forms_each t (suc (suc (suc (suc (suc (suc (suc (suc (suc (suc (suc (suc (suc (suc (suc (suc (suc (suc (suc (suc (suc (suc (suc (suc (suc (suc (suc (suc (suc (suc (suc (suc (suc (suc (suc (suc (suc (suc (suc zero))))))))))))))))))))))))))))))))))))))) height i e g = sound_at forms_heights 3 39 2 (instruction.CopyUnder) record { takes = omega arith; uses = tt; goes = (refl, tt) } height i e g
forms_each t (suc (suc (suc (suc (suc (suc (suc (suc (suc (suc (suc (suc (suc (suc (suc (suc (suc (suc (suc (suc (suc (suc (suc (suc (suc (suc (suc (suc (suc (suc (suc (suc (suc (suc (suc (suc (suc (suc (suc (suc zero)))))))))))))))))))))))))))))))))))))))) height i e g = sound_at forms_heights 3 40 3 (instruction.Swap) record { takes = omega arith; uses = tt; goes = (refl, tt) } height i e g
forms_each t (suc (suc (suc (suc (suc (suc (suc (suc (suc (suc (suc (suc (suc (suc (suc (suc (suc (suc (suc (suc (suc (suc (suc (suc (suc (suc (suc (suc (suc (suc (suc (suc (suc (suc (suc (suc (suc (suc (suc (suc (suc zero))))))))))))))))))))))))))))))))))))))))) height i e g = sound_at forms_heights 3 41 3 (instruction.Drop) record { takes = omega arith; uses = tt; goes = (refl, tt) } height i e g
forms_each t (suc (suc (suc (suc (suc (suc (suc (suc (suc (suc (suc (suc (suc (suc (suc (suc (suc (suc (suc (suc (suc (suc (suc (suc (suc (suc (suc (suc (suc (suc (suc (suc (suc (suc (suc (suc (suc (suc (suc (suc (suc (suc zero)))))))))))))))))))))))))))))))))))))))))) height i e g = sound_at forms_heights 3 42 2 (instruction.Binary Xor U64) record { takes = omega arith; uses = tt; goes = (refl, tt) } height i e g
forms_each t (suc (suc (suc (suc (suc (suc (suc (suc (suc (suc (suc (suc (suc (suc (suc (suc (suc (suc (suc (suc (suc (suc (suc (suc (suc (suc (suc (suc (suc (suc (suc (suc (suc (suc (suc (suc (suc (suc (suc (suc (suc (suc (suc zero))))))))))))))))))))))))))))))))))))))))))) height i e g = sound_at forms_heights 3 43 1 (instruction.IsNotZero) record { takes = omega arith; uses = tt; goes = (refl, tt) } height i e g
forms_each t (suc (suc (suc (suc (suc (suc (suc (suc (suc (suc (suc (suc (suc (suc (suc (suc (suc (suc (suc (suc (suc (suc (suc (suc (suc (suc (suc (suc (suc (suc (suc (suc (suc (suc (suc (suc (suc (suc (suc (suc (suc (suc (suc (suc zero)))))))))))))))))))))))))))))))))))))))))))) height i e g = sound_at forms_heights 3 44 1 (instruction.Store 1) record { takes = omega arith; uses = omega arith; goes = (refl, tt) } height i e g
forms_each t (suc (suc (suc (suc (suc (suc (suc (suc (suc (suc (suc (suc (suc (suc (suc (suc (suc (suc (suc (suc (suc (suc (suc (suc (suc (suc (suc (suc (suc (suc (suc (suc (suc (suc (suc (suc (suc (suc (suc (suc (suc (suc (suc (suc (suc zero))))))))))))))))))))))))))))))))))))))))))))) height i e g = sound_at forms_heights 3 45 0 (instruction.Load 2) record { takes = omega arith; uses = omega arith; goes = (refl, tt) } height i e g
forms_each t (suc (suc (suc (suc (suc (suc (suc (suc (suc (suc (suc (suc (suc (suc (suc (suc (suc (suc (suc (suc (suc (suc (suc (suc (suc (suc (suc (suc (suc (suc (suc (suc (suc (suc (suc (suc (suc (suc (suc (suc (suc (suc (suc (suc (suc (suc zero)))))))))))))))))))))))))))))))))))))))))))))) height i e g = sound_at forms_heights 3 46 1 (instruction.JumpIfZero 1) record { takes = omega arith; uses = tt; goes = (refl, (refl, tt)) } height i e g
forms_each t (suc (suc (suc (suc (suc (suc (suc (suc (suc (suc (suc (suc (suc (suc (suc (suc (suc (suc (suc (suc (suc (suc (suc (suc (suc (suc (suc (suc (suc (suc (suc (suc (suc (suc (suc (suc (suc (suc (suc (suc (suc (suc (suc (suc (suc (suc (suc zero))))))))))))))))))))))))))))))))))))))))))))))) height i e g = sound_at forms_heights 3 47 0 (instruction.Back 0 1 3) record { takes = omega arith; uses = tt; goes = tt } height i e g
forms_each t (suc (suc (suc (suc (suc (suc (suc (suc (suc (suc (suc (suc (suc (suc (suc (suc (suc (suc (suc (suc (suc (suc (suc (suc (suc (suc (suc (suc (suc (suc (suc (suc (suc (suc (suc (suc (suc (suc (suc (suc (suc (suc (suc (suc (suc (suc (suc (suc zero)))))))))))))))))))))))))))))))))))))))))))))))) height i e g = sound_at forms_heights 3 48 0 (instruction.Back 0 2 3) record { takes = omega arith; uses = tt; goes = tt } height i e g
forms_each t (suc (suc (suc (suc (suc (suc (suc (suc (suc (suc (suc (suc (suc (suc (suc (suc (suc (suc (suc (suc (suc (suc (suc (suc (suc (suc (suc (suc (suc (suc (suc (suc (suc (suc (suc (suc (suc (suc (suc (suc (suc (suc (suc (suc (suc (suc (suc (suc (suc place))))))))))))))))))))))))))))))))))))))))))))))))) height i e g = absurd (cc)

pub forms_sound : (t : Table) → Sound (code_of t forms_code) 3 forms_heights
forms_sound t = record { whole = refl; low = forms_low; each = forms_each t }
