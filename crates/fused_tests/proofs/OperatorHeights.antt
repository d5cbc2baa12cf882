-- The second code of the tests has right heights.
use Rattle.std.proofs.Common.{◌≡◌, ℕ, zero, suc, ◌≤◌, List, [], ◌∷◌, Option, Some, refl, arith}
use Rattle.std.specs.Prelude.{slice_get}
use Rattle.c_ints.specs.declared.kind.Kind.TheVariants.{I32, U32}
use Rattle.c_ints.specs.declared.operator.BinOp.TheVariants.{Sub, Mul, Rem, Shr, Xor, Ge, Ne}
use Rattle.resolved_tree.specs.Nodes.{Table}
use Rattle.bytecode.specs.Instructions.{Instruction}
use Rattle.bytecode.specs.Instructions as instruction
use Rattle.bytecode.specs.Seen.{code_of}
use Rattle.bytecode.specs.declared.instr.Instr.{Instr}
use Rattle.bytecode.specs.declared.instr.Instr.TheVariants as instr
use Rattle.bytecode.specs.declared.kind.ValueKind.TheVariants.{Number}
use Rattle.thread_state.specs.Frames.{most_words}
use Rattle.thread_state.specs.Heights.{HasHeight, IsSoundAt, Sound}
use Rattle.fused_tests.proofs.RightHeights.{low_height, sound_at}

abbrev operators_code : List Instr
operators_code = instr.Load 0 ∷ instr.Constant (Number I32) 3 ∷ instr.Binary Sub I32 ∷ instr.Load 1 ∷ instr.Binary Mul I32 ∷ instr.Constant (Number I32) 100 ∷ instr.Binary Rem I32 ∷ instr.Store 2 ∷ instr.Load 2 ∷ instr.Load 1 ∷ instr.Binary Sub U32 ∷ instr.Constant (Number I32) 5 ∷ instr.Binary Shr U32 ∷ instr.Load 0 ∷ instr.Binary Xor U32 ∷ instr.Store 0 ∷ instr.Load 0 ∷ instr.Constant (Number I32) 40 ∷ instr.Binary Ge I32 ∷ instr.JumpIfZero 1 ∷ instr.Back 0 1 3 ∷ instr.Load 1 ∷ instr.Load 2 ∷ instr.Binary Ne U32 ∷ instr.JumpIfZero 1 ∷ instr.Back 0 2 3 ∷ instr.Back 0 3 3 ∷ []

abbrev operators_heights : List (Option ℕ)
operators_heights = Some 0 ∷ Some 1 ∷ Some 2 ∷ Some 1 ∷ Some 2 ∷ Some 1 ∷ Some 2 ∷ Some 1 ∷ Some 0 ∷ Some 1 ∷ Some 2 ∷ Some 1 ∷ Some 2 ∷ Some 1 ∷ Some 2 ∷ Some 1 ∷ Some 0 ∷ Some 1 ∷ Some 2 ∷ Some 1 ∷ Some 0 ∷ Some 0 ∷ Some 1 ∷ Some 2 ∷ Some 1 ∷ Some 0 ∷ Some 0 ∷ []

operators_low : (place height : ℕ) → HasHeight operators_heights place height → height ≤ most_words
operators_low zero height e = low_height 0 height (omega arith) e
operators_low (suc zero) height e = low_height 1 height (omega arith) e
operators_low (suc (suc zero)) height e = low_height 2 height (omega arith) e
operators_low (suc (suc (suc zero))) height e = low_height 1 height (omega arith) e
operators_low (suc (suc (suc (suc zero)))) height e = low_height 2 height (omega arith) e
operators_low (suc (suc (suc (suc (suc zero))))) height e = low_height 1 height (omega arith) e
operators_low (suc (suc (suc (suc (suc (suc zero)))))) height e = low_height 2 height (omega arith) e
operators_low (suc (suc (suc (suc (suc (suc (suc zero))))))) height e = low_height 1 height (omega arith) e
operators_low (suc (suc (suc (suc (suc (suc (suc (suc zero)))))))) height e = low_height 0 height (omega arith) e
operators_low (suc (suc (suc (suc (suc (suc (suc (suc (suc zero))))))))) height e = low_height 1 height (omega arith) e
operators_low (suc (suc (suc (suc (suc (suc (suc (suc (suc (suc zero)))))))))) height e = low_height 2 height (omega arith) e
operators_low (suc (suc (suc (suc (suc (suc (suc (suc (suc (suc (suc zero))))))))))) height e = low_height 1 height (omega arith) e
operators_low (suc (suc (suc (suc (suc (suc (suc (suc (suc (suc (suc (suc zero)))))))))))) height e = low_height 2 height (omega arith) e
operators_low (suc (suc (suc (suc (suc (suc (suc (suc (suc (suc (suc (suc (suc zero))))))))))))) height e = low_height 1 height (omega arith) e
operators_low (suc (suc (suc (suc (suc (suc (suc (suc (suc (suc (suc (suc (suc (suc zero)))))))))))))) height e = low_height 2 height (omega arith) e
operators_low (suc (suc (suc (suc (suc (suc (suc (suc (suc (suc (suc (suc (suc (suc (suc zero))))))))))))))) height e = low_height 1 height (omega arith) e
operators_low (suc (suc (suc (suc (suc (suc (suc (suc (suc (suc (suc (suc (suc (suc (suc (suc zero)))))))))))))))) height e = low_height 0 height (omega arith) e
operators_low (suc (suc (suc (suc (suc (suc (suc (suc (suc (suc (suc (suc (suc (suc (suc (suc (suc zero))))))))))))))))) height e = low_height 1 height (omega arith) e
operators_low (suc (suc (suc (suc (suc (suc (suc (suc (suc (suc (suc (suc (suc (suc (suc (suc (suc (suc zero)))))))))))))))))) height e = low_height 2 height (omega arith) e
operators_low (suc (suc (suc (suc (suc (suc (suc (suc (suc (suc (suc (suc (suc (suc (suc (suc (suc (suc (suc zero))))))))))))))))))) height e = low_height 1 height (omega arith) e
operators_low (suc (suc (suc (suc (suc (suc (suc (suc (suc (suc (suc (suc (suc (suc (suc (suc (suc (suc (suc (suc zero)))))))))))))))))))) height e = low_height 0 height (omega arith) e
operators_low (suc (suc (suc (suc (suc (suc (suc (suc (suc (suc (suc (suc (suc (suc (suc (suc (suc (suc (suc (suc (suc zero))))))))))))))))))))) height e = low_height 0 height (omega arith) e
operators_low (suc (suc (suc (suc (suc (suc (suc (suc (suc (suc (suc (suc (suc (suc (suc (suc (suc (suc (suc (suc (suc (suc zero)))))))))))))))))))))) height e = low_height 1 height (omega arith) e
operators_low (suc (suc (suc (suc (suc (suc (suc (suc (suc (suc (suc (suc (suc (suc (suc (suc (suc (suc (suc (suc (suc (suc (suc zero))))))))))))))))))))))) height e = low_height 2 height (omega arith) e
operators_low (suc (suc (suc (suc (suc (suc (suc (suc (suc (suc (suc (suc (suc (suc (suc (suc (suc (suc (suc (suc (suc (suc (suc (suc zero)))))))))))))))))))))))) height e = low_height 1 height (omega arith) e
operators_low (suc (suc (suc (suc (suc (suc (suc (suc (suc (suc (suc (suc (suc (suc (suc (suc (suc (suc (suc (suc (suc (suc (suc (suc (suc zero))))))))))))))))))))))))) height e = low_height 0 height (omega arith) e
operators_low (suc (suc (suc (suc (suc (suc (suc (suc (suc (suc (suc (suc (suc (suc (suc (suc (suc (suc (suc (suc (suc (suc (suc (suc (suc (suc zero)))))))))))))))))))))))))) height e = low_height 0 height (omega arith) e
operators_low (suc (suc (suc (suc (suc (suc (suc (suc (suc (suc (suc (suc (suc (suc (suc (suc (suc (suc (suc (suc (suc (suc (suc (suc (suc (suc (suc place))))))))))))))))))))))))))) height e = absurd (cc)

operators_each : (t : Table) (place height : ℕ) (i : Instruction) → HasHeight operators_heights place height → slice_get (code_of t operators_code) place ≡ Some i → IsSoundAt operators_heights 3 i place height
operators_each t zero height i e g = sound_at operators_heights 3 0 0 (instruction.Load 0) record { takes = omega arith; uses = omega arith; goes = (refl, tt) } height i e g
operators_each t (suc zero) height i e g = sound_at operators_heights 3 1 1 (instruction.Constant (Number I32) 3) record { takes = omega arith; uses = tt; goes = (refl, tt) } height i e g
operators_each t (suc (suc zero)) height i e g = sound_at operators_heights 3 2 2 (instruction.Binary Sub I32) record { takes = omega arith; uses = tt; goes = (refl, tt) } height i e g
operators_each t (suc (suc (suc zero))) height i e g = sound_at operators_heights 3 3 1 (instruction.Load 1) record { takes = omega arith; uses = omega arith; goes = (refl, tt) } height i e g
operators_each t (suc (suc (suc (suc zero)))) height i e g = sound_at operators_heights 3 4 2 (instruction.Binary Mul I32) record { takes = omega arith; uses = tt; goes = (refl, tt) } height i e g
operators_each t (suc (suc (suc (suc (suc zero))))) height i e g = sound_at operators_heights 3 5 1 (instruction.Constant (Number I32) 100) record { takes = omega arith; uses = tt; goes = (refl, tt) } height i e g
operators_each t (suc (suc (suc (suc (suc (suc zero)))))) height i e g = sound_at operators_heights 3 6 2 (instruction.Binary Rem I32) record { takes = omega arith; uses = tt; goes = (refl, tt) } height i e g
operators_each t (suc (suc (suc (suc (suc (suc (suc zero))))))) height i e g = sound_at operators_heights 3 7 1 (instruction.Store 2) record { takes = omega arith; uses = omega arith; goes = (refl, tt) } height i e g
operators_each t (suc (suc (suc (suc (suc (suc (suc (suc zero)))))))) height i e g = sound_at operators_heights 3 8 0 (instruction.Load 2) record { takes = omega arith; uses = omega arith; goes = (refl, tt) } height i e g
operators_each t (suc (suc (suc (suc (suc (suc (suc (suc (suc zero))))))))) height i e g = sound_at operators_heights 3 9 1 (instruction.Load 1) record { takes = omega arith; uses = omega arith; goes = (refl, tt) } height i e g
operators_each t (suc (suc (suc (suc (suc (suc (suc (suc (suc (suc zero)))))))))) height i e g = sound_at operators_heights 3 10 2 (instruction.Binary Sub U32) record { takes = omega arith; uses = tt; goes = (refl, tt) } height i e g
operators_each t (suc (suc (suc (suc (suc (suc (suc (suc (suc (suc (suc zero))))))))))) height i e g = sound_at operators_heights 3 11 1 (instruction.Constant (Number I32) 5) record { takes = omega arith; uses = tt; goes = (refl, tt) } height i e g
operators_each t (suc (suc (suc (suc (suc (suc (suc (suc (suc (suc (suc (suc zero)))))))))))) height i e g = sound_at operators_heights 3 12 2 (instruction.Binary Shr U32) record { takes = omega arith; uses = tt; goes = (refl, tt) } height i e g
operators_each t (suc (suc (suc (suc (suc (suc (suc (suc (suc (suc (suc (suc (suc zero))))))))))))) height i e g = sound_at operators_heights 3 13 1 (instruction.Load 0) record { takes = omega arith; uses = omega arith; goes = (refl, tt) } height i e g
operators_each t (suc (suc (suc (suc (suc (suc (suc (suc (suc (suc (suc (suc (suc (suc zero)))))))))))))) height i e g = sound_at operators_heights 3 14 2 (instruction.Binary Xor U32) record { takes = omega arith; uses = tt; goes = (refl, tt) } height i e g
operators_each t (suc (suc (suc (suc (suc (suc (suc (suc (suc (suc (suc (suc (suc (suc (suc zero))))))))))))))) height i e g = sound_at operators_heights 3 15 1 (instruction.Store 0) record { takes = omega arith; uses = omega arith; goes = (refl, tt) } height i e g
operators_each t (suc (suc (suc (suc (suc (suc (suc (suc (suc (suc (suc (suc (suc (suc (suc (suc zero)))))))))))))))) height i e g = sound_at operators_heights 3 16 0 (instruction.Load 0) record { takes = omega arith; uses = omega arith; goes = (refl, tt) } height i e g
operators_each t (suc (suc (suc (suc (suc (suc (suc (suc (suc (suc (suc (suc (suc (suc (suc (suc (suc zero))))))))))))))))) height i e g = sound_at operators_heights 3 17 1 (instruction.Constant (Number I32) 40) record { takes = omega arith; uses = tt; goes = (refl, tt) } height i e g
operators_each t (suc (suc (suc (suc (suc (suc (suc (suc (suc (suc (suc (suc (suc (suc (suc (suc (suc (suc zero)))))))))))))))))) height i e g = sound_at operators_heights 3 18 2 (instruction.Binary Ge I32) record { takes = omega arith; uses = tt; goes = (refl, tt) } height i e g
operators_each t (suc (suc (suc (suc (suc (suc (suc (suc (suc (suc (suc (suc (suc (suc (suc (suc (suc (suc (suc zero))))))))))))))))))) height i e g = sound_at operators_heights 3 19 1 (instruction.JumpIfZero 1) record { takes = omega arith; uses = tt; goes = (refl, (refl, tt)) } height i e g
operators_each t (suc (suc (suc (suc (suc (suc (suc (suc (suc (suc (suc (suc (suc (suc (suc (suc (suc (suc (suc (suc zero)))))))))))))))))))) height i e g = sound_at operators_heights 3 20 0 (instruction.Back 0 1 3) record { takes = omega arith; uses = tt; goes = tt } height i e g
operators_each t (suc (suc (suc (suc (suc (suc (suc (suc (suc (suc (suc (suc (suc (suc (suc (suc (suc (suc (suc (suc (suc zero))))))))))))))))))))) height i e g = sound_at operators_heights 3 21 0 (instruction.Load 1) record { takes = omega arith; uses = omega arith; goes = (refl, tt) } height i e g
operators_each t (suc (suc (suc (suc (suc (suc (suc (suc (suc (suc (suc (suc (suc (suc (suc (suc (suc (suc (suc (suc (suc (suc zero)))))))))))))))))))))) height i e g = sound_at operators_heights 3 22 1 (instruction.Load 2) record { takes = omega arith; uses = omega arith; goes = (refl, tt) } height i e g
operators_each t (suc (suc (suc (suc (suc (suc (suc (suc (suc (suc (suc (suc (suc (suc (suc (suc (suc (suc (suc (suc (suc (suc (suc zero))))))))))))))))))))))) height i e g = sound_at operators_heights 3 23 2 (instruction.Binary Ne U32) record { takes = omega arith; uses = tt; goes = (refl, tt) } height i e g
operators_each t (suc (suc (suc (suc (suc (suc (suc (suc (suc (suc (suc (suc (suc (suc (suc (suc (suc (suc (suc (suc (suc (suc (suc (suc zero)))))))))))))))))))))))) height i e g = sound_at operators_heights 3 24 1 (instruction.JumpIfZero 1) record { takes = omega arith; uses = tt; goes = (refl, (refl, tt)) } height i e g
operators_each t (suc (suc (suc (suc (suc (suc (suc (suc (suc (suc (suc (suc (suc (suc (suc (suc (suc (suc (suc (suc (suc (suc (suc (suc (suc zero))))))))))))))))))))))))) height i e g = sound_at operators_heights 3 25 0 (instruction.Back 0 2 3) record { takes = omega arith; uses = tt; goes = tt } height i e g
operators_each t (suc (suc (suc (suc (suc (suc (suc (suc (suc (suc (suc (suc (suc (suc (suc (suc (suc (suc (suc (suc (suc (suc (suc (suc (suc (suc zero)))))))))))))))))))))))))) height i e g = sound_at operators_heights 3 26 0 (instruction.Back 0 3 3) record { takes = omega arith; uses = tt; goes = tt } height i e g
operators_each t (suc (suc (suc (suc (suc (suc (suc (suc (suc (suc (suc (suc (suc (suc (suc (suc (suc (suc (suc (suc (suc (suc (suc (suc (suc (suc (suc place))))))))))))))))))))))))))) height i e g = absurd (cc)

pub operators_sound : (t : Table) → Sound (code_of t operators_code) 3 operators_heights
operators_sound t = record { whole = refl; low = operators_low; each = operators_each t }
