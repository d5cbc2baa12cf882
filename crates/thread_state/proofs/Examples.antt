-- Small codes, computed.
use Rattle.std.proofs.Common.{◌≡◌, [], ◌∷◌, List, refl}
use Rattle.c_ints.specs.declared.kind.Kind.TheVariants.{I32}
use Rattle.c_ints.specs.declared.operator.BinOp.TheVariants.{Sub}
use Rattle.run_types.specs.declared.trap.TrapKind.TheVariants.{Overflow}
use Rattle.bytecode.specs.Instructions.{Instruction, Load, Store, Binary, Back, JumpIfZero}
use Rattle.bytecode.specs.Meaning.{Rests, Runs, Traps, here, more, step}
use Rattle.thread_state.specs.Frames.{state_at}
use Rattle.thread_state.specs.Heights.{height_after, successors}

-- a frame with two variables amid other words, and with two words on its stack
in_words : state_at (9 ∷ 5 ∷ 7 ∷ 3 ∷ 4 ∷ 9 ∷ []) 1 2 0 2 ≡ record { place = 0; stack = 4 ∷ 3 ∷ []; locals = 5 ∷ 7 ∷ [] }
in_words = refl

-- a loop's turn up to its back edge: 5 - 7 is stored, with its sign on 64 bits
abbrev code : List Instruction
code = Load 0 ∷ Load 1 ∷ Binary Sub I32 ∷ Store 0 ∷ Load 1 ∷ JumpIfZero 0 ∷ Back 6 0 2 ∷ []

a_turn : Runs code (state_at (5 ∷ 7 ∷ 0 ∷ 0 ∷ []) 0 2 0 0) (state_at (18446744073709551614 ∷ 7 ∷ 7 ∷ 7 ∷ []) 0 2 6 0)
a_turn = more _ _ _ refl (more _ _ _ refl (more _ _ _ refl (more _ _ _ refl (more _ _ _ refl (more _ _ _ refl (here _))))))

rests_there : step code (state_at (18446744073709551614 ∷ 7 ∷ 7 ∷ 7 ∷ []) 0 2 6 0) ≡ Rests
rests_there = refl

-- an operator that traps
overflows : step code (state_at (0 ∷ 0 ∷ 18446744071562067968 ∷ 1 ∷ []) 0 2 2 2) ≡ Traps Overflow
overflows = refl

-- the heights after a test of a word: one less, at both places
after_a_test : successors (JumpIfZero 4) 5 ≡ 6 ∷ 10 ∷ []
after_a_test = refl

one_less : height_after (JumpIfZero 4) 3 ≡ 2
one_less = refl
