-- The code of small trees, and what it does.
use Rattle.std.proofs.Common.{◌≡◌, ℕ, zero, suc, ◌<◌, List, [], ◌∷◌, Some, None, pos, arith, refl}
use Rattle.std.specs.Prelude.{codes}
use Rattle.c_ints.specs.declared.kind.Kind.TheVariants.{I8, I32, I64}
use Rattle.c_ints.specs.declared.int.Int.TheVariants.{I8 as int8}
use Rattle.c_ints.specs.declared.operator.BinOp.TheVariants.{Add, Shl, Lt, Eq}
use Rattle.c_ints.specs.declared.operator.UnOp.TheVariants.{Not}
use Rattle.c_ints.specs.Number.{number}
use Rattle.run_types.specs.CheckIns as check_in
use Rattle.run_types.specs.declared.trap.TrapKind.TheVariants as trap
use Rattle.c_tree.specs.BareExpr.{Bytes, BareType, Integer, Handle}
use Rattle.c_tree.specs.BareDef.{BareBinding, Global}
use Rattle.c_semantics.specs.Texts.{Definitions, definition, int}
use Rattle.c_semantics.specs.Resolved.{Expression, Statement, NoStatements, StatementThen}
use Rattle.c_semantics.specs.Resolved as tree
use Rattle.c_semantics.specs.Stops as stop
use Rattle.typed_trees.specs.ValueTypes.{Environment}
use Rattle.bytecode.specs.declared.kind.ValueKind.TheVariants as value_kind
use Rattle.bytecode.specs.Instructions.{Instruction, Constant, Load, Store, Copy, Drop, Convert, Binary, IsNotZero, Same, Jump, JumpIfZero, JumpUnlessZero, Halt, Back, CheckIn}
use Rattle.bytecode.specs.Meaning.{State, Step, Goes, Traps, Rests, Lost, step}
use Rattle.tree_code.specs.Code.{Code, body_code, effect, number_code, statement, value}
use Rattle.tree_code.specs.CodeLaws.{HasWords}

abbrev bound : BareType → Bytes → BareBinding
bound type name = record { declared = type; name = name }

-- int total;  and in scope: int i; char c; struct node *p;
abbrev look : Definitions
look = definition (Global (record { declared = int; name = codes "total"; initial = None }) ∷ [])

abbrev env : Environment
env = (bound (Handle (codes "node")) (codes "p") ∷ bound (Integer I8) (codes "c") ∷ bound int (codes "i") ∷ []) ∷ []

abbrev i : Expression
i = tree.Read (tree.Local (codes "i"))

abbrev c : Expression
c = tree.Read (tree.Local (codes "c"))

abbrev p : Expression
p = tree.Read (tree.Local (codes "p"))

abbrev constant : ℕ → Expression
constant n = tree.Constant (number I32 (pos n))

abbrev int_word : ℕ → Instruction
int_word w = Constant (value_kind.Number I32) w

-- so many instructions one after another
abbrev further : Step → (State → Step) → Step
further (Goes s) k = k s
further end k = end

abbrev after : ℕ → Code → State → Step
after zero code s = Goes s
after (suc n) code s = further (step code s) (after n code)

-- from a place with an empty stack, and from the beginning
abbrev at : ℕ → List ℕ → State
at place locals = record { place = place; stack = []; locals = locals }

-- ---- expressions

-- c + 1 is an int; the sum traps where it is none
sum : value look env (tree.Binary Add c (constant 1)) 1 ≡ Load 1 ∷ int_word 1 ∷ Binary Add I32 ∷ []
sum = refl

sum_is : after 3 (value look env (tree.Binary Add i (constant 1)) 1) (at 0 (41 ∷ 0 ∷ 0 ∷ []))
    ≡ Goes (record { place = 3; stack = 42 ∷ []; locals = 41 ∷ 0 ∷ 0 ∷ [] })
sum_is = refl

sum_traps : after 3 (value look env (tree.Binary Add i (constant 1)) 1) (at 0 (2147483647 ∷ 0 ∷ 0 ∷ [])) ≡ Traps trap.Overflow
sum_traps = refl

-- a shift by -1
shift_traps : step (Binary Shl I32 ∷ []) (record { place = 0; stack = 18446744073709551615 ∷ 1 ∷ []; locals = [] }) ≡ Traps trap.Shift
shift_traps = refl

-- an int that becomes a long has the same word, and one that becomes a char hasn't; a constant is converted before
widened : value look env (tree.Convert (Integer I64) i) 1 ≡ Load 0 ∷ []
widened = refl

narrowed : value look env (tree.Convert (Integer I8) i) 1 ≡ Load 0 ∷ Convert I8 ∷ []
narrowed = refl

converted_constant : value look env (tree.Convert (Integer I8) (constant 255)) 1
    ≡ Constant (value_kind.Number I8) 18446744073709551615 ∷ []
converted_constant = refl

-- p == 0
null_compared : value look env (tree.Binary Eq (tree.Convert (Handle (codes "node")) p) (tree.Convert (Handle (codes "node")) (constant 0))) 1
    ≡ Load 2 ∷ Constant value_kind.Handle 0 ∷ Same ∷ []
null_compared = refl

-- i && p is 1 where both are true; where i is 0, p isn't read
both : value look env (tree.And i p) 1
    ≡ Load 0 ∷ JumpIfZero 3 ∷ Load 2 ∷ IsNotZero ∷ Jump 1 ∷ int_word 0 ∷ []
both = refl

both_true : after 5 (value look env (tree.And i p) 1) (at 0 (7 ∷ 0 ∷ 3 ∷ []))
    ≡ Goes (record { place = 6; stack = 1 ∷ []; locals = 7 ∷ 0 ∷ 3 ∷ [] })
both_true = refl

first_false : after 3 (value look env (tree.And i p) 1) (at 0 (0 ∷ 0 ∷ 3 ∷ []))
    ≡ Goes (record { place = 6; stack = 0 ∷ []; locals = 0 ∷ 0 ∷ 3 ∷ [] })
first_false = refl

-- c++ gives the old value, and steps as a char; as a statement it gives none
stepped : value look env (tree.Postfix (Integer I8) Add (tree.Local (codes "c"))) 1
    ≡ Load 1 ∷ Copy ∷ int_word 1 ∷ Binary Add I32 ∷ Convert I8 ∷ Store 1 ∷ []
stepped = refl

steps_round : after 6 (value look env (tree.Postfix (Integer I8) Add (tree.Local (codes "c"))) 1) (at 0 (0 ∷ 127 ∷ 0 ∷ []))
    ≡ Goes (record { place = 6; stack = 127 ∷ []; locals = 0 ∷ 18446744073709551488 ∷ 0 ∷ [] })
steps_round = refl

step_only : effect look env (tree.Postfix (Integer I8) Add (tree.Local (codes "c"))) 1
    ≡ Load 1 ∷ int_word 1 ∷ Binary Add I32 ∷ Convert I8 ∷ Store 1 ∷ []
step_only = refl

-- total += i; stops at a read and at a write, which are the points 1 and 2
total_added : effect look env (tree.Update int Add (tree.Global (codes "total")) i) 1
    ≡ Halt (stop.ReadGlobal (codes "total")) 1 ∷ Load 0 ∷ Binary Add I32 ∷ Halt (stop.WriteGlobal (codes "total")) 2 ∷ Drop ∷ []
total_added = refl

-- an integer that is out of the range of its kind has no word
no_word : HasWords (number_code (int8 (pos 300)) ∷ []) → ⊥
no_word words = none (words 0 (value_kind.Number I8) 18446744073709551616 refl)
  where
    none : 18446744073709551616 < 18446744073709551616 → ⊥
    none h = omega arith

-- ---- statements

-- if (!c) i++;
unless : statement look env (tree.If (tree.Unary Not c) (tree.Evaluate (tree.Postfix int Add (tree.Local (codes "i"))))) 1 0 0
    ≡ Load 1 ∷ JumpUnlessZero 4 ∷ Load 0 ∷ int_word 1 ∷ Binary Add I32 ∷ Store 0 ∷ []
unless = refl

-- while (i < 10) i++;
abbrev counting : Statement
counting = tree.While (tree.Binary Lt i (constant 10)) (tree.Evaluate (tree.Postfix int Add (tree.Local (codes "i"))))

counting_code : statement look env counting 1 0 0
    ≡ Load 0 ∷ int_word 10 ∷ Binary Lt I32 ∷ JumpIfZero 5 ∷ Load 0 ∷ int_word 1 ∷ Binary Add I32 ∷ Store 0 ∷ Back 8 1 3 ∷ []
counting_code = refl

-- a turn rests at the back edge, and the last test ends the loop
counts : after 9 (statement look env counting 1 0 0) (at 0 (4 ∷ 0 ∷ 0 ∷ [])) ≡ Rests
counts = refl

counted : after 8 (statement look env counting 1 0 0) (at 0 (4 ∷ 0 ∷ 0 ∷ [])) ≡ Goes (at 8 (5 ∷ 0 ∷ 0 ∷ []))
counted = refl

count_ends : after 4 (statement look env counting 1 0 0) (at 0 (10 ∷ 0 ∷ 0 ∷ [])) ≡ Goes (at 9 (10 ∷ 0 ∷ 0 ∷ []))
count_ends = refl

-- for (i = 0; i < 3; i++) { if (c) continue; if (i) break; }
abbrev leaving : Statement
leaving =
    tree.For (StatementThen (tree.Evaluate (tree.Assign (tree.Local (codes "i")) (constant 0))) NoStatements)
    (Some (tree.Binary Lt i (constant 3))) (Some (tree.Postfix int Add (tree.Local (codes "i"))))
    (tree.Block (StatementThen (tree.If c tree.Continue) (StatementThen (tree.If i tree.Break) NoStatements)))

leaving_code : statement look env leaving 1 0 0
    ≡ int_word 0 ∷ Store 0
    ∷ Load 0 ∷ int_word 3 ∷ Binary Lt I32 ∷ JumpIfZero 11
    ∷ Load 1 ∷ JumpIfZero 1 ∷ Jump 3
    ∷ Load 0 ∷ JumpIfZero 1 ∷ Jump 5
    ∷ Load 0 ∷ int_word 1 ∷ Binary Add I32 ∷ Store 0
    ∷ Back 14 1 3 ∷ []
leaving_code = refl

-- through the body, by a `continue` to the step, by a `break` to the end
through : after 14 (statement look env leaving 1 0 0) (at 0 (9 ∷ 0 ∷ 0 ∷ [])) ≡ Goes (at 16 (1 ∷ 0 ∷ 0 ∷ []))
through = refl

continued : after 13 (statement look env leaving 1 0 0) (at 0 (9 ∷ 1 ∷ 0 ∷ [])) ≡ Goes (at 16 (1 ∷ 1 ∷ 0 ∷ []))
continued = refl

broken : after 9 (statement look env leaving 1 0 0) (at 2 (1 ∷ 0 ∷ 0 ∷ [])) ≡ Goes (at 17 (1 ∷ 0 ∷ 0 ∷ []))
broken = refl

-- ---- functions

-- int f(int i) { return i; }
whole : body_code look (bound int (codes "i") ∷ []) int (StatementThen (tree.Return i) NoStatements)
    ≡ CheckIn check_in.Entry 0 ∷ Load 0 ∷ Halt stop.Return 1 ∷ int_word 0 ∷ Halt stop.Return 2 ∷ []
whole = refl

-- there is nothing after the end
past_the_end : step (int_word 0 ∷ []) (at 1 []) ≡ Lost
past_the_end = refl
