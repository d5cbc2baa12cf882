-- What instructions do with the words of values.
use Rattle.std.proofs.Common.{◌≡◌, ℕ, suc, ◌+◌, ◌%◌, ◌≤◌, ◌<◌, ◌^◌, ℤ, pos, negsuc, ◌+ℤ◌, ◌-ℤ◌, ◌*ℤ◌, neg_ℤ, ◌≤ℤ◌, ◌<ℤ◌, int_div, int_rem, unsigned_abs, bit_and, bit_or, bit_xor, Bool, true, false, IsTrue, List, [], ◌∷◌, length, slice_get, Option, Some, None, Result, Ok, Err, IfOk, refl, sym, ap, subst, ◌∙◌, arith}
use Rattle.std.specs.Prelude.{◌==◌, not, ◌&&◌, int_le, int_lt, if◌then◌else◌}
use Rattle.std.specs.Int.{int_div_euclid, is_negative}
use Rattle.std.proofs.lemmas.Int.{ints}
use Rattle.std.proofs.lemmas.Nat.{pow_pos}
use Rattle.c_ints.specs.declared.kind.Kind.{Kind}
use Rattle.c_ints.specs.declared.kind.Kind.TheVariants.{I8, U8, I16, U16, I32, U32, I64, U64}
use Rattle.c_ints.specs.declared.int.Int.{Int}
use Rattle.c_ints.specs.declared.operator.ArithTrap.{ArithTrap}
use Rattle.c_ints.specs.declared.operator.ArithTrap.TheVariants.{Overflow, Divide, Shift}
use Rattle.c_ints.specs.declared.operator.BinOp.{BinOp}
use Rattle.c_ints.specs.declared.operator.BinOp.TheVariants as binary
use Rattle.c_ints.specs.declared.operator.UnOp.{UnOp}
use Rattle.c_ints.specs.declared.operator.UnOp.TheVariants as unary
use Rattle.c_ints.specs.Kind.{InRange, common_kind, holds, is_signed, promoted, width}
use Rattle.c_ints.specs.Number.{converted, kind_of, number, reduced, residue, value_of}
use Rattle.c_ints.specs.Arithmetic.{balanced_value, binary_value, by_bits, is_count, is_shift, is_zero, operate, operate_on, power, settled, shift_value, truth, unary_value}
use Rattle.c_ints.proofs.Agreement.{held_range}
use Rattle.c_ints.proofs.Ranges.{Within, floor_range, promoted_range, remainder_range, within}
use Rattle.c_ints.proofs.Reduction.{kind_of-number, reduced_range, reduced_same, value_of-number}
use Rattle.run_types.specs.Trap.{trap_of}
use Rattle.c_tree.specs.BareExpr.{Bytes, BareType, Integer, Handle, Thread}
use Rattle.c_semantics.specs.Values.{Value, Number, Reference, Started, as_value, binary_result, compared, unary_result, converted_to, is_true, same_object, zero_of}
use Rattle.c_semantics.specs.Evaluation.{as_truth, creation}
use Rattle.typed_trees.specs.ValueTypes.{HasType}
use Rattle.typed_trees.specs.ExpressionTypes.{AreOperands, Becomes, IsOperand, IsScalar, is_equality}
use Rattle.typed_trees.proofs.ValuesOfTypes.{never}
use Rattle.bytecode.specs.declared.kind.ValueKind.TheVariants as value_kind
use Rattle.bytecode.specs.Words.{Naming, Distinguishes, integer_word, number_at, word_of}
use Rattle.bytecode.specs.Instructions.{Instruction, Constant, Convert, Copy, CopyUnder, Swap, Drop, IsZero, IsNotZero, Same, Different, Jump, JumpIfZero, JumpUnlessZero}
use Rattle.bytecode.specs.Instructions as instruction
use Rattle.bytecode.specs.Meaning.{State, Runs, here, more, Step, Goes, next, one, two, outcome, perform, perform_if, right_operand, step, truth_word}
use Rattle.tree_code.specs.Ranges.{Ranged, IsPlain}
use Rattle.tree_code.specs.Code.{Code, application, combination, comparison, constant_word, conversion, keeps_word, number_code, constant_code, kind_of_type, working_kind, zero_code}
use Rattle.tree_code.specs.CodedPieces.{HasAt, plain_word}
use Rattle.tree_code.specs.CodeLaws.{ComesToTrap, HasWords}
use Rattle.tree_code.proofs.WordValues.{no_zero, plain_is, same_words, true_word, word_back, word_kept, word_reduced, word_zero, zero_ranged, zero_word}

-- ---- runs

-- the same variables at another place with another stack
abbrev pub at_with : State → ℕ → List ℕ → State
at_with s p stack = record s { place = p; stack = stack }

pub runs_one : (code : Code) (s t : State) → step code s ≡ Goes t → Runs code s t
runs_one code s t e = more s t t e (here t)

pub runs_append : (code : Code) (a b c : State) → Runs code a b → Runs code b c → Runs code a c
runs_append code a b c (here s) q = q
runs_append code a b c (more s t u e r) q = more s t c e (runs_append code t u c r q)

-- the place after one instruction, and after none
pub after_one : (p : ℕ) → p + 1 ≡ suc p
after_one p = omega arith

pub after_none : (p : ℕ) → p + 0 ≡ p
after_none p = omega arith

-- the next instruction
performs : (code : Code) (i : Instruction) (s : State) → slice_get code s.place ≡ Some i → step code s ≡ perform i s
performs code i s at = ap (λ (o : Option Instruction). perform_if o s) at

one_step : (code : Code) (i : Instruction) (s : State) (ws : List ℕ) → slice_get code s.place ≡ Some i → perform i s ≡ next s ws
    → Runs code s (at_with s (suc s.place) ws)
one_step code i s ws at e = runs_one code s (at_with s (suc s.place) ws) (performs code i s at ∙ e)

one_on : (code : Code) (i : Instruction) (s : State) (ws : List ℕ) → slice_get code s.place ≡ Some i → perform i s ≡ next s ws
    → Runs code s (at_with s (s.place + 1) ws)
one_on code i s ws at e =
    subst (λ (p : ℕ). Runs code s (at_with s p ws)) (sym (after_one s.place)) (one_step code i s ws at e)

-- no instruction
none_on : (code : Code) (s : State) (ws : List ℕ) → s.stack ≡ ws → Runs code s (at_with s (s.place + 0) ws)
none_on code s ws e =
    subst (λ (l : List ℕ). Runs code s (at_with s (s.place + 0) l)) e
    (subst (λ (p : ℕ). Runs code s (at_with s p s.stack)) (sym (after_none s.place)) (here s))

-- the newest word, the two newest words
takes_one : (s : State) (w : ℕ) (ws : List ℕ) (k : ℕ → List ℕ → Step) → s.stack ≡ w ∷ ws → one s.stack k ≡ k w ws
takes_one s w ws k e = ap (λ (l : List ℕ). one l k) e

takes_two : (s : State) (b a : ℕ) (ws : List ℕ) (k : ℕ → ℕ → List ℕ → Step) → s.stack ≡ b ∷ a ∷ ws → two s.stack k ≡ k b a ws
takes_two s b a ws k e = ap (λ (l : List ℕ). two l k) e

-- ---- copies

pub copy_runs : (code : Code) (w : ℕ) (s : State) (ws : List ℕ) → s.stack ≡ w ∷ ws → slice_get code s.place ≡ Some Copy
    → Runs code s (at_with s (suc s.place) (w ∷ w ∷ ws))
copy_runs code w s ws e at = one_step code Copy s (w ∷ w ∷ ws) at (takes_one s w ws (λ a stack. next s (a ∷ a ∷ stack)) e)

pub copy_under_runs : (code : Code) (b a : ℕ) (s : State) (ws : List ℕ) → s.stack ≡ b ∷ a ∷ ws
    → slice_get code s.place ≡ Some CopyUnder → Runs code s (at_with s (suc s.place) (b ∷ a ∷ b ∷ ws))
copy_under_runs code b a s ws e at =
    one_step code CopyUnder s (b ∷ a ∷ b ∷ ws) at (takes_two s b a ws (λ b a stack. next s (b ∷ a ∷ b ∷ stack)) e)

pub swap_runs : (code : Code) (b a : ℕ) (s : State) (ws : List ℕ) → s.stack ≡ b ∷ a ∷ ws → slice_get code s.place ≡ Some Swap
    → Runs code s (at_with s (suc s.place) (a ∷ b ∷ ws))
swap_runs code b a s ws e at = one_step code Swap s (a ∷ b ∷ ws) at (takes_two s b a ws (λ b a stack. next s (a ∷ b ∷ stack)) e)

pub drop_runs : (code : Code) (w : ℕ) (s : State) (ws : List ℕ) → s.stack ≡ w ∷ ws → slice_get code s.place ≡ Some Drop
    → Runs code s (at_with s (suc s.place) ws)
drop_runs code w s ws e at = one_step code Drop s ws at (takes_one s w ws (λ a stack. next s stack) e)

-- ---- jumps

pub jump_runs : (code : Code) (d : ℕ) (s : State) → slice_get code s.place ≡ Some (Jump d)
    → Runs code s (at_with s (suc s.place + d) s.stack)
jump_runs code d s at = runs_one code s (at_with s (suc s.place + d) s.stack) (performs code (Jump d) s at)

-- a conditional jump by the newest word
if_zero : (code : Code) (d w : ℕ) (s : State) (ws : List ℕ) (b : Bool) → s.stack ≡ w ∷ ws → (w == 0) ≡ not b
    → slice_get code s.place ≡ Some (JumpIfZero d) → Runs code s (at_with s (if b then suc s.place else suc s.place + d) ws)
if_zero code d w s ws b e z at =
    runs_one code s (at_with s (if b then suc s.place else suc s.place + d) ws)
    (performs code (JumpIfZero d) s at ∙ takes_one s w ws (λ a stack. Goes (at_with s (if a == 0 then suc s.place + d else suc s.place) stack)) e
    ∙ ap (λ (x : Bool). Goes (at_with s (if x then suc s.place + d else suc s.place) ws)) z ∙ ap (λ (p : ℕ). Goes (at_with s p ws)) (turned b))
  where
    turned : (b : Bool) → (if not b then suc s.place + d else suc s.place) ≡ (if b then suc s.place else suc s.place + d)
    turned true = refl
    turned false = refl

unless_zero : (code : Code) (d w : ℕ) (s : State) (ws : List ℕ) (b : Bool) → s.stack ≡ w ∷ ws → (w == 0) ≡ not b
    → slice_get code s.place ≡ Some (JumpUnlessZero d) → Runs code s (at_with s (if b then suc s.place + d else suc s.place) ws)
unless_zero code d w s ws b e z at =
    runs_one code s (at_with s (if b then suc s.place + d else suc s.place) ws)
    (performs code (JumpUnlessZero d) s at ∙ takes_one s w ws (λ a stack. Goes (at_with s (if a == 0 then suc s.place else suc s.place + d) stack)) e
    ∙ ap (λ (x : Bool). Goes (at_with s (if x then suc s.place else suc s.place + d) ws)) z ∙ ap (λ (p : ℕ). Goes (at_with s p ws)) (turned b))
  where
    turned : (b : Bool) → (if not b then suc s.place else suc s.place + d) ≡ (if b then suc s.place + d else suc s.place)
    turned true = refl
    turned false = refl

-- the newest value is tested; where it is true, the first jump isn't taken, and the second is
pub jump_if_zero : (code : Code) (names : Naming) (tags : List Bytes) (t : BareType) (v : Value) (d : ℕ) (s : State) (ws : List ℕ)
    → IsScalar t → HasType tags t v → Ranged v → Distinguishes (length tags) names
    → s.stack ≡ word_of names v ∷ ws → slice_get code s.place ≡ Some (JumpIfZero d)
    → Runs code s (at_with s (if is_true v then suc s.place else suc s.place + d) ws)
jump_if_zero code names tags t v d s ws o h r apart e at =
    if_zero code d (word_of names v) s ws (is_true v) e (true_word names tags t v apart o h r) at

pub jump_unless_zero : (code : Code) (names : Naming) (tags : List Bytes) (t : BareType) (v : Value) (d : ℕ) (s : State) (ws : List ℕ)
    → IsScalar t → HasType tags t v → Ranged v → Distinguishes (length tags) names
    → s.stack ≡ word_of names v ∷ ws → slice_get code s.place ≡ Some (JumpUnlessZero d)
    → Runs code s (at_with s (if is_true v then suc s.place + d else suc s.place) ws)
jump_unless_zero code names tags t v d s ws o h r apart e at =
    unless_zero code d (word_of names v) s ws (is_true v) e (true_word names tags t v apart o h r) at

-- ---- truth

truth_is : (b : Bool) → truth_word b ≡ integer_word (value_of (truth b))
truth_is true = refl
truth_is false = refl

twice : (b : Bool) → not (not b) ≡ b
twice true = refl
twice false = refl

-- an instruction replaces the newest word by a truth
tests : (code : Code) (i : Instruction) (w : ℕ) (f : ℕ → Bool) (s : State) (ws : List ℕ) (b : Bool) → s.stack ≡ w ∷ ws → f w ≡ b
    → perform i s ≡ one s.stack (λ a stack. next s (truth_word (f a) ∷ stack)) → slice_get code s.place ≡ Some i
    → Runs code s (at_with s (s.place + 1) (integer_word (value_of (truth b)) ∷ ws))
tests code i w f s ws b e z is at =
    one_on code i s (integer_word (value_of (truth b)) ∷ ws) at
    (is ∙ takes_one s w ws (λ a stack. next s (truth_word (f a) ∷ stack)) e
    ∙ ap (λ (x : Bool). next s (truth_word x ∷ ws)) z ∙ ap (λ (v : ℕ). next s (v ∷ ws)) (truth_is b))

pub truth_runs : (code : Code) (names : Naming) (tags : List Bytes) (t : BareType) (v : Value) (s : State) (ws : List ℕ)
    → IsScalar t → HasType tags t v → Ranged v → Distinguishes (length tags) names
    → s.stack ≡ word_of names v ∷ ws → HasAt code s.place (IsNotZero ∷ [])
    → Runs code s (at_with s (s.place + 1) (word_of names (as_truth v) ∷ ws))
truth_runs code names tags t v s ws o h r apart e at =
    tests code IsNotZero (word_of names v) (λ a. not (a == 0)) s ws (is_true v) e
    (ap not (true_word names tags t v apart o h r) ∙ twice (is_true v)) refl at.0

pub created_runs : (code : Code) (names : Naming) (tags : List Bytes) (v : Value) (s : State) (ws : List ℕ)
    → HasType tags Thread v → Distinguishes (length tags) names
    → s.stack ≡ word_of names v ∷ ws → HasAt code s.place (IsZero ∷ [])
    → Runs code s (at_with s (s.place + 1) (word_of names (creation v) ∷ ws))
created_runs code names tags (Number n) s ws h apart e at = absurd h
created_runs code names tags (Reference object) s ws h apart e at = absurd h
created_runs code names tags (Started None) s ws h apart e at = tests code IsZero 0 (λ a. a == 0) s ws true e refl refl at.0
created_runs code names tags (Started (Some thread)) s ws h apart e at =
    tests code IsZero (names.thread thread) (λ a. a == 0) s ws false e (no_zero (names.thread thread) (apart.no_none thread)) refl at.0

-- ---- integers in range

-- an operator's value is in range
abbrev InIts : Result Int ArithTrap → Type 0
InIts r = IfOk r (λ z. InRange (kind_of z) (value_of z))

pub number_ranged : (k : Kind) (z : ℤ) → InRange k z → Ranged (Number (number k z))
number_ranged k z h =
    subst (λ (j : Kind). InRange j (value_of (number k z))) (sym (kind_of-number k z))
    (subst (λ (y : ℤ). InRange k y) (sym (value_of-number k z h)) h)

truth_in : (b : Bool) → Ranged (Number (truth b))
truth_in true = (omega (arith, ints), omega (arith, ints))
truth_in false = (omega (arith, ints), omega (arith, ints))

guarded : (b : Bool) (r : Result Int ArithTrap) (t : ArithTrap) → InIts r → InIts (if b then r else Err t)
guarded true r t h = h
guarded false r t h = tt

denied : (b : Bool) (r : Result Int ArithTrap) (t : ArithTrap) → InIts r → InIts (if b then Err t else r)
denied true r t h = tt
denied false r t h = h

settled_in : (k : Kind) (x : ℤ) → InIts (settled k x)
settled_in k x = by (is_signed k) (holds k x) refl
  where
    by : (s t : Bool) → holds k x ≡ t → InIts (if s then (if t then Ok (number k x) else Err Overflow) else Ok (number k (reduced k x)))
    by true true e = number_ranged k x (held_range k x e)
    by true false e = tt
    by false t e = number_ranged k (reduced k x) (reduced_range k x)

remainder_in : (k : Kind) (x y : ℤ) → InRange k x → InIts (operate binary.Rem k x y)
remainder_in k x y h =
    denied (is_zero y) _ Divide
    (guarded (holds k (int_div x y)) (Ok (number k (int_rem x y))) Overflow (number_ranged k (int_rem x y) (remainder_range k x y h)))

shifted_in : (k : Kind) (x y : ℤ) → InRange k x → InIts (operate binary.Shr k x y)
shifted_in k x y h =
    guarded (is_count k y) (Ok (number k (int_div_euclid x (power y)))) Shift
    (number_ranged k (int_div_euclid x (power y)) (floor_range k x (power y) (some (2 ^ unsigned_abs y) (pow_pos (unsigned_abs y))) h))
  where
    some : (m : ℕ) → 0 < m → pos 0 <ℤ pos m
    some m h = omega (arith, ints)

by_bits_in : (f : ℕ → ℕ → ℕ) (k : Kind) (x y : ℤ) → Ranged (Number (number k (by_bits f k x y)))
by_bits_in f k x y =
    number_ranged k (by_bits f k x y) (reduced_range k (pos (f (unsigned_abs (residue k x)) (unsigned_abs (residue k y)))))

operate_in : (op : BinOp) (k : Kind) (x y : ℤ) → InRange k x → InIts (operate op k x y)
operate_in binary.Add k x y h = settled_in k (x +ℤ y)
operate_in binary.Sub k x y h = settled_in k (x -ℤ y)
operate_in binary.Mul k x y h = settled_in k (x *ℤ y)
operate_in binary.Div k x y h = denied (is_zero y) (settled k (int_div x y)) Divide (settled_in k (int_div x y))
operate_in binary.Rem k x y h = remainder_in k x y h
operate_in binary.And k x y h = by_bits_in bit_and k x y
operate_in binary.Or k x y h = by_bits_in bit_or k x y
operate_in binary.Xor k x y h = by_bits_in bit_xor k x y
operate_in binary.Shl k x y h =
    guarded (is_count k y && not (is_negative x)) (settled k (x *ℤ power y)) Shift (settled_in k (x *ℤ power y))
operate_in binary.Shr k x y h = shifted_in k x y h
operate_in binary.Lt k x y h = truth_in (int_lt x y)
operate_in binary.Gt k x y h = truth_in (int_lt y x)
operate_in binary.Le k x y h = truth_in (int_le x y)
operate_in binary.Ge k x y h = truth_in (int_le y x)
operate_in binary.Eq k x y h = truth_in (is_zero (x -ℤ y))
operate_in binary.Ne k x y h = truth_in (not (is_zero (x -ℤ y)))

binary_in : (op : BinOp) (m n : Int) → Ranged (Number m) → InIts (binary_value op m n)
binary_in op m n h = by (is_shift op)
  where
    by : (b : Bool) → InIts (if b then shift_value op m n else balanced_value op m n)
    by true = operate_in op (promoted (kind_of m)) (value_of m) (value_of n) (promoted_range (kind_of m) (value_of m) h)
    by false =
        let k = common_kind (kind_of m) (kind_of n) in
        operate_in op k (reduced k (value_of m)) (reduced k (value_of n)) (reduced_range k (value_of m))

unary_in : (op : UnOp) (n : Int) → Ranged (Number n) → InIts (unary_value op n)
unary_in unary.Plus n h = number_ranged (promoted (kind_of n)) (value_of n) (promoted_range (kind_of n) (value_of n) h)
unary_in unary.Negate n h = settled_in (promoted (kind_of n)) (neg_ℤ (value_of n))
unary_in unary.Complement n h =
    let k = promoted (kind_of n) in
    let z = neg_ℤ (value_of n +ℤ pos 1) in number_ranged k (reduced k z) (reduced_range k z)
unary_in unary.Not n h = truth_in (is_zero (value_of n))

-- what is made so is in range
pub converted_ranged : (to : BareType) (v : Value) → Ranged (converted_to to v)
converted_ranged (Integer k) (Number n) = number_ranged k (reduced k (value_of n)) (reduced_range k (value_of n))
converted_ranged (Integer k) (Reference object) = zero_ranged (Integer k)
converted_ranged (Integer k) (Started thread) = zero_ranged (Integer k)
converted_ranged (Handle tag) (Number n) = tt
converted_ranged (Handle tag) (Reference object) = tt
converted_ranged (Handle tag) (Started thread) = tt
converted_ranged Thread (Number n) = tt
converted_ranged Thread (Reference object) = tt
converted_ranged Thread (Started thread) = tt

pub truth_ranged : (v : Value) → Ranged (as_truth v)
truth_ranged v = truth_in (is_true v)

pub creation_ranged : (v : Value) → Ranged (creation v)
creation_ranged (Number n) = truth_in true
creation_ranged (Reference object) = truth_in true
creation_ranged (Started None) = truth_in true
creation_ranged (Started (Some thread)) = truth_in false

-- ---- constants

constant_in : (n : Int) → constant_word n < 2 ^ 64 → Ranged (Number n)
constant_in n l = by (holds (kind_of n) (value_of n)) refl l
  where
    by : (b : Bool) → holds (kind_of n) (value_of n) ≡ b → (if b then integer_word (value_of n) else 2 ^ 64) < 2 ^ 64 → InRange (kind_of n) (value_of n)
    by true e l = held_range (kind_of n) (value_of n) e
    by false e l = absurd (omega arith)

constant_is : (n : Int) → constant_word n < 2 ^ 64 → constant_word n ≡ integer_word (value_of n)
constant_is n l = by (holds (kind_of n) (value_of n)) l
  where
    by : (b : Bool) → (if b then integer_word (value_of n) else 2 ^ 64) < 2 ^ 64 → (if b then integer_word (value_of n) else 2 ^ 64) ≡ integer_word (value_of n)
    by true l = refl
    by false l = absurd (omega arith)

-- a constant of code is in range
pub constant_ranged : (code : Code) (n : Int) (p : ℕ) → HasWords code → HasAt code p (number_code n ∷ []) → Ranged (Number n)
constant_ranged code n p words at = constant_in n (words p (value_kind.Number (kind_of n)) (constant_word n) at.0)

pub constant_runs : (code : Code) (names : Naming) (n : Int) (s : State) → HasWords code → HasAt code s.place (number_code n ∷ [])
    → Runs code s (at_with s (s.place + 1) (word_of names (Number n) ∷ s.stack))
constant_runs code names n s words at =
    one_on code (number_code n) s (integer_word (value_of n) ∷ s.stack) at.0
    (ap (λ (w : ℕ). next s (w ∷ s.stack)) (constant_is n (words s.place (value_kind.Number (kind_of n)) (constant_word n) at.0)))

-- a constant that is converted: an integer, or for a handle the null constant
pub converted_runs : (code : Code) (names : Naming) (to : BareType) (n : Int) (s : State) → HasAt code s.place (constant_code to n ∷ [])
    → Runs code s (at_with s (s.place + 1) (word_of names (converted_to to (Number n)) ∷ s.stack))
converted_runs code names (Integer k) n s at =
    one_on code (constant_code (Integer k) n) s (integer_word (value_of (number k (reduced k (value_of n)))) ∷ s.stack) at.0
    (ap (λ (z : ℤ). next s (integer_word z ∷ s.stack)) (sym (value_of-number k (reduced k (value_of n)) (reduced_range k (value_of n)))))
converted_runs code names (Handle tag) n s at = one_on code (constant_code (Handle tag) n) s (0 ∷ s.stack) at.0 refl
converted_runs code names Thread n s at = one_on code (constant_code Thread n) s (0 ∷ s.stack) at.0 refl

pub plain_runs : (code : Code) (names : Naming) (t : BareType) (v : Value) (s : State) → IsPlain t v
    → HasAt code s.place (Constant (kind_of_type t) (plain_word v) ∷ [])
    → Runs code s (at_with s (s.place + 1) (word_of names v ∷ s.stack))
plain_runs code names t v s h at =
    one_on code (Constant (kind_of_type t) (plain_word v)) s (word_of names v ∷ s.stack) at.0
    (ap (λ (w : ℕ). next s (w ∷ s.stack)) (sym (plain_is names t v h)))

-- zero, null, or no thread
pub zero_runs : (code : Code) (names : Naming) (t : BareType) (s : State) → HasAt code s.place (zero_code t ∷ [])
    → Runs code s (at_with s (s.place + 1) (word_of names (zero_of t) ∷ s.stack))
zero_runs code names t s at =
    one_on code (zero_code t) s (word_of names (zero_of t) ∷ s.stack) at.0
    (ap (λ (w : ℕ). next s (w ∷ s.stack)) (sym (zero_word names t)))

-- ---- conversions

-- the word of an integer that is converted
converted_word : (k : Kind) (n : Int) → integer_word (reduced k (value_of n)) ≡ integer_word (value_of (converted n k))
converted_word k n = ap integer_word (sym (value_of-number k (reduced k (value_of n)) (reduced_range k (value_of n))))

integer_runs : (code : Code) (k j : Kind) (n : Int) (s : State) (ws : List ℕ)
    → kind_of n ≡ j → Ranged (Number n) → s.stack ≡ integer_word (value_of n) ∷ ws → HasAt code s.place (conversion (Integer k) (Integer j))
    → Runs code s (at_with s (s.place + length (conversion (Integer k) (Integer j))) (integer_word (value_of (converted n k)) ∷ ws))
integer_runs code k j n s ws h r e at = by (keeps_word k j) refl at
  where
    by : (b : Bool) → keeps_word k j ≡ b → HasAt code s.place (if b then [] else Convert k ∷ [])
        → Runs code s (at_with s (s.place + length {A = Instruction} (if b then [] else Convert k ∷ [])) (integer_word (value_of (converted n k)) ∷ ws))
    by true d at =
        let inside : InRange j (value_of n) = subst (λ (i : Kind). InRange i (value_of n)) h r in
        none_on code s (integer_word (value_of (converted n k)) ∷ ws)
        (e ∙ ap (λ (w : ℕ). w ∷ ws) (sym (word_kept k j (value_of n) inside d) ∙ converted_word k n))
    by false d at =
        one_on code (Convert k) s (integer_word (value_of (converted n k)) ∷ ws) at.0
        (takes_one s (integer_word (value_of n)) ws (λ a stack. next s (integer_word (number_at k a) ∷ stack)) e
        ∙ ap (λ (w : ℕ). next s (w ∷ ws)) (word_reduced k (value_of n) ∙ converted_word k n))

pub conversion_runs : (code : Code) (names : Naming) (tags : List Bytes) (to t : BareType) (v : Value) (s : State) (ws : List ℕ)
    → Becomes to t → HasType tags t v → Ranged v → s.stack ≡ word_of names v ∷ ws → HasAt code s.place (conversion to t)
    → Runs code s (at_with s (s.place + length (conversion to t)) (word_of names (converted_to to v) ∷ ws))
conversion_runs code names tags (Integer k) (Integer j) (Number n) s ws o h r e at = integer_runs code k j n s ws h r e at
conversion_runs code names tags (Integer k) (Integer j) (Reference object) s ws o h r e at = absurd h
conversion_runs code names tags (Integer k) (Integer j) (Started thread) s ws o h r e at = absurd h
conversion_runs code names tags (Integer k) (Handle t) v s ws o h r e at = absurd o
conversion_runs code names tags (Integer k) Thread v s ws o h r e at = absurd o
conversion_runs code names tags (Handle a) (Integer j) v s ws o h r e at = absurd o
conversion_runs code names tags (Handle a) (Handle b) (Number n) s ws o h r e at = absurd h
conversion_runs code names tags (Handle a) (Handle b) (Reference object) s ws o h r e at = none_on code s (word_of names (Reference object) ∷ ws) e
conversion_runs code names tags (Handle a) (Handle b) (Started thread) s ws o h r e at = absurd h
conversion_runs code names tags (Handle a) Thread v s ws o h r e at = absurd o
conversion_runs code names tags Thread (Integer j) v s ws o h r e at = absurd o
conversion_runs code names tags Thread (Handle b) v s ws o h r e at = absurd o
conversion_runs code names tags Thread Thread (Number n) s ws o h r e at = absurd h
conversion_runs code names tags Thread Thread (Reference object) s ws o h r e at = absurd h
conversion_runs code names tags Thread Thread (Started thread) s ws o h r e at = none_on code s (word_of names (Started thread) ∷ ws) e

-- ---- operators

-- an operator comes to its value, whose word is the newest, at a place; or to its trap
pub data Settled (code : Code) (names : Naming) (r : Result Value ArithTrap) (s : State) (p : ℕ) (ws : List ℕ) : Type 0 where
  settles : (v : Value) → r ≡ Ok v → Ranged v → Runs code s (at_with s p (word_of names v ∷ ws)) → Settled code names r s p ws
  traps : (trap : ArithTrap) → r ≡ Err trap → ComesToTrap code (trap_of trap) s → Settled code names r s p ws

outcome_settles : (code : Code) (names : Naming) (s : State) (ws : List ℕ) (r : Result Int ArithTrap) → InIts r
    → step code s ≡ outcome r (λ w. next s (w ∷ ws)) → Settled code names (as_value r) s (s.place + 1) ws
outcome_settles code names s ws (Ok n) h e =
    settles (Number n) refl h
    (subst (λ (p : ℕ). Runs code s (at_with s p (integer_word (value_of n) ∷ ws))) (sym (after_one s.place))
    (runs_one code s (at_with s (suc s.place) (integer_word (value_of n) ∷ ws)) e))
outcome_settles code names s ws (Err trap) h e = traps trap refl (record { to = s; runs = here s; traps = e })

-- a unary operator of an integer
unary_settles : (code : Code) (names : Naming) (op : UnOp) (k : Kind) (n : Int) (s : State) (ws : List ℕ) → kind_of n ≡ k
    → Ranged (Number n) → s.stack ≡ integer_word (value_of n) ∷ ws → slice_get code s.place ≡ Some (instruction.Unary op (promoted k))
    → Settled code names (as_value (unary_value op n)) s (s.place + 1) ws
unary_settles code names op k n s ws h r e at =
    let w = promoted (kind_of n) in
    let here_at : slice_get code s.place ≡ Some (instruction.Unary op w) =
    subst (λ (k : Kind). slice_get code s.place ≡ Some (instruction.Unary op (promoted k))) (sym h) at in
    let same : number_at w (integer_word (value_of n)) ≡ value_of n =
    word_back w (value_of n) ∙ reduced_same w (value_of n) (promoted_range (kind_of n) (value_of n) r) in
    outcome_settles code names s ws (unary_value op n) (unary_in op n r)
    (performs code (instruction.Unary op w) s here_at
    ∙ takes_one s (integer_word (value_of n)) ws (λ a stack. outcome (operate_on op w (number_at w a)) (λ x. next s (x ∷ stack))) e
    ∙ ap (λ (z : ℤ). outcome (operate_on op w z) (λ x. next s (x ∷ ws))) same)

-- `!`
not_settles : (code : Code) (names : Naming) (w : ℕ) (b : Bool) (s : State) (ws : List ℕ) → s.stack ≡ w ∷ ws → (w == 0) ≡ b
    → slice_get code s.place ≡ Some IsZero → Settled code names (Ok (Number (truth b))) s (s.place + 1) ws
not_settles code names w b s ws e z at =
    settles (Number (truth b)) refl (truth_in b) (tests code IsZero w (λ a. a == 0) s ws b e z refl at)

plus_settles : (code : Code) (names : Naming) (n : Int) (s : State) (ws : List ℕ) → Ranged (Number n)
    → s.stack ≡ integer_word (value_of n) ∷ ws → Settled code names (as_value (unary_value unary.Plus n)) s (s.place + 0) ws
plus_settles code names n s ws r e =
    let k = promoted (kind_of n) in
    let inside : InRange k (value_of n) = promoted_range (kind_of n) (value_of n) r in
    settles (Number (number k (value_of n))) refl (number_ranged k (value_of n) inside)
    (none_on code s (integer_word (value_of (number k (value_of n))) ∷ ws)
    (e ∙ ap (λ (z : ℤ). integer_word z ∷ ws) (sym (value_of-number k (value_of n) inside))))

pub application_runs : (code : Code) (names : Naming) (tags : List Bytes) (op : UnOp) (t : BareType) (v : Value) (s : State) (ws : List ℕ)
    → IsOperand op t → HasType tags t v → Ranged v → Distinguishes (length tags) names
    → s.stack ≡ word_of names v ∷ ws → HasAt code s.place (application op t)
    → Settled code names (unary_result op v) s (s.place + length (application op t)) ws
application_runs code names tags unary.Plus (Integer k) (Number n) s ws o h r apart e at = plus_settles code names n s ws r e
application_runs code names tags unary.Negate (Integer k) (Number n) s ws o h r apart e at = unary_settles code names unary.Negate k n s ws h r e at.0
application_runs code names tags unary.Complement (Integer k) (Number n) s ws o h r apart e at = unary_settles code names unary.Complement k n s ws h r e at.0
application_runs code names tags unary.Not (Integer k) (Number n) s ws o h r apart e at =
    not_settles code names (integer_word (value_of n)) (is_zero (value_of n)) s ws e (word_zero (kind_of n) (value_of n) r) at.0
application_runs code names tags op (Integer k) (Reference object) s ws o h r apart e at = absurd h
application_runs code names tags op (Integer k) (Started thread) s ws o h r apart e at = absurd h
application_runs code names tags op (Handle tag) (Number n) s ws o h r apart e at = absurd h
application_runs code names tags unary.Plus (Handle tag) (Reference object) s ws o h r apart e at = absurd o
application_runs code names tags unary.Negate (Handle tag) (Reference object) s ws o h r apart e at = absurd o
application_runs code names tags unary.Complement (Handle tag) (Reference object) s ws o h r apart e at = absurd o
application_runs code names tags unary.Not (Handle tag) (Reference object) s ws o h r apart e at =
    not_settles code names (word_of names (Reference object)) (not (is_true (Reference object))) s ws e
    (true_word names tags (Handle tag) (Reference object) apart tt h tt) at.0
application_runs code names tags op (Handle tag) (Started thread) s ws o h r apart e at = absurd h
application_runs code names tags unary.Plus Thread v s ws o h r apart e at = absurd o
application_runs code names tags unary.Negate Thread v s ws o h r apart e at = absurd o
application_runs code names tags unary.Complement Thread v s ws o h r apart e at = absurd o
application_runs code names tags unary.Not Thread v s ws o h r apart e at = absurd o

-- ---- binary operators

width_most : (k : Kind) → width k ≤ 64
width_most I8 = omega arith
width_most U8 = omega arith
width_most I16 = omega arith
width_most U16 = omega arith
width_most I32 = omega arith
width_most U32 = omega arith
width_most I64 = omega arith
width_most U64 = omega arith

no_less : (a b : ℕ) → b ≤ a → int_lt (pos a) (pos b) ≡ false
no_less a b h = grind (arith, ints)

-- the word of a negative count is no count either
no_count : (k : Kind) (n : ℕ) → n ≤ 9223372036854775807 → is_count k (pos (integer_word (negsuc n))) ≡ false
no_count k n h =
    let most : width k ≤ 64 = width_most k in
    neither (not (is_negative (pos (integer_word (negsuc n))))) (no_less (integer_word (negsuc n)) (width k) (omega arith))
  where
    neither : (a : Bool) {b : Bool} → b ≡ false → (a && b) ≡ false
    neither true e = e
    neither false e = refl

-- a shift by a count's word
shift_same : (op : BinOp) (k : Kind) (x y : ℤ) → is_shift op ≡ true → Within y → operate op k x (pos (integer_word y)) ≡ operate op k x y
shift_same op k x (pos n) d h =
    let top : pos n ≤ℤ pos 18446744073709551615 = h.high in
    let same : n % 18446744073709551616 ≡ n = omega (arith, ints) in
    ap (λ (c : ℕ). operate op k x (pos c)) same
shift_same op k x (negsuc n) d h = by op d
  where
    few : n ≤ 9223372036854775807
    few = let bottom : negsuc 9223372036854775807 ≤ℤ negsuc n = h.low in omega (arith, ints)

    by : (op : BinOp) → is_shift op ≡ true → operate op k x (pos (integer_word (negsuc n))) ≡ operate op k x (negsuc n)
    by binary.Shl d =
        ap (λ (b : Bool). if b && not (is_negative x) then settled k (x *ℤ power (pos (integer_word (negsuc n)))) else Err Shift) (no_count k n few)
    by binary.Shr d =
        ap (λ (b : Bool). if b then Ok (number k (int_div_euclid x (power (pos (integer_word (negsuc n)))))) else Err Shift) (no_count k n few)
    by _ d = absurd (never d)

-- an operator on the words of two integers gives what it gives on them
worked : (op : BinOp) (m n : Int) → Ranged (Number m) → Ranged (Number n)
    → operate op (working_kind op (kind_of m) (kind_of n)) (number_at (working_kind op (kind_of m) (kind_of n)) (integer_word (value_of m)))
    (right_operand op (working_kind op (kind_of m) (kind_of n)) (integer_word (value_of n))) ≡ binary_value op m n
worked op m n q r = by (is_shift op) refl
  where
    by : (b : Bool) → is_shift op ≡ b
        → operate op (if b then promoted (kind_of m) else common_kind (kind_of m) (kind_of n)) (number_at (if b then promoted (kind_of m) else common_kind (kind_of m) (kind_of n)) (integer_word (value_of m))) (if b then pos (integer_word (value_of n)) else number_at (if b then promoted (kind_of m) else common_kind (kind_of m) (kind_of n)) (integer_word (value_of n)))
        ≡ (if b then shift_value op m n else balanced_value op m n)
    by true d =
        let p = promoted (kind_of m) in
        ap (λ (z : ℤ). operate op p z (pos (integer_word (value_of n)))) (word_back p (value_of m) ∙ reduced_same p (value_of m) (promoted_range (kind_of m) (value_of m) q))
        ∙ shift_same op p (value_of m) (value_of n) d (within (kind_of n) (value_of n) r)
    by false d =
        let c = common_kind (kind_of m) (kind_of n) in
        ap (λ (z : ℤ). operate op c z (number_at c (integer_word (value_of n)))) (word_back c (value_of m))
        ∙ ap (λ (z : ℤ). operate op c (reduced c (value_of m)) z) (word_back c (value_of n))

binary_settles : (code : Code) (names : Naming) (op : BinOp) (j k : Kind) (m n : Int) (s : State) (ws : List ℕ) → kind_of m ≡ j → kind_of n ≡ k
    → Ranged (Number m) → Ranged (Number n) → s.stack ≡ integer_word (value_of n) ∷ integer_word (value_of m) ∷ ws
    → slice_get code s.place ≡ Some (instruction.Binary op (working_kind op j k))
    → Settled code names (as_value (binary_value op m n)) s (s.place + 1) ws
binary_settles code names op j k m n s ws g h q r e at =
    let w = working_kind op (kind_of m) (kind_of n) in
    let here_at : slice_get code s.place ≡ Some (instruction.Binary op w) =
    subst (λ (j : Kind). slice_get code s.place ≡ Some (instruction.Binary op (working_kind op j (kind_of n)))) (sym g)
    (subst (λ (k : Kind). slice_get code s.place ≡ Some (instruction.Binary op (working_kind op j k))) (sym h) at) in
    outcome_settles code names s ws (binary_value op m n) (binary_in op m n q)
    (performs code (instruction.Binary op w) s here_at
    ∙ takes_two s (integer_word (value_of n)) (integer_word (value_of m)) ws
    (λ b a stack. outcome (operate op w (number_at w a) (right_operand op w b)) (λ x. next s (x ∷ stack))) e
    ∙ ap (λ (o : Result Int ArithTrap). outcome o (λ x. next s (x ∷ ws))) (worked op m n q r))

-- a comparison of two words
compares : (code : Code) (names : Naming) (i : Instruction) (b a : ℕ) (f : ℕ → ℕ → Bool) (s : State) (ws : List ℕ) (t : Bool)
    → s.stack ≡ b ∷ a ∷ ws → f b a ≡ t → perform i s ≡ two s.stack (λ b a stack. next s (truth_word (f b a) ∷ stack))
    → slice_get code s.place ≡ Some i → Settled code names (Ok (Number (truth t))) s (s.place + 1) ws
compares code names i b a f s ws t e z is at =
    settles (Number (truth t)) refl (truth_in t)
    (one_on code i s (integer_word (value_of (truth t)) ∷ ws) at
    (is ∙ takes_two s b a ws (λ b a stack. next s (truth_word (f b a) ∷ stack)) e
    ∙ ap (λ (x : Bool). next s (truth_word x ∷ ws)) z ∙ ap (λ (v : ℕ). next s (v ∷ ws)) (truth_is t)))

handles_settle : (code : Code) (names : Naming) (tags : List Bytes) (op : BinOp) (tag : Bytes) (a b : Option ℕ) (s : State) (ws : List ℕ)
    → IsTrue (is_equality op) → HasType tags (Handle tag) (Reference a) → HasType tags (Handle tag) (Reference b) → Distinguishes (length tags) names
    → s.stack ≡ word_of names (Reference b) ∷ word_of names (Reference a) ∷ ws → slice_get code s.place ≡ Some (comparison op)
    → Settled code names (Ok (compared op a b)) s (s.place + 1) ws
handles_settle code names tags binary.Eq tag a b s ws o g h apart e at =
    compares code names Same (word_of names (Reference b)) (word_of names (Reference a)) (λ b a. a == b) s ws (same_object a b) e
    (same_words names tags tag a b apart g h) refl at
handles_settle code names tags binary.Ne tag a b s ws o g h apart e at =
    compares code names Different (word_of names (Reference b)) (word_of names (Reference a)) (λ b a. not (a == b)) s ws (not (same_object a b)) e
    (ap not (same_words names tags tag a b apart g h)) refl at
handles_settle code names tags _ tag a b s ws o g h apart e at = absurd (never o)

pub combination_runs : (code : Code) (names : Naming) (tags : List Bytes) (op : BinOp) (t u : BareType) (a b : Value) (s : State) (ws : List ℕ)
    → AreOperands op t u → HasType tags t a → HasType tags u b → Ranged a → Ranged b → Distinguishes (length tags) names
    → s.stack ≡ word_of names b ∷ word_of names a ∷ ws → HasAt code s.place (combination op t u ∷ [])
    → Settled code names (binary_result op a b) s (s.place + 1) ws
combination_runs code names tags op (Integer j) (Integer k) (Number m) (Number n) s ws o g h q r apart e at = binary_settles code names op j k m n s ws g h q r e at.0
combination_runs code names tags op (Integer j) (Integer k) (Number m) (Reference b) s ws o g h q r apart e at = absurd h
combination_runs code names tags op (Integer j) (Integer k) (Number m) (Started b) s ws o g h q r apart e at = absurd h
combination_runs code names tags op (Integer j) (Integer k) (Reference a) b s ws o g h q r apart e at = absurd g
combination_runs code names tags op (Integer j) (Integer k) (Started a) b s ws o g h q r apart e at = absurd g
combination_runs code names tags op (Handle t) (Handle u) (Reference a) (Reference b) s ws o g h q r apart e at =
    handles_settle code names tags op t a b s ws o.0 g (subst (λ (x : Bytes). HasType tags (Handle x) (Reference b)) (sym o.1) h) apart e at.0
combination_runs code names tags op (Handle t) (Handle u) (Reference a) (Number n) s ws o g h q r apart e at = absurd h
combination_runs code names tags op (Handle t) (Handle u) (Reference a) (Started b) s ws o g h q r apart e at = absurd h
combination_runs code names tags op (Handle t) (Handle u) (Number m) b s ws o g h q r apart e at = absurd g
combination_runs code names tags op (Handle t) (Handle u) (Started a) b s ws o g h q r apart e at = absurd g
combination_runs code names tags op (Integer j) (Handle u) a b s ws o g h q r apart e at = absurd o
combination_runs code names tags op (Integer j) Thread a b s ws o g h q r apart e at = absurd o
combination_runs code names tags op (Handle t) (Integer k) a b s ws o g h q r apart e at = absurd o
combination_runs code names tags op (Handle t) Thread a b s ws o g h q r apart e at = absurd o
combination_runs code names tags op Thread u a b s ws o g h q r apart e at = absurd o
