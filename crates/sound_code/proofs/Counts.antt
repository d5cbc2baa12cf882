-- How many words instructions and stops take and leave, by what they make of shapes.
use Rattle.std.proofs.Common.{◌≡◌, ◌≢◌, ◌⊎◌, inl, inr, ℕ, zero, suc, ◌+◌, ◌-◌, ◌≤◌, ◌<◌, nat_le, nat_lt, nat_eq, Bool, true, false, ◌&&◌, List, [], ◌∷◌, ◌++◌, map, take, reverse, length, slice_get, Contains, Option, Some, None, option_map, option_and_then, IfSome, if◌then◌else◌, refl, sym, ap, ◌∙◌, subst, arith, length-append, length-take-le, leb-true, ltb-true, eqb-true}
use Rattle.std.proofs.lemmas.List.{length-map, length-reverse}
use Rattle.std.proofs.lemmas.Option.{slice_get_within}
use Rattle.std.proofs.lemmas.Bool.{false≢true}
use Rattle.c_ints.specs.declared.kind.Kind.{Kind}
use Rattle.c_format.specs.declared.reading.Reading.TheVariants.{Text}
use Rattle.c_format.specs.Formats.{kinds}
use Rattle.c_semantics.specs.Names.{struct_name}
use Rattle.c_semantics.specs.Texts.{Definitions, result_type}
use Rattle.c_semantics.specs.Stops.{Stop, ReadGlobal, WriteGlobal, ReadElement, WriteElement, ReadField, WriteField, New, Free, Print, InitMutex, Lock, Unlock, Spawn, Join, Call, Return, Begin, End, Update}
use Rattle.c_semantics.specs.Stops as stop
use Rattle.bytecode.specs.Instructions.{Instruction, Constant, Load, Store, Copy, CopyUnder, Swap, Drop, Convert, Unary, Binary, IsZero, IsNotZero, Same, Different, Jump, JumpIfZero, JumpUnlessZero, Halt, Back, CheckIn}
use Rattle.code_kinds.specs.declared.kind.WordKind.{WordKind}
use Rattle.code_kinds.specs.declared.kind.WordKind.TheVariants.{Integer, Handle, Thread}
use Rattle.code_kinds.specs.WordKinds.{word_kind, same_kind}
use Rattle.code_kinds.specs.StopKinds.{Words, after_stop, element_kind, field_kind, fields, integers, is_mutex, parameter_kinds, take_all, take_arguments, take_one, variable_kind}
use Rattle.code_kinds.specs.Shapes.{Due, Shape, after, constant_kind, keeps_kind, leads_to, same_check_in, stored, transactions_after}
use Rattle.code_verify.proofs.Below.{and_then_some, none_is_some, shape, some_is, truth}
use Rattle.code_verify.proofs.Lists.{both}
use Rattle.thread_state.specs.Heights.{height_after, successors, taken, variable_of}
use Rattle.sound_code.specs.StopWords.{height_after_stop, stop_leaves, stop_takes}

-- ---- options

pub map_some : {A B : Type 0} (f : A → B) (o : Option A) (y : B) → option_map f o ≡ Some y → (x : A) × (o ≡ Some x) × (f x ≡ y)
map_some f None y e = absurd (none_is_some e)
map_some f (Some x) y e = (x, refl, some_is e)

pub if_some : {A : Type 0} (b : Bool) (x y : A) → (if b then Some x else None) ≡ Some y → (b ≡ true) × (x ≡ y)
if_some true x y e = (refl, some_is e)
if_some false x y e = absurd (none_is_some e)

-- ---- private instructions

-- those that a burst executes
abbrev pub IsPrivate : Instruction → Type 0
IsPrivate (Halt stop n) = ⊥
IsPrivate (Back d n v) = ⊥
IsPrivate (CheckIn kind n) = ⊥
IsPrivate _ = Unit {0}

-- an instruction finds its words and its variable, and leaves as many words as the height after it; there is room for the
-- variables
pub record Counts (room : ℕ) (i : Instruction) (stack : Words) (left : Shape) : Type 0 where
  pub takes : taken i ≤ length stack
  pub leaves : IsPrivate i → length left.stack ≡ height_after i (length stack)
  pub uses : IfSome (variable_of i) (λ n. n < room)
  pub few : length left.variables ≤ room

as_is : {room : ℕ} {i : Instruction} {stack : Words} (t left : Shape) → Some t ≡ Some left → Counts room i stack t → Counts room i stack left
as_is {room} {i} {stack} t left e c = subst (λ (x : Shape). Counts room i stack x) (some_is e) c

keeps_within : (n : ℕ) (k : WordKind) (v : Words) → keeps_kind n k v ≡ true → n < length v
keeps_within n k [] e = absurd (false≢true e)
keeps_within zero k (j ∷ v) e = omega arith
keeps_within (suc n) k (j ∷ v) e = let h = keeps_within n k v e in omega (arith, h)

picked : (a b : Bool) (x y t : Words) → (if a then Some x else (if b then Some y else None)) ≡ Some t → ((a ≡ true) × (x ≡ t)) ⊎ ((b ≡ true) × (y ≡ t))
picked true b x y t e = inl (refl, some_is e)
picked false true x y t e = inr (refl, some_is e)
picked false false x y t e = absurd (none_is_some e)

one_more : (n : ℕ) (k : WordKind) (v : Words) → n ≤ length v → length (take n v ++ k ∷ []) ≡ suc n
one_more n k v h = let a = length-append (take n v) (k ∷ []) in let b = length-take-le n v h in omega (arith, a, b)

stored_fits : (room n : ℕ) (k : WordKind) (v x : Words) → length v ≤ room → stored room n k v ≡ Some x → (n < room) × (length x ≤ room)
stored_fits room n k v x few e =
    elim (picked (keeps_kind n k v) (nat_le n (length v) && nat_lt n room) v (take n v ++ k ∷ []) x e) [
      | inl h ↦ let inside = keeps_within n k v h.0 in (omega (arith, inside, few), subst (λ (y : Words). length y ≤ room) h.1 few)
      | inr h ↦
          let parts = both (nat_le n (length v)) (nat_lt n room) h.0 in
          let low = leb-true n (length v) parts.0 in
          let inside = ltb-true n room parts.1 in
          let long = one_more n k v low in
          (inside, subst (λ (y : Words). length y ≤ room) h.1 (omega (arith, inside, long)))
    ]

load_counts : (room m : ℕ) (stack v : Words) (n : ℕ) (left : Shape) → length v ≤ room
    → option_map (λ k. shape (k ∷ stack) v n None) (slice_get v m) ≡ Some left → Counts room (Load m) stack left
load_counts room m stack v n left few e =
    let x = map_some (λ k. shape (k ∷ stack) v n None) (slice_get v m) left e in
    let inside = slice_get_within v m x.0 x.1 in
    subst (λ (t : Shape). Counts room (Load m) stack t) x.2
    record { takes = omega arith; leaves = λ p. omega arith; uses = omega (arith, inside, few); few = few }

store_counts : (room m : ℕ) (k : WordKind) (stack v : Words) (n : ℕ) (left : Shape) → length v ≤ room
    → option_map (λ w. shape stack w n None) (stored room m k v) ≡ Some left → Counts room (Store m) (k ∷ stack) left
store_counts room m k stack v n left few e =
    let x = map_some (λ w. shape stack w n None) (stored room m k v) left e in
    let fits = stored_fits room m k v x.0 few x.1 in
    subst (λ (t : Shape). Counts room (Store m) (k ∷ stack) t) x.2
    record { takes = omega arith; leaves = λ p. omega arith; uses = fits.0; few = fits.1 }

constant_counts : (room : ℕ) (i : Instruction) (o : Option WordKind) (stack v : Words) (n : ℕ) (left : Shape) → length v ≤ room
    → taken i ≡ 0 → height_after i (length stack) ≡ suc (length stack) → variable_of i ≡ None
    → option_map (λ k. shape (k ∷ stack) v n None) o ≡ Some left → Counts room i stack left
constant_counts room i o stack v n left few none one unused e =
    let x = map_some (λ k. shape (k ∷ stack) v n None) o left e in
    subst (λ (t : Shape). Counts room i stack t) x.2
    record { takes = omega (arith, none); leaves = λ p. sym one; uses = subst (λ (m : Option ℕ). IfSome m (λ n. n < room)) (sym unused) tt; few = few }

if_counts : (room : ℕ) (i : Instruction) (b : Bool) (stack : Words) (t left : Shape) → Counts room i stack t
    → (if b then Some t else None) ≡ Some left → Counts room i stack left
if_counts room i b stack t left c e = let x = if_some b t left e in subst (λ (y : Shape). Counts room i stack y) x.1 c

halt_counts : (room : ℕ) (stop : Stop) (m : ℕ) (o : Option Words) (p : Option ℕ) (due : Option Due) (stack v : Words) (left : Shape) → length v ≤ room
    → option_and_then (λ stack. option_map (λ n. shape stack v n due) p) o ≡ Some left → Counts room (Halt stop m) stack left
halt_counts room stop m o p due stack v left few e =
    let x = and_then_some (λ stack. option_map (λ n. shape stack v n due) p) o left e in
    let y = map_some (λ n. shape x.0 v n due) p left x.2 in
    subst (λ (t : Shape). Counts room (Halt stop m) stack t) y.2
    record { takes = omega arith; leaves = λ h. absurd h; uses = tt; few = few }

due_counts : (look : Definitions) (result : WordKind) (room : ℕ) (i : Instruction) (stack v : Words) (n : ℕ) (due : Due) (left : Shape) → length v ≤ room
    → after look result room i (shape stack v n (Some due)) ≡ Some left → Counts room i stack left
due_counts look result room (CheckIn kind m) stack v n due left few e =
    if_counts room (CheckIn kind m) (same_check_in kind due.kind && nat_eq m due.number) stack (shape stack v n None) left
    record { takes = omega arith; leaves = λ p. absurd p; uses = tt; few = few } e
due_counts look result room _ stack v n due left few e = absurd (none_is_some e)

none_counts : (look : Definitions) (result : WordKind) (room : ℕ) (i : Instruction) (stack v : Words) (n : ℕ) (left : Shape) → length v ≤ room
    → after look result room i (shape stack v n None) ≡ Some left → Counts room i stack left
none_counts look result room (Constant kind w) stack v n left few e =
    constant_counts room (Constant kind w) (constant_kind kind w) stack v n left few refl (omega arith) refl e
none_counts look result room (Load m) stack v n left few e = load_counts room m stack v n left few e
none_counts look result room (Store m) [] v n left few e = absurd (none_is_some e)
none_counts look result room (Store m) (k ∷ stack) v n left few e = store_counts room m k stack v n left few e
none_counts look result room (Halt stop m) stack v n left few e =
    halt_counts room stop m (after_stop look result stop stack) (transactions_after stop n) _ stack v left few e
none_counts look result room Copy [] v n left few e = absurd (none_is_some e)
none_counts look result room Copy (x ∷ stack) v n left few e =
    as_is (shape (x ∷ x ∷ stack) v n None) left e record { takes = omega arith; leaves = λ p. omega arith; uses = tt; few = few }
none_counts look result room CopyUnder [] v n left few e = absurd (none_is_some e)
none_counts look result room CopyUnder (x ∷ []) v n left few e = absurd (none_is_some e)
none_counts look result room CopyUnder (y ∷ x ∷ stack) v n left few e =
    as_is (shape (y ∷ x ∷ y ∷ stack) v n None) left e record { takes = omega arith; leaves = λ p. omega arith; uses = tt; few = few }
none_counts look result room Swap [] v n left few e = absurd (none_is_some e)
none_counts look result room Swap (x ∷ []) v n left few e = absurd (none_is_some e)
none_counts look result room Swap (y ∷ x ∷ stack) v n left few e =
    as_is (shape (x ∷ y ∷ stack) v n None) left e record { takes = omega arith; leaves = λ p. omega arith; uses = tt; few = few }
none_counts look result room Drop [] v n left few e = absurd (none_is_some e)
none_counts look result room Drop (x ∷ stack) v n left few e =
    as_is (shape stack v n None) left e record { takes = omega arith; leaves = λ p. omega arith; uses = tt; few = few }
none_counts look result room (Convert k) [] v n left few e = absurd (none_is_some e)
none_counts look result room (Convert k) (Integer ∷ stack) v n left few e =
    as_is (shape (Integer ∷ stack) v n None) left e record { takes = omega arith; leaves = λ p. omega arith; uses = tt; few = few }
none_counts look result room (Convert k) (Handle ∷ stack) v n left few e = absurd (none_is_some e)
none_counts look result room (Convert k) (Thread ∷ stack) v n left few e = absurd (none_is_some e)
none_counts look result room (Unary op k) [] v n left few e = absurd (none_is_some e)
none_counts look result room (Unary op k) (Integer ∷ stack) v n left few e =
    as_is (shape (Integer ∷ stack) v n None) left e record { takes = omega arith; leaves = λ p. omega arith; uses = tt; few = few }
none_counts look result room (Unary op k) (Handle ∷ stack) v n left few e = absurd (none_is_some e)
none_counts look result room (Unary op k) (Thread ∷ stack) v n left few e = absurd (none_is_some e)
none_counts look result room (Binary op k) [] v n left few e = absurd (none_is_some e)
none_counts look result room (Binary op k) (Handle ∷ stack) v n left few e = absurd (none_is_some e)
none_counts look result room (Binary op k) (Thread ∷ stack) v n left few e = absurd (none_is_some e)
none_counts look result room (Binary op k) (Integer ∷ []) v n left few e = absurd (none_is_some e)
none_counts look result room (Binary op k) (Integer ∷ Integer ∷ stack) v n left few e =
    as_is (shape (Integer ∷ stack) v n None) left e record { takes = omega arith; leaves = λ p. omega arith; uses = tt; few = few }
none_counts look result room (Binary op k) (Integer ∷ Handle ∷ stack) v n left few e = absurd (none_is_some e)
none_counts look result room (Binary op k) (Integer ∷ Thread ∷ stack) v n left few e = absurd (none_is_some e)
none_counts look result room IsZero [] v n left few e = absurd (none_is_some e)
none_counts look result room IsZero (x ∷ stack) v n left few e =
    as_is (shape (Integer ∷ stack) v n None) left e record { takes = omega arith; leaves = λ p. omega arith; uses = tt; few = few }
none_counts look result room IsNotZero [] v n left few e = absurd (none_is_some e)
none_counts look result room IsNotZero (x ∷ stack) v n left few e =
    as_is (shape (Integer ∷ stack) v n None) left e record { takes = omega arith; leaves = λ p. omega arith; uses = tt; few = few }
none_counts look result room Same [] v n left few e = absurd (none_is_some e)
none_counts look result room Same (x ∷ []) v n left few e = absurd (none_is_some e)
none_counts look result room Same (y ∷ x ∷ stack) v n left few e =
    if_counts room Same (same_kind x y) (y ∷ x ∷ stack) (shape (Integer ∷ stack) v n None) left
    record { takes = omega arith; leaves = λ p. omega arith; uses = tt; few = few } e
none_counts look result room Different [] v n left few e = absurd (none_is_some e)
none_counts look result room Different (x ∷ []) v n left few e = absurd (none_is_some e)
none_counts look result room Different (y ∷ x ∷ stack) v n left few e =
    if_counts room Different (same_kind x y) (y ∷ x ∷ stack) (shape (Integer ∷ stack) v n None) left
    record { takes = omega arith; leaves = λ p. omega arith; uses = tt; few = few } e
none_counts look result room (Jump d) stack v n left few e =
    as_is (shape stack v n None) left e record { takes = omega arith; leaves = λ p. omega arith; uses = tt; few = few }
none_counts look result room (JumpIfZero d) [] v n left few e = absurd (none_is_some e)
none_counts look result room (JumpIfZero d) (x ∷ stack) v n left few e =
    as_is (shape stack v n None) left e record { takes = omega arith; leaves = λ p. omega arith; uses = tt; few = few }
none_counts look result room (JumpUnlessZero d) [] v n left few e = absurd (none_is_some e)
none_counts look result room (JumpUnlessZero d) (x ∷ stack) v n left few e =
    as_is (shape stack v n None) left e record { takes = omega arith; leaves = λ p. omega arith; uses = tt; few = few }
none_counts look result room (Back d m w) stack v n left few e =
    as_is (shape stack v n None) left e record { takes = omega arith; leaves = λ p. absurd p; uses = tt; few = few }
none_counts look result room (CheckIn kind m) stack v n left few e = absurd (none_is_some e)

by_due : (look : Definitions) (result : WordKind) (room : ℕ) (i : Instruction) (stack v : Words) (n : ℕ) (due : Option Due) (left : Shape) → length v ≤ room
    → after look result room i (shape stack v n due) ≡ Some left → Counts room i stack left
by_due look result room i stack v n (Some due) left few e = due_counts look result room i stack v n due left few e
by_due look result room i stack v n None left few e = none_counts look result room i stack v n left few e

pub counts : (look : Definitions) (result : WordKind) (room : ℕ) (i : Instruction) (s left : Shape) → length s.variables ≤ room
    → after look result room i s ≡ Some left → Counts room i s.stack left
counts look result room i s left few e = by_due look result room i s.stack s.variables s.transactions s.due left few e

-- ---- stops

-- words that were taken from a stack leave the others
abbrev Takes : ℕ → Words → (Words → Option Words) → Words → Type 0
Takes n stack go rest = (under : Words) × (length stack ≡ n + length under) × (go under ≡ Some rest)

took_one : (k : WordKind) (stack : Words) (go : Words → Option Words) (rest : Words) → take_one k stack go ≡ Some rest → Takes 1 stack go rest
took_one k [] go rest e = absurd (none_is_some e)
took_one k (j ∷ under) go rest e = by_test (same_kind k j) under go rest e
  where
    by_test : (b : Bool) (under : Words) (go : Words → Option Words) (rest : Words) → (if b then go under else None) ≡ Some rest
        → (x : Words) × (suc (length under) ≡ 1 + length x) × (go x ≡ Some rest)
    by_test true under go rest e = (under, omega arith, e)
    by_test false under go rest e = absurd (none_is_some e)

took_all : (ks stack : Words) (go : Words → Option Words) (rest : Words) → take_all ks stack go ≡ Some rest → Takes (length ks) stack go rest
took_all [] stack go rest e = (stack, omega arith, e)
took_all (k ∷ ks) stack go rest e =
    let x = took_one k stack (λ under. take_all ks under go) rest e in
    let y = took_all ks x.0 go rest x.2 in
    let first = x.1 in
    let others = y.1 in
    (y.0, omega (arith, first, others), y.2)

took_arguments : (n : ℕ) (ks stack : Words) (go : Words → Option Words) (rest : Words) → take_arguments n ks stack go ≡ Some rest → Takes n stack go rest
took_arguments n ks stack go rest e = by_test (nat_eq (length ks) n) refl e
  where
    by_test : (b : Bool) → nat_eq (length ks) n ≡ b → (if b then take_all (reverse ks) stack go else None) ≡ Some rest → Takes n stack go rest
    by_test false h e = absurd (none_is_some e)
    by_test true h e =
        let x = took_all (reverse ks) stack go rest e in
        let many = length-reverse ks in
        let same = eqb-true (length ks) n h in
        let first = x.1 in
        (x.0, omega (arith, many, same, first), x.2)

-- as many words as a stop takes were there, and as many as it leaves are there after it
pub record CountsStop (stop : Stop) (stack rest : Words) : Type 0 where
  pub takes : stop_takes stop ≤ length stack
  pub leaves : length rest ≡ height_after_stop stop (length stack)

-- a stop that takes so many words and leaves one
leaves_one : (stop : Stop) (n : ℕ) (k : WordKind) (stack under rest : Words) → stop_takes stop ≡ n → stop_leaves stop ≡ 1
    → length stack ≡ n + length under → Some (k ∷ under) ≡ Some rest → CountsStop stop stack rest
leaves_one stop n k stack under rest takes leaves many e =
    let after : suc (length under) ≡ length rest = ap length (some_is e) in
    record { takes = omega (arith, takes, many); leaves = omega (arith, takes, leaves, many, after) }

puts_one : (stop : Stop) (o : Option WordKind) (stack rest : Words) → stop_takes stop ≡ 0 → stop_leaves stop ≡ 1
    → option_map (λ k. k ∷ stack) o ≡ Some rest → CountsStop stop stack rest
puts_one stop o stack rest takes leaves e =
    let x = map_some (λ k. k ∷ stack) o rest e in
    leaves_one stop 0 x.0 stack stack rest takes leaves (omega arith) (ap Some x.2)

puts_if : (stop : Stop) (b : Bool) (stack rest : Words) → stop_takes stop ≡ 0 → stop_leaves stop ≡ 1
    → (if b then Some (Integer ∷ stack) else None) ≡ Some rest → CountsStop stop stack rest
puts_if stop b stack rest takes leaves e =
    let x = if_some b (Integer ∷ stack) rest e in
    leaves_one stop 0 Integer stack stack rest takes leaves (omega arith) (ap Some x.1)

takes_one : (stop : Stop) (k l : WordKind) (stack rest : Words) → stop_takes stop ≡ 1 → stop_leaves stop ≡ 1
    → take_one k stack (λ under. Some (l ∷ under)) ≡ Some rest → CountsStop stop stack rest
takes_one stop k l stack rest takes leaves e =
    let x = took_one k stack (λ under. Some (l ∷ under)) rest e in
    leaves_one stop 1 l stack x.0 rest takes leaves x.1 x.2

takes_two : (stop : Stop) (k j l : WordKind) (stack rest : Words) → stop_takes stop ≡ 2 → stop_leaves stop ≡ 1
    → take_one k stack (λ below. take_one j below (λ under. Some (l ∷ under))) ≡ Some rest → CountsStop stop stack rest
takes_two stop k j l stack rest takes leaves e =
    let x = took_one k stack (λ below. take_one j below (λ under. Some (l ∷ under))) rest e in
    let y = took_one j x.0 (λ under. Some (l ∷ under)) rest x.2 in
    let first = x.1 in
    let second = y.1 in
    leaves_one stop 2 l stack y.0 rest takes leaves (omega (arith, first, second)) y.2

takes_arguments : (stop : Stop) (n : ℕ) (ks : Words) (l : WordKind) (stack rest : Words) → stop_takes stop ≡ n → stop_leaves stop ≡ 1
    → take_arguments n ks stack (λ under. Some (l ∷ under)) ≡ Some rest → CountsStop stop stack rest
takes_arguments stop n ks l stack rest takes leaves e =
    let x = took_arguments n ks stack (λ under. Some (l ∷ under)) rest e in
    leaves_one stop n l stack x.0 rest takes leaves x.1 x.2

keeps_all : (stop : Stop) (stack rest : Words) → stop_takes stop ≡ 0 → stop_leaves stop ≡ 0 → Some stack ≡ Some rest → CountsStop stop stack rest
keeps_all stop stack rest takes leaves e =
    let same : length stack ≡ length rest = ap length (some_is e) in
    record { takes = omega (arith, takes); leaves = omega (arith, takes, leaves, same) }

pub counts_stop : (look : Definitions) (result : WordKind) (stop : Stop) (stack rest : Words) → after_stop look result stop stack ≡ Some rest
    → CountsStop stop stack rest
counts_stop look result (ReadGlobal name) stack rest e = puts_one (ReadGlobal name) (variable_kind (look name)) stack rest refl refl e
counts_stop look result (WriteGlobal name) stack rest e =
    let x = and_then_some (λ k. take_one k stack (λ under. Some (k ∷ under))) (variable_kind (look name)) rest e in
    takes_one (WriteGlobal name) x.0 x.0 stack rest refl refl x.2
counts_stop look result (ReadElement name) stack rest e =
    let x = and_then_some (λ k. take_one Integer stack (λ under. Some (k ∷ under))) (element_kind (look name)) rest e in
    takes_one (ReadElement name) Integer x.0 stack rest refl refl x.2
counts_stop look result (WriteElement name) stack rest e =
    let x = and_then_some (λ k. take_one k stack (λ below. take_one Integer below (λ under. Some (k ∷ under)))) (element_kind (look name)) rest e in
    takes_two (WriteElement name) x.0 Integer x.0 stack rest refl refl x.2
counts_stop look result (ReadField tag name) stack rest e =
    let x = and_then_some (λ k. take_one Handle stack (λ under. Some (k ∷ under))) (field_kind look tag name) rest e in
    takes_one (ReadField tag name) Handle x.0 stack rest refl refl x.2
counts_stop look result (WriteField tag name) stack rest e =
    let x = and_then_some (λ k. take_one k stack (λ below. take_one Handle below (λ under. Some (k ∷ under)))) (field_kind look tag name) rest e in
    takes_two (WriteField tag name) x.0 Handle x.0 stack rest refl refl x.2
counts_stop look result (New tag) stack rest e =
    let x = map_some (λ members. Handle ∷ stack) (fields (look (struct_name tag))) rest e in
    leaves_one (New tag) 0 Handle stack stack rest refl refl (omega arith) (ap Some x.2)
counts_stop look result (Free tag) stack rest e = takes_one (Free tag) Handle Integer stack rest refl refl e
counts_stop look result (Print format n) stack rest e =
    let x = and_then_some (λ ks. take_arguments n (integers ks) stack (λ under. Some (Integer ∷ under))) (kinds Text format) rest e in
    takes_arguments (Print format n) n (integers x.0) Integer stack rest refl refl x.2
counts_stop look result (InitMutex name) stack rest e = puts_if (InitMutex name) (is_mutex (look name)) stack rest refl refl e
counts_stop look result (Lock name) stack rest e = puts_if (Lock name) (is_mutex (look name)) stack rest refl refl e
counts_stop look result (Unlock name) stack rest e = puts_if (Unlock name) (is_mutex (look name)) stack rest refl refl e
counts_stop look result (Spawn name) stack rest e =
    let x = and_then_some (λ ks. take_arguments 1 ks stack (λ under. Some (Thread ∷ under))) (parameter_kinds (look name)) rest e in
    takes_arguments (Spawn name) 1 x.0 Thread stack rest refl refl x.2
counts_stop look result Join stack rest e = takes_one Join Thread Integer stack rest refl refl e
counts_stop look result (Call name n) stack rest e =
    let x = and_then_some (λ ks. take_arguments n ks stack (λ under. Some (word_kind (result_type (look name)) ∷ under))) (parameter_kinds (look name)) rest e in
    takes_arguments (Call name n) n x.0 (word_kind (result_type (look name))) stack rest refl refl x.2
counts_stop look result Return stack rest e =
    let x = took_one result stack (λ under. Some under) rest e in
    let many = x.1 in
    let same : length x.0 ≡ length rest = ap length (some_is x.2) in
    record { takes = omega (arith, many); leaves = omega (arith, many, same) }
counts_stop look result stop.Back stack rest e = absurd (none_is_some e)
counts_stop look result Begin stack rest e = keeps_all Begin stack rest refl refl e
counts_stop look result End stack rest e = keeps_all End stack rest refl refl e
counts_stop look result Update stack rest e = keeps_all Update stack rest refl refl e
