-- Shapes with fewer variables, and what instructions make of them.
use Rattle.std.proofs.Common.{◌≡◌, ◌⊎◌, inl, inr, ℕ, zero, suc, ◌≤◌, nat_le, nat_lt, Bool, true, false, ◌&&◌, List, [], ◌∷◌, ◌++◌, take, length, slice_get, Option, Some, None, option_map, option_and_then, if◌then◌else◌, refl, sym, ap, ◌∙◌, subst, arith, append-nil, append_assoc, length-append, le-leb, leb-true, nat_eq}
use Rattle.std.proofs.lemmas.Bool.{false≢true}
use Rattle.c_semantics.specs.Texts.{Definitions}
use Rattle.bytecode.specs.Instructions.{Instruction, Constant, Load, Store, Copy, CopyUnder, Swap, Drop, Convert, Unary, Binary, IsZero, IsNotZero, Same, Different, Jump, JumpIfZero, JumpUnlessZero, Halt, Back, CheckIn}
use Rattle.code_kinds.specs.declared.kind.WordKind.{WordKind}
use Rattle.code_kinds.specs.declared.kind.WordKind.TheVariants.{Integer, Handle, Thread}
use Rattle.code_kinds.specs.WordKinds.{same_kind}
use Rattle.code_kinds.specs.StopKinds.{Words, after_stop}
use Rattle.code_kinds.specs.Shapes.{Due, Shape, constant_kind, keeps_kind, stored, transactions_after, same_check_in, after_due, after}
use Rattle.code_verify.specs.Meeting.{common, same_words, same_due, alike, with_variables, meet, cut, met}
use Rattle.code_verify.proofs.Lists.{and_true, both, same_kind_is, same_words_self, same_words_is, same_number_self, same_due_self, same_due_is, common_first, common_second, common_append, take_front, take_rest, length_take, get_front}

-- a shape is another one without the variables that were declared last
pub record Below (t s : Shape) : Type 0 where
  pub forgotten : Words
  pub is : s ≡ with_variables (t.variables ++ forgotten) t

pub same_shape : (a b : Shape) → a.stack ≡ b.stack → a.variables ≡ b.variables → a.transactions ≡ b.transactions → a.due ≡ b.due → a ≡ b
same_shape a b p q r d = λ i. record { stack = p i; variables = q i; transactions = r i; due = d i }

pub some_is : {A : Type 0} {a b : A} → Some a ≡ Some b → a ≡ b
some_is e = cc

pub none_is_some : {A : Type 0} {a : A} → None ≡ Some a → ⊥
none_is_some e = cc

pub and_then_some : {A B : Type 0} (f : A → Option B) (o : Option A) (y : B) → option_and_then f o ≡ Some y → (x : A) × (o ≡ Some x) × (f x ≡ Some y)
and_then_some f None y e = absurd (none_is_some e)
and_then_some f (Some x) y e = (x, refl, e)

pub same_below : (t s : Shape) → s ≡ t → Below t s
same_below t s e = record { forgotten = []; is = e ∙ ap (λ w. with_variables w t) (sym (append-nil t.variables)) }

pub below_itself : (s : Shape) → Below s s
below_itself s = same_below s s refl

pub below_below : (a b c : Shape) → Below a b → Below b c → Below a c
below_below a b c h k = record {
  forgotten = h.forgotten ++ k.forgotten;
  is = k.is
      ∙ ap (λ (x : Shape). with_variables (x.variables ++ k.forgotten) x) h.is
      ∙ ap (λ w. with_variables w a) (append_assoc a.variables h.forgotten k.forgotten);
}

-- ---- instructions

abbrev pub shape : Words → Words → ℕ → Option Due → Shape
shape stack variables transactions due = record { stack = stack; variables = variables; transactions = transactions; due = due }

abbrev pick : Bool → Bool → Words → Words → Option Words
pick a b x y = if a then Some x else (if b then Some y else None)

pick_is : (a b : Bool) (x y t : Words) → pick a b x y ≡ Some t → ((a ≡ true) × (t ≡ x)) ⊎ ((a ≡ false) × (b ≡ true) × (t ≡ y))
pick_is true b x y t e = inl (refl, sym (some_is e))
pick_is false true x y t e = inr (refl, refl, sym (some_is e))
pick_is false false x y t e = absurd (none_is_some e)

first_picked : (a b : Bool) (x y : Words) → a ≡ true → pick a b x y ≡ Some x
first_picked a b x y e = ap (λ a. pick a b x y) e

second_picked : (a b : Bool) (x y : Words) → a ≡ false → b ≡ true → pick a b x y ≡ Some y
second_picked a b x y e f = ap (λ a. pick a b x y) e ∙ ap (λ b. pick false b x y) f

pub truth : (b : Bool) → (b ≡ true) ⊎ (b ≡ false)
truth true = inl refl
truth false = inr refl

keeps_front : (n : ℕ) (k : WordKind) (t f : Words) → keeps_kind n k t ≡ true → keeps_kind n k (t ++ f) ≡ true
keeps_front n k [] f e = absurd (false≢true e)
keeps_front zero k (a ∷ t) f e = e
keeps_front (suc n) k (a ∷ t) f e = keeps_front n k t f e

-- a word is of the kind that the first variable has that was declared after those
next_kept : (n : ℕ) (k : WordKind) (t f : Words) → n ≤ length t → keeps_kind n k t ≡ false → keeps_kind n k (t ++ f) ≡ true
    → (g : Words) × (t ++ f ≡ (take n t ++ k ∷ []) ++ g)
next_kept zero k [] [] h e d = absurd (false≢true d)
next_kept zero k [] (j ∷ f) h e d = (f, ap (λ x. x ∷ f) (sym (same_kind_is k j d)))
next_kept (suc n) k [] f h e d = absurd (omega (arith, h))
next_kept zero k (a ∷ t) f h e d = absurd (false≢true (sym e ∙ d))
next_kept (suc n) k (a ∷ t) f h e d =
    let x = next_kept n k t f (omega (arith, h)) e d in (x.0, ap (λ y. a ∷ y) x.1)

take_before : (n : ℕ) (t f : Words) → n ≤ length t → take n (t ++ f) ≡ take n t
take_before zero t f h = refl
take_before (suc n) [] f h = absurd (omega (arith, h))
take_before (suc n) (a ∷ t) f h = ap (λ x. a ∷ x) (take_before n t f (omega (arith, h)))

stored_wider : (room n : ℕ) (k : WordKind) (v f t : Words) → stored room n k v ≡ Some t → (g : Words) × (stored room n k (v ++ f) ≡ Some (t ++ g))
stored_wider room n k v f t e =
    let w = v ++ f in
    let fits : Words → Bool = λ x. nat_le n (length x) && nat_lt n room in
    let put : Words → Words = λ x. take n x ++ k ∷ [] in
    elim (pick_is (keeps_kind n k v) (fits v) v (put v) t e) [
      | inl h ↦ (f, first_picked (keeps_kind n k w) (fits w) w (put w) (keeps_front n k v f h.0) ∙ ap (λ x. Some (x ++ f)) (sym h.1))
      | inr h ↦
          let parts = both (nat_le n (length v)) (nat_lt n room) h.1 in
          let short : n ≤ length v = leb-true n (length v) parts.0 in
          let long : nat_le n (length w) ≡ true = le-leb n (length w) (omega (arith, short, length-append v f)) in
          elim (truth (keeps_kind n k w)) [
            | inl d ↦
                let x = next_kept n k v f short h.0 d in
                (x.0, first_picked (keeps_kind n k w) (fits w) w (put w) d ∙ ap Some (x.1 ∙ ap (λ y. y ++ x.0) (sym h.2)))
            | inr d ↦ (
              [],
              second_picked (keeps_kind n k w) (fits w) w (put w) d (and_true (nat_le n (length w)) (nat_lt n room) long parts.1)
                  ∙ ap Some (ap (λ x. x ++ k ∷ []) (take_before n v f short) ∙ sym h.2 ∙ sym (append-nil t)),
            )
          ]
    ]

-- what doesn't look at the variables doesn't change them
from_plain : (F : Words → Option Shape) (v f : Words) (t : Shape) → ((a b : Words) → F b ≡ option_map (with_variables b) (F a)) → F v ≡ Some t
    → (g : Words) × (F (v ++ f) ≡ Some (with_variables (t.variables ++ g) t))
from_plain F v f t plain e =
    let same : t ≡ with_variables v t = some_is (sym e ∙ plain v v ∙ ap (option_map (with_variables v)) e) in
    (f, plain v (v ++ f) ∙ ap (option_map (with_variables (v ++ f))) e ∙ ap (λ x. Some (with_variables (x ++ f) t)) (sym (ap (λ (x : Shape). x.variables) same)))

abbrev IsPlain : Instruction → Type 0
IsPlain (Load n) = ⊥
IsPlain (Store n) = ⊥
IsPlain _ = Unit {0}

halt_plain : (o : Option Words) (m : Option ℕ) (due : Option Due) (a b : Words)
    → option_and_then (λ stack. option_map (λ n. shape stack b n due) m) o
    ≡ option_map (with_variables b) (option_and_then (λ stack. option_map (λ n. shape stack a n due) m) o)
halt_plain None m due a b = refl
halt_plain (Some stack) None due a b = refl
halt_plain (Some stack) (Some n) due a b = refl

constant_plain : (o : Option WordKind) (stack : Words) (n : ℕ) (a b : Words)
    → option_map (λ k. shape (k ∷ stack) b n None) o ≡ option_map (with_variables b) (option_map (λ k. shape (k ∷ stack) a n None) o)
constant_plain None stack n a b = refl
constant_plain (Some k) stack n a b = refl

if_plain : (t : Bool) (stack : Words) (n : ℕ) (a b : Words)
    → (if t then Some (shape stack b n None) else None) ≡ option_map (with_variables b) (if t then Some (shape stack a n None) else None)
if_plain true stack n a b = refl
if_plain false stack n a b = refl

due_plain : (look : Definitions) (result : WordKind) (room : ℕ) (due : Due) (i : Instruction) (stack : Words) (n : ℕ) (a b : Words)
    → after look result room i (shape stack b n (Some due)) ≡ option_map (with_variables b) (after look result room i (shape stack a n (Some due)))
due_plain look result room due (CheckIn kind m) stack n a b =
    if_plain (same_check_in kind due.kind && nat_eq m due.number) stack n a b
due_plain look result room due _ stack n a b = refl

plain : (look : Definitions) (result : WordKind) (room : ℕ) (i : Instruction) (stack : Words) (n : ℕ) (a b : Words) → IsPlain i
    → after look result room i (shape stack b n None) ≡ option_map (with_variables b) (after look result room i (shape stack a n None))
plain look result room (Load m) stack n a b h = absurd h
plain look result room (Store m) stack n a b h = absurd h
plain look result room (Constant kind w) stack n a b h = constant_plain (constant_kind kind w) stack n a b
plain look result room (Halt stop m) stack n a b h =
    halt_plain (after_stop look result stop stack) (transactions_after stop n) _ a b
plain look result room Copy [] n a b h = refl
plain look result room Copy (x ∷ stack) n a b h = refl
plain look result room CopyUnder [] n a b h = refl
plain look result room CopyUnder (x ∷ []) n a b h = refl
plain look result room CopyUnder (y ∷ x ∷ stack) n a b h = refl
plain look result room Swap [] n a b h = refl
plain look result room Swap (x ∷ []) n a b h = refl
plain look result room Swap (y ∷ x ∷ stack) n a b h = refl
plain look result room Drop [] n a b h = refl
plain look result room Drop (x ∷ stack) n a b h = refl
plain look result room (Convert k) [] n a b h = refl
plain look result room (Convert k) (Integer ∷ stack) n a b h = refl
plain look result room (Convert k) (Handle ∷ stack) n a b h = refl
plain look result room (Convert k) (Thread ∷ stack) n a b h = refl
plain look result room (Unary op k) [] n a b h = refl
plain look result room (Unary op k) (Integer ∷ stack) n a b h = refl
plain look result room (Unary op k) (Handle ∷ stack) n a b h = refl
plain look result room (Unary op k) (Thread ∷ stack) n a b h = refl
plain look result room (Binary op k) [] n a b h = refl
plain look result room (Binary op k) (Handle ∷ stack) n a b h = refl
plain look result room (Binary op k) (Thread ∷ stack) n a b h = refl
plain look result room (Binary op k) (Integer ∷ []) n a b h = refl
plain look result room (Binary op k) (Integer ∷ Integer ∷ stack) n a b h = refl
plain look result room (Binary op k) (Integer ∷ Handle ∷ stack) n a b h = refl
plain look result room (Binary op k) (Integer ∷ Thread ∷ stack) n a b h = refl
plain look result room IsZero [] n a b h = refl
plain look result room IsZero (x ∷ stack) n a b h = refl
plain look result room IsNotZero [] n a b h = refl
plain look result room IsNotZero (x ∷ stack) n a b h = refl
plain look result room Same [] n a b h = refl
plain look result room Same (x ∷ []) n a b h = refl
plain look result room Same (y ∷ x ∷ stack) n a b h = if_plain (same_kind x y) (Integer ∷ stack) n a b
plain look result room Different [] n a b h = refl
plain look result room Different (x ∷ []) n a b h = refl
plain look result room Different (y ∷ x ∷ stack) n a b h = if_plain (same_kind x y) (Integer ∷ stack) n a b
plain look result room (Jump d) stack n a b h = refl
plain look result room (JumpIfZero d) [] n a b h = refl
plain look result room (JumpIfZero d) (x ∷ stack) n a b h = refl
plain look result room (JumpUnlessZero d) [] n a b h = refl
plain look result room (JumpUnlessZero d) (x ∷ stack) n a b h = refl
plain look result room (Back d m v) stack n a b h = refl
plain look result room (CheckIn kind m) stack n a b h = refl

abbrev Widens : Definitions → WordKind → ℕ → Instruction → Words → Words → ℕ → Option Due → Words → Shape → Type 0
Widens look result room i stack v n due f t =
    (g : Words) × (after look result room i (shape stack (v ++ f) n due) ≡ Some (with_variables (t.variables ++ g) t))

load_wider : (o p : Option WordKind) (stack v f : Words) (n : ℕ) (t : Shape) → ((k : WordKind) → o ≡ Some k → p ≡ Some k)
    → option_map (λ k. shape (k ∷ stack) v n None) o ≡ Some t
    → (g : Words) × (option_map (λ k. shape (k ∷ stack) (v ++ f) n None) p ≡ Some (with_variables (t.variables ++ g) t))
load_wider None p stack v f n t h e = absurd (none_is_some e)
load_wider (Some k) p stack v f n t h e =
    let same : shape (k ∷ stack) v n None ≡ t = some_is e in
    (f, ap (option_map (λ k. shape (k ∷ stack) (v ++ f) n None)) (h k refl) ∙ ap (λ (x : Shape). Some (with_variables (x.variables ++ f) x)) same)

store_wider : (o p : Option Words) (stack : Words) (n : ℕ) (t : Shape) → ((x : Words) → o ≡ Some x → (g : Words) × (p ≡ Some (x ++ g)))
    → option_map (λ x. shape stack x n None) o ≡ Some t
    → (g : Words) × (option_map (λ x. shape stack x n None) p ≡ Some (with_variables (t.variables ++ g) t))
store_wider None p stack n t h e = absurd (none_is_some e)
store_wider (Some x) p stack n t h e =
    let same : shape stack x n None ≡ t = some_is e in
    let w = h x refl in
    (w.0, ap (option_map (λ x. shape stack x n None)) w.1 ∙ ap (λ (y : Shape). Some (with_variables (y.variables ++ w.0) y)) same)

wider : (look : Definitions) (result : WordKind) (room : ℕ) (i : Instruction) (stack v : Words) (n : ℕ) (due : Option Due) (f : Words) (t : Shape)
    → after look result room i (shape stack v n due) ≡ Some t → Widens look result room i stack v n due f t
wider look result room i stack v n (Some due) f t e =
    from_plain (λ w. after look result room i (shape stack w n (Some due))) v f t (due_plain look result room due i stack n) e
wider look result room (Load m) stack v n None f t e =
    load_wider (slice_get v m) (slice_get (v ++ f) m) stack v f n t (get_front v f m) e
wider look result room (Store m) [] v n None f t e = absurd (none_is_some e)
wider look result room (Store m) (k ∷ stack) v n None f t e =
    store_wider (stored room m k v) (stored room m k (v ++ f)) stack n t (stored_wider room m k v f) e
wider look result room i stack v n None f t e =
    from_plain (λ w. after look result room i (shape stack w n None)) v f t (λ a b. plain look result room i stack n a b tt) e

-- with more variables an instruction finds what it takes too, and leaves the same but for more variables
pub after_below : (look : Definitions) (result : WordKind) (room : ℕ) (i : Instruction) (t s left : Shape) → Below t s
    → after look result room i t ≡ Some left → (more : Shape) × (after look result room i s ≡ Some more) × Below left more
after_below look result room i t s left h e =
    let w = wider look result room i t.stack t.variables t.transactions t.due h.forgotten left e in
    (with_variables (left.variables ++ w.0) left, ap (after look result room i) h.is ∙ w.1, record { forgotten = w.0; is = refl })

-- ---- as the code asks

pub keeps_some : (n : ℕ) (k a : WordKind) (v : Words) → Some a ≡ slice_get v n → same_kind k a ≡ keeps_kind n k v
keeps_some n k a [] e = absurd (none_is_some (sym e))
keeps_some zero k a (x ∷ v) e = ap (same_kind k) (some_is e)
keeps_some (suc n) k a (x ∷ v) e = keeps_some n k a v e

pub keeps_none : (n : ℕ) (k : WordKind) (v : Words) → None ≡ slice_get v n → false ≡ keeps_kind n k v
keeps_none n k [] e = refl
keeps_none zero k (x ∷ v) e = absurd (none_is_some e)
keeps_none (suc n) k (x ∷ v) e = keeps_none n k v e
