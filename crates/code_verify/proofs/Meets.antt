-- Where ways meet: the greatest shape that is below each of them.
use Rattle.std.proofs.Common.{◌≡◌, ℕ, ◌≤◌, nat_le, nat_eq, Bool, true, false, ◌&&◌, List, [], ◌++◌, take, length, Option, Some, None, option_and_then, if◌then◌else◌, refl, sym, ap, ◌∙◌, subst, arith, length-append, le-leb, leb-true, eqb-true}
use Rattle.code_kinds.specs.StopKinds.{Words}
use Rattle.code_kinds.specs.Shapes.{Shape}
use Rattle.code_verify.specs.Meeting.{common, same_words, same_due, alike, with_variables, meet, cut, met}
use Rattle.code_verify.proofs.Lists.{and_true, both, same_words_self, same_words_is, same_number_self, same_due_self, same_due_is, common_first, common_second, common_append, take_front, take_rest, length_take}
use Rattle.code_verify.proofs.Below.{Below, same_shape, some_is, none_is_some, and_then_some, same_below, below_itself, below_below}

-- two shapes differ in their variables at most
pub record Alike (a b : Shape) : Type 0 where
  pub stack : a.stack ≡ b.stack
  pub transactions : a.transactions ≡ b.transactions
  pub due : a.due ≡ b.due

pub alike_is : (a b : Shape) → alike a b ≡ true → Alike a b
alike_is a b e =
    let h = both (same_words a.stack b.stack) (nat_eq a.transactions b.transactions && same_due a.due b.due) e in
    let k = both (nat_eq a.transactions b.transactions) (same_due a.due b.due) h.1 in
    record {
      stack = same_words_is a.stack b.stack h.0;
      transactions = eqb-true a.transactions b.transactions k.0;
      due = same_due_is a.due b.due k.1;
    }

pub alike_itself : (a : Shape) → alike a a ≡ true
alike_itself a =
    and_true (same_words a.stack a.stack) (nat_eq a.transactions a.transactions && same_due a.due a.due) (same_words_self a.stack)
    (and_true (nat_eq a.transactions a.transactions) (same_due a.due a.due) (same_number_self a.transactions) (same_due_self a.due))

-- what is known after a way has come
pub record Met (v : Option ℕ) (there : Option Shape) (s new : Shape) : Type 0 where
  pub below : Below new s
  pub known : (old : Shape) → there ≡ Some old → Below new old
  pub many : (n : ℕ) → v ≡ Some n → length new.variables ≡ n

meet_known : (o s m : Shape) (t : Bool) → (t ≡ true → Alike o s)
    → (if t then Some (with_variables (common o.variables s.variables) s) else None) ≡ Some m → Below m s × Below m o
meet_known o s m false a e = absurd (none_is_some e)
meet_known o s m true a e =
    let c = common o.variables s.variables in
    let new = with_variables c s in
    let same : new ≡ m = some_is e in
    let k = a refl in
    let first = common_first o.variables s.variables in
    let second = common_second o.variables s.variables in
    let under : Below new s = record { forgotten = second.0; is = ap (λ w. with_variables w s) second.1 } in
    let under_old : Below new o = record {
      forgotten = first.0;
      is = same_shape o (with_variables (c ++ first.0) s) k.stack first.1 k.transactions k.due;
    } in
    (subst (λ x. Below x s) same under, subst (λ x. Below x o) same under_old)

pub meet_below : (there : Option Shape) (s m : Shape) → meet there s ≡ Some m → Below m s
meet_below None s m e = same_below m s (some_is e)
meet_below (Some o) s m e = (meet_known o s m (alike o s) (alike_is o s) e).0

pub meet_below_known : (there : Option Shape) (s m : Shape) → meet there s ≡ Some m → (old : Shape) → there ≡ Some old → Below m old
meet_below_known None s m e old f = absurd (none_is_some f)
meet_below_known (Some o) s m e old f = subst (λ x. Below m x) (some_is f) (meet_known o s m (alike o s) (alike_is o s) e).1

cut_by : (v : ℕ) (m new : Shape) (t : Bool) → (t ≡ true → v ≤ length m.variables)
    → (if t then Some (with_variables (take v m.variables) m) else None) ≡ Some new → Below new m × (length new.variables ≡ v)
cut_by v m new false h e = absurd (none_is_some e)
cut_by v m new true h e =
    let kept = with_variables (take v m.variables) m in
    let same : kept ≡ new = some_is e in
    let rest = take_rest v m.variables in
    let under : Below kept m = record { forgotten = rest.0; is = ap (λ w. with_variables w m) rest.1 } in
    (subst (λ x. Below x m) same under, subst (λ (x : Shape). length x.variables ≡ v) same (length_take v m.variables (h refl)))

pub cut_below : (v : Option ℕ) (m new : Shape) → cut v m ≡ Some new → Below new m
cut_below None m new e = same_below new m (some_is e)
cut_below (Some v) m new e = (cut_by v m new (nat_le v (length m.variables)) (leb-true v (length m.variables)) e).0

pub cut_many : (v : Option ℕ) (m new : Shape) → cut v m ≡ Some new → (n : ℕ) → v ≡ Some n → length new.variables ≡ n
cut_many None m new e n f = absurd (none_is_some f)
cut_many (Some v) m new e n f = (cut_by v m new (nat_le v (length m.variables)) (leb-true v (length m.variables)) e).1 ∙ some_is f

pub met_is : (v : Option ℕ) (there : Option Shape) (s new : Shape) → met v there s ≡ Some new → Met v there s new
met_is v there s new e =
    let h = and_then_some (cut v) (meet there s) new e in
    let under = cut_below v h.0 new h.2 in
    record {
      below = below_below new h.0 s under (meet_below there s h.0 h.1);
      known = λ old f. below_below new h.0 old under (meet_below_known there s h.0 h.1 old f);
      many = cut_many v h.0 new h.2;
    }

-- a shape that is below those that meet is below what is known then
meet_greatest : (there : Option Shape) (t s : Shape) → Below t s → ((old : Shape) → there ≡ Some old → Below t old)
    → (m : Shape) × (meet there s ≡ Some m) × Below t m
meet_greatest None t s h k = (s, refl, h)
meet_greatest (Some o) t s h k =
    let l = k o refl in
    let new = with_variables (common o.variables s.variables) s in
    let as_one : alike o s ≡ true =
    ap (λ x. alike x s) l.is ∙ ap (λ x. alike (with_variables (t.variables ++ l.forgotten) t) x) h.is ∙ alike_itself t in
    let words : common o.variables s.variables ≡ t.variables ++ common l.forgotten h.forgotten =
    ap (λ (x : Shape). common x.variables s.variables) l.is
    ∙ ap (λ (x : Shape). common (t.variables ++ l.forgotten) x.variables) h.is
    ∙ common_append t.variables l.forgotten h.forgotten in (
      new,
      ap (λ b. if b then Some new else None) as_one,
      record {
        forgotten = common l.forgotten h.forgotten;
        is = ap (λ w. with_variables w s) words ∙ ap (with_variables (t.variables ++ common l.forgotten h.forgotten)) h.is;
      },
    )

cut_greatest : (v : Option ℕ) (t m : Shape) → Below t m → ((n : ℕ) → v ≡ Some n → length t.variables ≡ n)
    → (new : Shape) × (cut v m ≡ Some new) × Below t new
cut_greatest None t m h k = (m, refl, h)
cut_greatest (Some v) t m h k =
    let many : length t.variables ≡ v = k v refl in
    let words : m.variables ≡ t.variables ++ h.forgotten = ap (λ (x : Shape). x.variables) h.is in
    let enough : nat_le v (length m.variables) ≡ true =
    le-leb v (length m.variables) (omega (arith, many, ap length words, length-append t.variables h.forgotten)) in
    let front : take v m.variables ≡ t.variables =
    ap (λ x. take x m.variables) (sym many) ∙ ap (take (length t.variables)) words ∙ take_front t.variables h.forgotten in
    let new = with_variables (take v m.variables) m in (
      new,
      ap (λ b. if b then Some new else None) enough,
      same_below t new (ap (λ w. with_variables w m) front ∙ ap (with_variables t.variables) h.is),
    )

pub met_greatest : (v : Option ℕ) (there : Option Shape) (t s : Shape) → Below t s → ((old : Shape) → there ≡ Some old → Below t old)
    → ((n : ℕ) → v ≡ Some n → length t.variables ≡ n) → (new : Shape) × (met v there s ≡ Some new) × Below t new
met_greatest v there t s h k many =
    let m = meet_greatest there t s h k in
    let c = cut_greatest v t m.0 m.2 many in
    (c.0, ap (option_and_then (cut v)) m.1 ∙ c.1, c.2)

-- ---- as the code meets them

pub take_common : (xs ys : Words) → take (length (common xs ys)) ys ≡ common xs ys
take_common xs ys =
    let h = common_second xs ys in ap (take (length (common xs ys))) h.1 ∙ take_front (common xs ys) h.0

pub meet_some : (o : Option Shape) (old s : Shape) (words : Words) → o ≡ Some old → alike old s ≡ true → words ≡ common old.variables s.variables
    → Some (with_variables words s) ≡ meet o s
meet_some o old s words e a v =
    ap (λ w. Some (with_variables w s)) v
    ∙ sym (ap (λ b. if b then Some (with_variables (common old.variables s.variables) s) else None) a)
    ∙ sym (ap (λ x. meet x s) e)
