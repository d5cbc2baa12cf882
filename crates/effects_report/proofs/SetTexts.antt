-- The names of a set by an ordered table are the set as a list.
use Rattle.std.proofs.Common.{Ordering, ◌==◌, ◌≡◌, ℕ, zero, suc, ◌<◌, ◌≤◌, ◌⊎◌, inl, inr, Bool, true, false, ◌||◌, ◌&&◌, cond, List, [], ◌∷◌, ◌++◌, length, refl, sym, ap, subst, ◌∙◌, arith, bytes_eq, if◌then◌else◌, append-nil}
use Rattle.std.specs.Prelude.{nat_lt}
use Rattle.std.specs.Int.{bit_at}
use Rattle.std.specs.Cmp.Lexicographic.{slice_cmp}
use Rattle.std.specs.Ordering.{nat_cmp, ordering_then}
use Rattle.std.specs.declared.cmp.Ordering.TheVariants.{Less, Equal, Greater}
use Rattle.std.proofs.lemmas.Bool.{cases_eq}
use Rattle.std.proofs.lemmas.Bool.Decides.{nat_tests}
use Rattle.std.proofs.lemmas.Cmp.{nat_list_cmp_total, tied_itself}
use Rattle.std.proofs.lemmas.Option.{slice_get_within, get_or_from_slice_get}
use Rattle.std.proofs.lemmas.Slice.Eq.{bytes_eq-Decides}
use Rattle.name_sets.specs.IdSet.{Holds}
use Rattle.name_sets.specs.NameLists.{precedes, is_among, with_name, name_set}
use Rattle.name_sets.specs.Texts.{text_of, IsBefore}
use Rattle.c_tree.specs.BareExpr.{Bytes}
use Rattle.effects.specs.Rows.{IsSet}
use Rattle.contextual_effects.specs.Effects.{HasNames}
use Rattle.effects_report.specs.Shown.{name_if, names_below, names_in}
use Rattle.effects_report.specs.Tables.{IsOrdered}

-- ---- the order of bytes

abbrev Comes : Bytes → Bytes → Type 0
Comes a b = slice_cmp nat_cmp a b ≡ Less

comes_precedes : (a b : Bytes) → Comes a b → precedes a b ≡ true
comes_precedes [] [] e = cc
comes_precedes [] (y ∷ ys) e = refl
comes_precedes (x ∷ xs) [] e = cc
comes_precedes (x ∷ xs) (y ∷ ys) e = by (nat_lt x y) (x == y) (slice_cmp nat_cmp xs ys) (precedes xs ys) (comes_precedes xs ys) e
  where
    by : (s t : Bool) (rest : Ordering) (r : Bool) → (rest ≡ Less → r ≡ true)
        → ordering_then (cond s Less (cond t Equal Greater)) rest ≡ Less → (s || (t && r)) ≡ true
    by true t rest r f e = refl
    by false true rest r f e = f e
    by false false rest r f e = cc

comes_apart : (a b : Bytes) → Comes a b → bytes_eq a b ≡ false
comes_apart a b less = by (bytes_eq a b) refl
  where
    by : (s : Bool) → bytes_eq a b ≡ s → bytes_eq a b ≡ false
    by false e = e
    by true e =
        let same : a ≡ b = (bytes_eq-Decides a b).0 e in
        let itself : Comes b b = subst {A = Bytes} (λ x. Comes x b) same less in
        let tied = sym (tied_itself nat_list_cmp_total b) ∙ itself in cc

-- ---- lists that ascend

-- a name comes before each of some
abbrev First : Bytes → List Bytes → Type 0
First n [] = Unit {0}
First n (m ∷ ms) = Comes n m × First n ms

-- each of some comes before a name
abbrev Last : List Bytes → Bytes → Type 0
Last [] n = Unit {0}
Last (m ∷ ms) n = Comes m n × Last ms n

abbrev Ascends : List Bytes → Type 0
Ascends [] = Unit {0}
Ascends (n ∷ ns) = First n ns × Ascends ns

first_push : (n m : Bytes) (ns : List Bytes) → First n ns → Comes n m → First n (ns ++ m ∷ [])
first_push n m [] f c = (c, tt)
first_push n m (k ∷ ks) f c = (f.0, first_push n m ks f.1 c)

ascends_push : (ns : List Bytes) (n : Bytes) → Ascends ns → Last ns n → Ascends (ns ++ n ∷ [])
ascends_push [] n a l = (tt, tt)
ascends_push (m ∷ ms) n a l = (first_push m n ms a.0 l.0, ascends_push ms n a.1 l.1)

last_append : (xs ys : List Bytes) (n : Bytes) → Last xs n → Last ys n → Last (xs ++ ys) n
last_append [] ys n l m = m
last_append (x ∷ xs) ys n l m = (l.0, last_append xs ys n l.1 m)

-- such a list is the set of its names
set_itself : (ns : List Bytes) → Ascends ns → name_set ns ≡ ns
set_itself [] a = refl
set_itself (n ∷ ns) a = ap (with_name n) (set_itself ns a.1) ∙ in_front n ns a.0
  where
    in_front : (n : Bytes) (ns : List Bytes) → First n ns → with_name n ns ≡ n ∷ ns
    in_front n [] f = refl
    in_front n (k ∷ ks) f =
        ap (λ s. if s then k ∷ ks else (if precedes n k then n ∷ k ∷ ks else k ∷ with_name n ks)) (comes_apart n k f.0)
        ∙ ap (λ s. if s then n ∷ k ∷ ks else k ∷ with_name n ks) (comes_precedes n k f.0)

-- ---- the names of a set below an id

last_if : (names : List Bytes) (set i j : ℕ) → IsBefore names i j → Last (name_if names set i) (text_of names j)
last_if names set i j before = by (bit_at set i == 1)
  where
    by : (s : Bool) → Last (if s then text_of names i ∷ [] else []) (text_of names j)
    by true = (before, tt)
    by false = tt

last_below : (names : List Bytes) (set i j : ℕ) → IsOrdered names → i ≤ j → j < length names → Last (names_below names set i) (text_of names j)
last_below names set zero j ordered less within = tt
last_below names set (suc i) j ordered less within =
    last_append (names_below names set i) (name_if names set i) (text_of names j)
    (last_below names set i j ordered (omega arith) within) (last_if names set i j (ordered.before i j (omega arith) within))

ascends_below : (names : List Bytes) (set i : ℕ) → IsOrdered names → i ≤ length names → Ascends (names_below names set i)
ascends_below names set zero ordered within = tt
ascends_below names set (suc i) ordered within =
    by (bit_at set i == 1) (ascends_below names set i ordered (omega arith))
    (last_below names set i i ordered (omega arith) (omega arith))
  where
    by : (s : Bool) → Ascends (names_below names set i) → Last (names_below names set i) (text_of names i)
        → Ascends (names_below names set i ++ (if s then text_of names i ∷ [] else []))
    by true a l = ascends_push (names_below names set i) (text_of names i) a l
    by false a l = subst {A = List Bytes} Ascends (sym (append-nil (names_below names set i))) a

-- ---- what is among them

any_append : (z : Bytes) (xs ys : List Bytes) → is_among (xs ++ ys) z ≡ (is_among xs z || is_among ys z)
any_append z [] ys = refl
any_append z (x ∷ xs) ys = ap (λ t. bytes_eq z x || t) (any_append z xs ys) ∙ regroup (bytes_eq z x) (is_among xs z) (is_among ys z)
  where
    regroup : (a b c : Bool) → (a || (b || c)) ≡ ((a || b) || c)
    regroup true b c = refl
    regroup false b c = refl

either_of : (a b : Bool) → (a || b) ≡ true → (a ≡ true) ⊎ (b ≡ true)
either_of true b e = inl refl
either_of false b e = inr e

from_left : (a b : Bool) → a ≡ true → (a || b) ≡ true
from_left true b e = refl
from_left false b e = cc

from_right : (a b : Bool) → b ≡ true → (a || b) ≡ true
from_right true b e = refl
from_right false b e = e

among_if : (names : List Bytes) (set i : ℕ) (z : Bytes) → is_among (name_if names set i) z ≡ true → Holds set i × (z ≡ text_of names i)
among_if names set i z e = by (bit_at set i == 1) refl e
  where
    one : (b : Bool) → (b || false) ≡ true → b ≡ true
    one true e = refl
    one false e = e

    by : (s : Bool) → (bit_at set i == 1) ≡ s → is_among (if s then text_of names i ∷ [] else []) z ≡ true → Holds set i × (z ≡ text_of names i)
    by true t e = (grind (arith, nat_tests), (bytes_eq-Decides z (text_of names i)).0 (one _ e))
    by false t e = cc

if_among : (names : List Bytes) (set i : ℕ) (z : Bytes) → Holds set i → z ≡ text_of names i → is_among (name_if names set i) z ≡ true
if_among names set i z holds same = by (bit_at set i == 1) (grind (arith, nat_tests))
  where
    by : (s : Bool) → s ≡ true → is_among (if s then text_of names i ∷ [] else []) z ≡ true
    by true e = from_left (bytes_eq z (text_of names i)) false ((bytes_eq-Decides z (text_of names i)).1 same)
    by false e = cc

among_below : (names : List Bytes) (set i : ℕ) (z : Bytes) → is_among (names_below names set i) z ≡ true
    → (id : ℕ) × (id < i) × Holds set id × (z ≡ text_of names id)
among_below names set zero z e = cc
among_below names set (suc i) z e =
    elim (either_of _ _ (sym (any_append z (names_below names set i) (name_if names set i)) ∙ e)) [
      | inl before ↦ (let found = among_below names set i z before in (found.0, omega (arith, found.1), found.2, found.3))
      | inr here ↦ (let found = among_if names set i z here in (i, omega arith, found.0, found.1))
    ]

below_among : (names : List Bytes) (set i : ℕ) (z : Bytes) (id : ℕ) → id < i → Holds set id → z ≡ text_of names id
    → is_among (names_below names set i) z ≡ true
below_among names set zero z id less holds same = absurd (omega arith)
below_among names set (suc i) z id less holds same = any_append z (names_below names set i) (name_if names set i) ∙ by (cases_eq id i) (below_among names set i z id)
  where
    by : (id ≡ i) ⊎ ((id ≡ i) → ⊥) → (id < i → Holds set id → z ≡ text_of names id → is_among (names_below names set i) z ≡ true)
        → (is_among (names_below names set i) z || is_among (name_if names set i) z) ≡ true
    by (inl e) rest =
        from_right (is_among (names_below names set i) z) (is_among (name_if names set i) z)
        (if_among names set i z (subst {A = ℕ} (Holds set) e holds) (same ∙ ap (text_of names) e))
    by (inr apart) rest = from_left (is_among (names_below names set i) z) (is_among (name_if names set i) z) (rest (omega arith) holds same)

-- the names of a set are the set as a list
pub set_is : (names : List Bytes) (set : ℕ) (In : Bytes → Type 0) → IsOrdered names → HasNames names set In → IsSet (names_in names set) In
set_is names set In ordered has = record {
  ordered = set_itself (names_in names set) (ascends_below names set (length names) ordered (omega arith));
  same = λ z. (
    λ e.
        let found = among_below names set (length names) z e in
        let named = has.only found.0 found.2 in
        subst {A = Bytes} In (sym (found.3 ∙ get_or_from_slice_get names found.0 named.0 [] named.1)) named.2,
    λ is.
        let id = has.all z is in
        below_among names set (length names) z id.0 (slice_get_within names id.0 z id.1) id.2 (sym (get_or_from_slice_get names id.0 z [] id.1)),
  );
}
