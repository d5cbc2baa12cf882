-- Two ordered sets with the same names are equal, so a mark has at most one row.
use Rattle.std.proofs.Common.{◌≡◌, ℕ, ◌<◌, Bool, true, false, List, [], ◌∷◌, refl, sym, subst, ◌∙◌, ◌⊎◌, inl, inr, arith}
use Rattle.std.specs.Prelude.{◌==◌, nat_lt, ◌||◌, ◌&&◌, bytes_eq, if◌then◌else◌}
use Rattle.std.proofs.lemmas.Bool.{cases_order}
use Rattle.std.proofs.lemmas.Bool.Decides.{nat_tests}
use Rattle.std.proofs.lemmas.Slice.Eq.{bytes_eq-Decides}
use Rattle.name_sets.specs.NameLists.{precedes, is_among, with_name, name_set}
use Rattle.con_freeness.specs.Rows.{Names}
use Rattle.c_tree.specs.BareExpr.{Bytes}
use Rattle.effects.specs.Rows.{InPrior, InFuture, InConcrete, IsSet}
use Rattle.effects.specs.LeastLaws.{OneRow}

no : false ≡ true → ⊥
no e = cc

-- the order of names
pub data Before : Bytes → Bytes → Type 0 where
  shorter : (y : ℕ) (ys : Bytes) → Before [] (y ∷ ys)
  less : (x y : ℕ) (xs ys : Bytes) → x < y → Before (x ∷ xs) (y ∷ ys)
  later : (x y : ℕ) (xs ys : Bytes) → x ≡ y → Before xs ys → Before (x ∷ xs) (y ∷ ys)

pub not_itself : (a b : Bytes) → Before a b → a ≡ b → ⊥
not_itself _ _ (shorter y ys) e = cc
not_itself _ _ (less x y xs ys l) e = apart x y l (head e)
  where
    head : x ∷ xs ≡ y ∷ ys → x ≡ y
    head e = cc

    apart : (x y : ℕ) → x < y → x ≡ y → ⊥
    apart x y l e = omega arith
not_itself _ _ (later x y xs ys same b) e = not_itself xs ys b (tail e)
  where
    tail : x ∷ xs ≡ y ∷ ys → xs ≡ ys
    tail e = cc

cons : (x y : ℕ) (xs ys : Bytes) → x ≡ y → xs ≡ ys → x ∷ xs ≡ y ∷ ys
cons x y xs ys e f = cc

two : (a b c : Bytes) → Before a b → Before b c → Before a c
two _ _ c (shorter y ys) q = by y ys c q
  where
    by : (y : ℕ) (ys c : Bytes) → Before (y ∷ ys) c → Before [] c
    by _ _ _ (less y z ys zs l) = shorter z zs
    by _ _ _ (later y z ys zs e b) = shorter z zs
two _ _ _ (less x y xs ys l) (less _ z _ zs k) = less x z xs zs (omega arith)
two _ _ _ (less x y xs ys l) (later _ z _ zs e b) = less x z xs zs (omega arith)
two _ _ _ (later x y xs ys e b) (less _ z _ zs k) = less x z xs zs (omega arith)
two _ _ _ (later x y xs ys e b) (later _ z _ zs f c) = later x z xs zs (e ∙ f) (two xs ys zs b c)

pub test : (a b : Bytes) → Before a b → precedes a b ≡ true
test _ _ (shorter y ys) = refl
test _ _ (less x y xs ys l) = first (nat_lt x y) (x == y && precedes xs ys) (grind (arith, nat_tests))
  where
    first : (s t : Bool) → s ≡ true → (s || t) ≡ true
    first true t e = refl
    first false t e = cc
test _ _ (later x y xs ys same b) = second (nat_lt x y) (x == y) (precedes xs ys) (grind (arith, nat_tests)) (test xs ys b)
  where
    second : (s t u : Bool) → t ≡ true → u ≡ true → (s || (t && u)) ≡ true
    second true t u e f = refl
    second false true u e f = f
    second false false u e f = cc

either : (a b : Bytes) → Before a b ⊎ ((a ≡ b) ⊎ Before b a)
either [] [] = inr (inl refl)
either [] (y ∷ ys) = inl (shorter y ys)
either (x ∷ xs) [] = inr (inr (shorter x xs))
either (x ∷ xs) (y ∷ ys) =
    elim (cases_order x y) [
      | inl e ↦ elim (either xs ys) [
        | inl b ↦ inl (later x y xs ys e b)
        | inr r ↦ elim r [ inl f ↦ inr (inl (cons x y xs ys e f)) | inr b ↦ inr (inr (later y x ys xs (sym e) b)) ]
      ]
      | inr r ↦ elim r [ inl l ↦ inl (less x y xs ys l) | inr l ↦ inr (inr (less y x ys xs l)) ]
    ]

tested : (a b : Bytes) → precedes a b ≡ true → Before a b
tested [] [] e = cc
tested [] (y ∷ ys) e = shorter y ys
tested (x ∷ xs) [] e = cc
tested (x ∷ xs) (y ∷ ys) e = by (nat_lt x y) (x == y) refl refl (tested xs ys) e
  where
    by : (s t : Bool) → nat_lt x y ≡ s → (x == y) ≡ t → (precedes xs ys ≡ true → Before xs ys)
        → (s || (t && precedes xs ys)) ≡ true → Before (x ∷ xs) (y ∷ ys)
    by true t l f rest e = less x y xs ys (grind (arith, nat_tests))
    by false true l f rest e = later x y xs ys (grind (arith, nat_tests)) (rest e)
    by false false l f rest e = cc

-- a name is before each of some
abbrev pub First : Bytes → List Bytes → Type 0
First n [] = Unit {0}
First n (m ∷ ms) = Before n m × First n ms

abbrev pub Ascending : List Bytes → Type 0
Ascending [] = Unit {0}
Ascending (n ∷ ns) = First n ns × Ascending ns

first_two : (n m : Bytes) (ms : List Bytes) → Before n m → First m ms → First n ms
first_two n m [] b f = tt
first_two n m (k ∷ ks) b f = (two n m k b f.0, first_two n m ks b f.1)

-- with one name more
first_with : (m n : Bytes) (ns : List Bytes) → Before m n → First m ns → First m (with_name n ns)
first_with m n [] b f = (b, tt)
first_with m n (k ∷ ks) b f = by (bytes_eq n k) (precedes n k) (first_with m n ks b f.1)
  where
    by : (s t : Bool) → First m (with_name n ks)
        → First m (if s then k ∷ ks else (if t then n ∷ k ∷ ks else k ∷ with_name n ks))
    by true t rest = f
    by false true rest = (b, f)
    by false false rest = (f.0, rest)

pub ascending_with : (n : Bytes) (ns : List Bytes) → Ascending ns → Ascending (with_name n ns)
ascending_with n [] a = (tt, tt)
ascending_with n (k ∷ ks) a = by (bytes_eq n k) (precedes n k) refl refl (ascending_with n ks a.1)
  where
    after : bytes_eq n k ≡ false → precedes n k ≡ false → Before n k ⊎ ((n ≡ k) ⊎ Before k n) → Before k n
    after e f (inl b) = absurd (no (sym f ∙ test n k b))
    after e f (inr (inl same)) = absurd (no (sym e ∙ (bytes_eq-Decides n k).1 same))
    after e f (inr (inr b)) = b

    by : (s t : Bool) → bytes_eq n k ≡ s → precedes n k ≡ t → Ascending (with_name n ks)
        → Ascending (if s then k ∷ ks else (if t then n ∷ k ∷ ks else k ∷ with_name n ks))
    by true t e f rest = a
    by false true e f rest = ((tested n k f, first_two n k ks (tested n k f) a.0), a)
    by false false e f rest = (first_with k n ks (after e f (either n k)) a.0, rest)

pub set_ascends : (ns : List Bytes) → Ascending (name_set ns)
set_ascends [] = tt
set_ascends (n ∷ ns) = ascending_with n (name_set ns) (set_ascends ns)

-- a name among some that another is before comes after it
among_first : (n m : Bytes) (ns : List Bytes) → First n ns → is_among ns m ≡ true → Before n m
among_first n m [] f e = cc
among_first n m (k ∷ ks) f e = by (bytes_eq m k) refl (among_first n m ks f.1) e
  where
    by : (s : Bool) → bytes_eq m k ≡ s → (is_among ks m ≡ true → Before n m) → (s || is_among ks m) ≡ true → Before n m
    by true t rest e = subst (Before n) (sym ((bytes_eq-Decides m k).0 t)) f.0
    by false t rest e = rest e

-- a name among some is the first or among the others
pub cases_of : (n m : Bytes) (ns : List Bytes) → is_among (m ∷ ns) n ≡ true → (n ≡ m) ⊎ (is_among ns n ≡ true)
cases_of n m ns e = by (bytes_eq n m) refl e
  where
    by : (s : Bool) → bytes_eq n m ≡ s → (s || is_among ns n) ≡ true → (n ≡ m) ⊎ (is_among ns n ≡ true)
    by true t e = inl ((bytes_eq-Decides n m).0 t)
    by false t e = inr e

pub among_itself : (n : Bytes) (ns : List Bytes) → is_among (n ∷ ns) n ≡ true
among_itself n ns = by (bytes_eq n n) ((bytes_eq-Decides n n).1 refl)
  where
    by : (s : Bool) → s ≡ true → (s || is_among ns n) ≡ true
    by true e = refl
    by false e = cc

pub among_later : (n m : Bytes) (ns : List Bytes) → is_among ns n ≡ true → is_among (m ∷ ns) n ≡ true
among_later n m ns e = by (bytes_eq n m)
  where
    by : (s : Bool) → (s || is_among ns n) ≡ true
    by true = refl
    by false = e

Lies : List Bytes → List Bytes → Type 0
Lies xs ys = (n : Bytes) → is_among xs n ≡ true → is_among ys n ≡ true

heads : (x y : Bytes) (xs ys : List Bytes) → First x xs → First y ys
    → (x ≡ y) ⊎ (is_among ys x ≡ true) → (y ≡ x) ⊎ (is_among xs y ≡ true) → x ≡ y
heads x y xs ys f g (inl e) q = e
heads x y xs ys f g (inr e) (inl h) = sym h
heads x y xs ys f g (inr e) (inr h) =
    absurd (not_itself x x (two x y x (among_first x y xs f h) (among_first y x ys g e)) refl)

tails : (x y : Bytes) (xs ys : List Bytes) → First x xs → x ≡ y → Lies (x ∷ xs) (y ∷ ys) → Lies xs ys
unfolding Lies
tails x y xs ys f same lies n e =
    elim (cases_of n y ys (lies n (among_later n x xs e))) [
      | inl h ↦ absurd (not_itself x n (among_first x n xs f e) (same ∙ sym h))
      | inr h ↦ h
    ]

same_sets : (xs ys : List Bytes) → Ascending xs → Ascending ys → Lies xs ys → Lies ys xs → xs ≡ ys
unfolding Lies
same_sets [] [] a b l k = refl
same_sets [] (y ∷ ys) a b l k = absurd (no (k y (among_itself y ys)))
same_sets (x ∷ xs) [] a b l k = absurd (no (l x (among_itself x xs)))
same_sets (x ∷ xs) (y ∷ ys) a b l k =
    let same = heads x y xs ys a.0 b.0 (cases_of x y ys (l x (among_itself x xs))) (cases_of y x xs (k y (among_itself y ys))) in
    consed x y xs ys same
    (same_sets xs ys a.1 b.1 (tails x y xs ys a.0 same l) (tails y x ys xs b.0 (sym same) k))
  where
    consed : (x y : Bytes) (xs ys : List Bytes) → x ≡ y → xs ≡ ys → x ∷ xs ≡ y ∷ ys
    consed x y xs ys e f = cc

one_set : (xs ys : Names) (In : Bytes → Type 0) → IsSet xs In → IsSet ys In → xs ≡ ys
unfolding Lies
one_set xs ys In a b =
    same_sets xs ys (subst Ascending a.ordered (set_ascends xs)) (subst Ascending b.ordered (set_ascends ys))
    (λ n e. (b.same n).1 ((a.same n).0 e)) (λ n e. (a.same n).1 ((b.same n).0 e))

pub one_row : OneRow
one_row bodies mark a b x y =
    row (one_set a.prior b.prior (InPrior bodies mark) x.prior y.prior)
    (one_set a.future b.future (InFuture bodies mark) x.future y.future)
    (one_set a.concrete b.concrete (InConcrete bodies mark) x.concrete y.concrete)
  where
    row : a.prior ≡ b.prior → a.future ≡ b.future → a.concrete ≡ b.concrete → a ≡ b
    row p f c = λ i. record { prior = p i; future = f i; concrete = c i }
