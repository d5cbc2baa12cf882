-- A set of names is in the order of bytes, and the first of its names that passes a test is the least one that does.
use Rattle.std.proofs.Common.{◌≡◌, ℕ, Bool, true, false, true≢false, ◌||◌, List, [], ◌∷◌, Option, Some, None, Ordering, ◌⊎◌, inl, inr, refl, sym, ap, subst, ◌∙◌, arith, bytes_eq, if◌then◌else◌}
use Rattle.std.specs.Prelude.{find}
use Rattle.std.specs.List.{list_any, AllByRecursion}
use Rattle.std.specs.List.Sorted.{IsStrictlySortedBy}
use Rattle.std.specs.Cmp.Lexicographic.{slice_cmp}
use Rattle.std.specs.Ordering.{nat_cmp, is_eq, is_lt, ordering_reverse}
use Rattle.std.specs.declared.cmp.Ordering.TheVariants.{Less, Equal, Greater}
use Rattle.std.proofs.lemmas.Bool.Decides.{nat_tests}
use Rattle.std.proofs.lemmas.Cmp.{nat_list_cmp_total, same_from_slice_cmp}
use Rattle.std.proofs.lemmas.Map.Text.{is_eq-slice_cmp}
use Rattle.std.proofs.lemmas.Slice.Eq.{bytes_eq-Decides}
use Rattle.name_sets.specs.NameLists.{precedes, is_among, with_name, name_set}

abbrev Bytes : Type 0
Bytes = List ℕ

-- the order of bytes
abbrev pub order : Bytes → Bytes → Ordering
order = slice_cmp nat_cmp

abbrev Ascends : List Bytes → Type 0
Ascends = IsStrictlySortedBy order

-- each of some names comes after one
abbrev After : Bytes → List Bytes → Type 0
After m = AllByRecursion (λ n. order m n ≡ Less)

precedes_is : (a b : Bytes) → precedes a b ≡ is_lt (order a b)
precedes_is a b =
    sym (same_from_slice_cmp nat_cmp is_lt precedes refl (λ _ _. refl) (λ _ _. refl) (λ x y xs ys o h. grind (arith, nat_tests)) a b (order a b) refl)

later : (a b : Bytes) → order a b ≡ Greater → order b a ≡ Less
later a b e = nat_list_cmp_total.antisymm b a ∙ ap ordering_reverse e

-- ---- a set with one name more, by how the name compares with the first

abbrev placed : Bytes → Bytes → List Bytes → List Bytes → Ordering → List Bytes
placed n k ks rest Less = n ∷ k ∷ ks
placed n k ks rest Equal = k ∷ ks
placed n k ks rest Greater = k ∷ rest

with_name_is : (n k : Bytes) (ks : List Bytes) → with_name n (k ∷ ks) ≡ placed n k ks (with_name n ks) (order n k)
with_name_is n k ks =
    ap (λ b. if b then k ∷ ks else (if precedes n k then n ∷ k ∷ ks else k ∷ with_name n ks)) (sym (is_eq-slice_cmp n k))
    ∙ ap (λ b. if is_eq (order n k) then k ∷ ks else (if b then n ∷ k ∷ ks else k ∷ with_name n ks)) (precedes_is n k)
    ∙ by (order n k) (with_name n ks)
  where
    by : (o : Ordering) (rest : List Bytes)
        → (if is_eq o then k ∷ ks else (if is_lt o then n ∷ k ∷ ks else k ∷ rest)) ≡ placed n k ks rest o
    by Less rest = refl
    by Equal rest = refl
    by Greater rest = refl

after_two : (m n : Bytes) (ns : List Bytes) → order m n ≡ Less → After n ns → After m ns
after_two m n [] b after = tt
after_two m n (k ∷ ks) b after = (nat_list_cmp_total.trans m n k b after.0, after_two m n ks b after.1)

after_with : (m n : Bytes) (ns : List Bytes) → order m n ≡ Less → After m ns → After m (with_name n ns)
after_with m n [] b after = (b, tt)
after_with m n (k ∷ ks) b after =
    subst (After m) (sym (with_name_is n k ks)) (by (order n k) (after_with m n ks b after.1))
  where
    by : (o : Ordering) → After m (with_name n ks) → After m (placed n k ks (with_name n ks) o)
    by Less rest = (b, after)
    by Equal rest = after
    by Greater rest = (after.0, rest)

ascends_with : (n : Bytes) (ns : List Bytes) → Ascends ns → Ascends (with_name n ns)
unfolding IsStrictlySortedBy
ascends_with n [] a = (tt, tt)
ascends_with n (k ∷ ks) a = subst Ascends (sym (with_name_is n k ks)) (by (order n k) refl (ascends_with n ks a.1))
  where
    by : (o : Ordering) → order n k ≡ o → Ascends (with_name n ks) → Ascends (placed n k ks (with_name n ks) o)
    by Less e rest = ((e, after_two n k ks e a.0), a)
    by Equal e rest = a
    by Greater e rest = (after_with k n ks (later n k e) a.0, rest)

set_ascends : (ns : List Bytes) → Ascends (name_set ns)
unfolding IsStrictlySortedBy
set_ascends [] = tt
set_ascends (n ∷ ns) = ascends_with n (name_set ns) (set_ascends ns)

-- ---- tests of the names of a set

or_twice : (a b : Bool) → (a || b) ≡ (a || (a || b))
or_twice true b = refl
or_twice false b = refl

or_swapped : (a b c : Bool) → (a || (b || c)) ≡ (b || (a || c))
or_swapped true true c = refl
or_swapped true false c = refl
or_swapped false b c = refl

with_name_any : (p : Bytes → Bool) (x : Bytes) (names : List Bytes) → list_any p (with_name x names) ≡ (p x || list_any p names)
with_name_any p x [] = refl
with_name_any p x (n ∷ names) = by (bytes_eq x n) (precedes x n) refl (with_name_any p x names)
  where
    by : (same first : Bool) → bytes_eq x n ≡ same → list_any p (with_name x names) ≡ (p x || list_any p names)
        → list_any p (if same then n ∷ names else (if first then x ∷ n ∷ names else n ∷ with_name x names))
        ≡ (p x || (p n || list_any p names))
    by true first e rest =
        or_twice (p n) (list_any p names)
        ∙ ap (λ y. p y || (p n || list_any p names)) (sym ((bytes_eq-Decides x n).0 e))
    by false true e rest = refl
    by false false e rest =
        ap (λ o. p n || o) rest ∙ or_swapped (p n) (p x) (list_any p names)

-- some name of a set passes a test exactly where one does of those that it is the set of
pub name_set_any : (p : Bytes → Bool) (names : List Bytes) → list_any p (name_set names) ≡ list_any p names
name_set_any p [] = refl
name_set_any p (x ∷ names) = with_name_any p x (name_set names) ∙ ap (λ o. p x || o) (name_set_any p names)

first_among : (z : Bytes) (ns : List Bytes) → is_among (z ∷ ns) z ≡ true
first_among z ns = ap (λ b. b || is_among ns z) ((bytes_eq-Decides z z).1 refl)

later_among : (z n : Bytes) (ns : List Bytes) → is_among ns z ≡ true → is_among (n ∷ ns) z ≡ true
later_among z n ns e = by (bytes_eq z n)
  where
    by : (b : Bool) → (b || is_among ns z) ≡ true
    by true = refl
    by false = e

cases_among : (z n : Bytes) (ns : List Bytes) → is_among (n ∷ ns) z ≡ true → (z ≡ n) ⊎ (is_among ns z ≡ true)
cases_among z n ns e = by (bytes_eq z n) refl e
  where
    by : (b : Bool) → bytes_eq z n ≡ b → (b || is_among ns z) ≡ true → (z ≡ n) ⊎ (is_among ns z ≡ true)
    by true is e = inl ((bytes_eq-Decides z n).0 is)
    by false is e = inr e

among_after : (m z : Bytes) (ns : List Bytes) → After m ns → is_among ns z ≡ true → order m z ≡ Less
among_after m z [] after e = cc
among_after m z (k ∷ ks) after e = by (cases_among z k ks e) (among_after m z ks after.1)
  where
    by : (z ≡ k) ⊎ (is_among ks z ≡ true) → (is_among ks z ≡ true → order m z ≡ Less) → order m z ≡ Less
    by (inl is) rest = subst (λ x. order m x ≡ Less) (sym is) after.0
    by (inr there) rest = rest there

-- a name passes a test, and comes before each other of some that passes it
pub record IsLeastPassing (p : Bytes → Bool) (ns : List Bytes) (z : Bytes) : Type 0 where
  pub among : is_among ns z ≡ true
  pub passes : p z ≡ true
  pub least : (y : Bytes) → is_among ns y ≡ true → p y ≡ true → (y ≡ z) ⊎ (order z y ≡ Less)

abbrev pub Finds : (Bytes → Bool) → List Bytes → Option Bytes → Type 0
Finds p ns None = (y : Bytes) → is_among ns y ≡ true → p y ≡ true → ⊥
Finds p ns (Some z) = IsLeastPassing p ns z

finds_least : (p : Bytes → Bool) (ns : List Bytes) → Ascends ns → Finds p ns (find p ns)
unfolding IsStrictlySortedBy
finds_least p [] a = λ y there passes. true≢false (sym there)
finds_least p (n ∷ ns) a = by (p n) refl (find p ns) (finds_least p ns a.1)
  where
    fails : p n ≡ false → (y : Bytes) → y ≡ n → p y ≡ true → ⊥
    fails e y same passes = true≢false (sym passes ∙ ap p same ∙ e)

    none : p n ≡ false → Finds p ns None → (y : Bytes) → (y ≡ n) ⊎ (is_among ns y ≡ true) → p y ≡ true → ⊥
    none e rest y (inl same) passes = fails e y same passes
    none e rest y (inr there) passes = rest y there passes

    first : (y : Bytes) → (y ≡ n) ⊎ (is_among ns y ≡ true) → (y ≡ n) ⊎ (order n y ≡ Less)
    first y (inl same) = inl same
    first y (inr there) = inr (among_after n y ns a.0 there)

    further : p n ≡ false → (z : Bytes) → IsLeastPassing p ns z → (y : Bytes) → (y ≡ n) ⊎ (is_among ns y ≡ true) → p y ≡ true
        → (y ≡ z) ⊎ (order z y ≡ Less)
    further e z rest y (inl same) passes = absurd (fails e y same passes)
    further e z rest y (inr there) passes = rest.least y there passes

    by : (b : Bool) → p n ≡ b → (o : Option Bytes) → Finds p ns o → Finds p (n ∷ ns) (if b then Some n else o)
    by true e o rest = record {
      among = first_among n ns;
      passes = e;
      least = λ y there passes. first y (cases_among y n ns there);
    }
    by false e None rest = λ y there passes. none e rest y (cases_among y n ns there) passes
    by false e (Some z) rest = record {
      among = later_among z n ns rest.among;
      passes = rest.passes;
      least = λ y there passes. further e z rest y (cases_among y n ns there) passes;
    }

-- the search in a set finds the least name that passes
pub finds_in_set : (p : Bytes → Bool) (ns : List Bytes) → Finds p (name_set ns) (find p (name_set ns))
finds_in_set p ns = finds_least p (name_set ns) (set_ascends ns)
