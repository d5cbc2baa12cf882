-- A list of texts in the order of bytes, without repeats, is the set of its texts.
use Rattle.std.proofs.Common.{◌≡◌, ℕ, Bool, true, false, ◌||◌, List, [], ◌∷◌, map, string_bytes, String, Ordering, refl, sym, ap, subst, ◌∙◌, arith, bytes_eq, if◌then◌else◌}
use Rattle.std.specs.List.{list_any, dedup, dedup_from, AllByRecursion}
use Rattle.std.specs.List.Sorted.{IsPermutation, IsSorted, IsStrictlySortedBy}
use Rattle.std.specs.Cmp.{both_ways}
use Rattle.std.specs.Cmp.Lexicographic.{slice_cmp}
use Rattle.std.specs.Ordering.{nat_cmp, is_eq, is_lt, ordering_reverse}
use Rattle.std.specs.declared.cmp.Ordering.TheVariants.{Less, Equal, Greater}
use Rattle.std.specs.String.{string_eq, string_cmp, string_cmp_total}
use Rattle.std.proofs.lemmas.Bool.Decides.{nat_tests}
use Rattle.std.proofs.lemmas.Cmp.{nat_list_cmp_total, same_from_slice_cmp, tied_itself}
use Rattle.std.proofs.lemmas.List.Folds.{Any-from_list_any, list_any-from_Any}
use Rattle.std.proofs.lemmas.List.Kept.{IsStrictlySortedBy-dedup}
use Rattle.std.proofs.lemmas.List.Sorted.{Contains-permutation, IsPermutation-sym}
use Rattle.std.proofs.lemmas.Map.Text.{is_eq-slice_cmp}
use Rattle.std.proofs.lemmas.Slice.Eq.{bytes_eq-Decides}
use Rattle.name_sets.specs.NameLists.{precedes, is_among, with_name, name_set}

abbrev Bytes : Type 0
Bytes = List ℕ

-- the order of bytes
abbrev order : Bytes → Bytes → Ordering
order = slice_cmp nat_cmp

abbrev pub Ascends : List Bytes → Type 0
Ascends = IsStrictlySortedBy order

-- each of some names comes after one
abbrev After : Bytes → List Bytes → Type 0
After m = AllByRecursion (λ n. order m n ≡ Less)

precedes_is : (a b : Bytes) → precedes a b ≡ is_lt (order a b)
precedes_is a b =
    sym (same_from_slice_cmp nat_cmp is_lt precedes refl (λ _ _. refl) (λ _ _. refl) (λ x y xs ys o h. grind (arith, nat_tests)) a b (order a b) refl)

equal_is : (a b : Bytes) → bytes_eq a b ≡ is_eq (order a b)
equal_is a b = sym (is_eq-slice_cmp a b)

same : (a b : Bytes) → order a b ≡ Equal → a ≡ b
same a b e = (bytes_eq-Decides a b).0 (equal_is a b ∙ ap is_eq e)

later : (a b : Bytes) → order a b ≡ Greater → order b a ≡ Less
later a b e = nat_list_cmp_total.antisymm b a ∙ ap ordering_reverse e

-- ---- a set with one name more

-- by how the name compares with the first
abbrev placed : Bytes → Bytes → List Bytes → List Bytes → Ordering → List Bytes
placed n k ks rest Less = n ∷ k ∷ ks
placed n k ks rest Equal = k ∷ ks
placed n k ks rest Greater = k ∷ rest

with_name_is : (n k : Bytes) (ks : List Bytes) → with_name n (k ∷ ks) ≡ placed n k ks (with_name n ks) (order n k)
with_name_is n k ks =
    ap (λ b. if b then k ∷ ks else (if precedes n k then n ∷ k ∷ ks else k ∷ with_name n ks)) (equal_is n k)
    ∙ ap (λ b. if is_eq (order n k) then k ∷ ks else (if b then n ∷ k ∷ ks else k ∷ with_name n ks)) (precedes_is n k)
    ∙ by (order n k) (with_name n ks)
  where
    by : (o : Ordering) (rest : List Bytes)
        → (if is_eq o then k ∷ ks else (if is_lt o then n ∷ k ∷ ks else k ∷ rest)) ≡ placed n k ks rest o
    by Less rest = refl
    by Equal rest = refl
    by Greater rest = refl

after_two : (m n : Bytes) (ns : List Bytes) → order m n ≡ Less → After n ns → After m ns
after_two m n [] b after = tt
after_two m n (k ∷ ks) b after = (nat_list_cmp_total.trans m n k b after.0, after_two m n ks b after.1)

after_with : (m n : Bytes) (ns : List Bytes) → order m n ≡ Less → After m ns → After m (with_name n ns)
after_with m n [] b after = (b, tt)
after_with m n (k ∷ ks) b after =
    subst (After m) (sym (with_name_is n k ks)) (by (order n k) (after_with m n ks b after.1))
  where
    by : (o : Ordering) → After m (with_name n ks) → After m (placed n k ks (with_name n ks) o)
    by Less rest = (b, after)
    by Equal rest = after
    by Greater rest = (after.0, rest)

ascends_with : (n : Bytes) (ns : List Bytes) → Ascends ns → Ascends (with_name n ns)
unfolding IsStrictlySortedBy
ascends_with n [] a = (tt, tt)
ascends_with n (k ∷ ks) a = subst Ascends (sym (with_name_is n k ks)) (by (order n k) refl (ascends_with n ks a.1))
  where
    by : (o : Ordering) → order n k ≡ o → Ascends (with_name n ks) → Ascends (placed n k ks (with_name n ks) o)
    by Less e rest = ((e, after_two n k ks e a.0), a)
    by Equal e rest = a
    by Greater e rest = (after_with k n ks (later n k e) a.0, rest)

-- a set is in the order of bytes
pub set_ascends : (ns : List Bytes) → Ascends (name_set ns)
unfolding IsStrictlySortedBy
set_ascends [] = tt
set_ascends (n ∷ ns) = ascends_with n (name_set ns) (set_ascends ns)

-- ---- what is among a set

twice : (a b c : Bool) → a ≡ b → (b || c) ≡ (a || (b || c))
twice true true c e = refl
twice false false c e = refl
twice true false c e = cc
twice false true c e = cc

turned : (a b c : Bool) → (a || (b || c)) ≡ (b || (a || c))
turned true true c = refl
turned true false c = refl
turned false true c = refl
turned false false c = refl

among_with : (z n : Bytes) (ns : List Bytes) → is_among (with_name n ns) z ≡ (bytes_eq z n || is_among ns z)
among_with z n [] = refl
among_with z n (k ∷ ks) = ap (λ ns. is_among ns z) (with_name_is n k ks) ∙ by (order n k) refl (among_with z n ks)
  where
    by : (o : Ordering) → order n k ≡ o → is_among (with_name n ks) z ≡ (bytes_eq z n || is_among ks z)
        → is_among (placed n k ks (with_name n ks) o) z ≡ (bytes_eq z n || (bytes_eq z k || is_among ks z))
    by Less e rest = refl
    by Equal e rest = twice (bytes_eq z n) (bytes_eq z k) (is_among ks z) (ap (bytes_eq z) (same n k e))
    by Greater e rest = ap (λ b. bytes_eq z k || b) rest ∙ turned (bytes_eq z k) (bytes_eq z n) (is_among ks z)

-- a set has the names that it is the set of
pub among_set : (z : Bytes) (ns : List Bytes) → is_among (name_set ns) z ≡ is_among ns z
among_set z [] = refl
among_set z (n ∷ ns) = among_with z n (name_set ns) ∙ ap (λ b. bytes_eq z n || b) (among_set z ns)

-- ---- two sets with the same names are equal

not_less : (o : Ordering) → o ≡ Equal → o ≡ Less → ⊥
not_less o e f = cc

-- a name among some that are after another is after it
among_after : (m z : Bytes) (ns : List Bytes) → After m ns → is_among ns z ≡ true → order m z ≡ Less
among_after m z [] after e = cc
among_after m z (k ∷ ks) after e = by (bytes_eq z k) refl (among_after m z ks after.1) e
  where
    by : (b : Bool) → bytes_eq z k ≡ b → (is_among ks z ≡ true → order m z ≡ Less) → (b || is_among ks z) ≡ true → order m z ≡ Less
    by true is rest e = subst (λ x. order m x ≡ Less) (sym ((bytes_eq-Decides z k).0 is)) after.0
    by false is rest e = rest e

itself : (z : Bytes) → bytes_eq z z ≡ true
itself z = (bytes_eq-Decides z z).1 refl

pub first_among : (z : Bytes) (ns : List Bytes) → is_among (z ∷ ns) z ≡ true
first_among z ns = ap (λ b. b || is_among ns z) (itself z)

-- the first of a set isn't after the first of another that has it
not_before : (x y : Bytes) (ys : List Bytes) → After y ys → is_among (y ∷ ys) x ≡ true → order x y ≡ Less → ⊥
not_before x y ys after e less = by (bytes_eq x y) refl e
  where
    by : (b : Bool) → bytes_eq x y ≡ b → (b || is_among ys x) ≡ true → ⊥
    by true is e = not_less (order x y) (subst (λ z. order x z ≡ Equal) ((bytes_eq-Decides x y).0 is) (tied_itself nat_list_cmp_total x)) less
    by false is e =
        not_less (order x x) (tied_itself nat_list_cmp_total x)
        (nat_list_cmp_total.trans x y x less (among_after y x ys after e))

one_first : (x y : Bytes) (xs ys : List Bytes) → After x xs → After y ys → is_among (y ∷ ys) x ≡ true → is_among (x ∷ xs) y ≡ true → x ≡ y
one_first x y xs ys f g e h = by (order x y) refl
  where
    by : (o : Ordering) → order x y ≡ o → x ≡ y
    by Less is = absurd (not_before x y ys g e is)
    by Equal is = same x y is
    by Greater is = absurd (not_before y x xs f h (later x y is))

-- without the first
rest_among : (x z : Bytes) (xs ys : List Bytes) → After x xs → After x ys → is_among (x ∷ xs) z ≡ is_among (x ∷ ys) z
    → is_among xs z ≡ is_among ys z
rest_among x z xs ys f g e = by (bytes_eq z x) refl e
  where
    none : (ns : List Bytes) → After x ns → z ≡ x → (b : Bool) → is_among ns z ≡ b → b ≡ false
    none ns after is true there =
        absurd (not_less (order x z) (subst (λ y. order x y ≡ Equal) (sym is) (tied_itself nat_list_cmp_total x)) (among_after x z ns after there))
    none ns after is false there = refl

    by : (b : Bool) → bytes_eq z x ≡ b → (b || is_among xs z) ≡ (b || is_among ys z) → is_among xs z ≡ is_among ys z
    by true is e =
        let one = (bytes_eq-Decides z x).0 is in
        none xs f one (is_among xs z) refl ∙ sym (none ys g one (is_among ys z) refl)
    by false is e = e

pub same_sets : (xs ys : List Bytes) → Ascends xs → Ascends ys → ((z : Bytes) → is_among xs z ≡ is_among ys z) → xs ≡ ys
unfolding IsStrictlySortedBy
same_sets [] [] a b e = refl
same_sets [] (y ∷ ys) a b e = let no = e y ∙ first_among y ys in cc
same_sets (x ∷ xs) [] a b e = let no = sym (e x) ∙ first_among x xs in cc
same_sets (x ∷ xs) (y ∷ ys) a b e =
    let one : x ≡ y = one_first x y xs ys a.0 b.0 (sym (e x) ∙ first_among x xs) (e y ∙ first_among y ys) in
    let after : After x ys = subst (λ z. After z ys) (sym one) b.0 in
    ap (λ z. z ∷ xs) one
    ∙ ap (λ zs. y ∷ zs)
    (same_sets xs ys a.1 b.1 (λ z. rest_among x z xs ys a.0 after (e z ∙ ap (λ n. is_among (n ∷ ys) z) (sym one))))

-- a list in the order of bytes is the set of the names that it has
pub set_of_same : (xs ns : List Bytes) → Ascends xs → ((z : Bytes) → is_among xs z ≡ is_among ns z) → xs ≡ name_set ns
set_of_same xs ns a e = same_sets xs (name_set ns) a (set_ascends ns) (λ z. e z ∙ sym (among_set z ns))

-- ---- sorted texts without equal neighbours

module _ {Z : Type 0} where
  abbrev text : String Z → Bytes
  text = string_bytes

  after_map : (x : String Z) (xs : List (String Z)) → AllByRecursion (λ y. string_cmp x y ≡ Less) xs → After (text x) (map text xs)
  after_map x [] a = tt
  after_map x (y ∷ ys) a = (a.0, after_map x ys a.1)

  ascends_map : (xs : List (String Z)) → IsStrictlySortedBy string_cmp xs → Ascends (map text xs)
  unfolding IsStrictlySortedBy
  ascends_map [] a = tt
  ascends_map (x ∷ xs) a = (after_map x xs a.0, ascends_map xs a.1)

  among_map : (z : Bytes) (xs : List (String Z)) → is_among (map text xs) z ≡ list_any (λ x. bytes_eq z (text x)) xs
  among_map z [] = refl
  among_map z (x ∷ xs) = ap (λ b. bytes_eq z (text x) || b) (among_map z xs)

  any_from : (p : String Z → Bool) (xs ys : List (String Z)) → IsPermutation xs ys → list_any p xs ≡ true → list_any p ys ≡ true
  any_from p xs ys s e =
      let some = Any-from_list_any p xs e in
      let there = Contains-permutation xs ys some.1 s (some.0, some.2, some.3) in
      list_any-from_Any p ys (there.0, some.1, there.1, there.2, some.4)

  any_same : (p : String Z → Bool) (xs ys : List (String Z)) → IsPermutation xs ys → list_any p ys ≡ list_any p xs
  any_same p xs ys s = both_ways (list_any p ys) (list_any p xs) (any_from p ys xs (IsPermutation-sym xs ys s)) (any_from p xs ys s)

  -- texts that are equal to the last one kept are dropped, and none other
  any_dedup_from : (z : Bytes) (k : String Z) (xs : List (String Z))
      → list_any (λ x. bytes_eq z (text x)) (dedup_from string_eq k xs) ≡ (bytes_eq z (text k) || list_any (λ x. bytes_eq z (text x)) xs)
  any_dedup_from z k [] = refl
  any_dedup_from z k (x ∷ xs) = by (string_eq x k) refl (any_dedup_from z k xs) (any_dedup_from z x xs)
    where
      by : (b : Bool) → string_eq x k ≡ b
          → list_any (λ y. bytes_eq z (text y)) (dedup_from string_eq k xs) ≡ (bytes_eq z (text k) || list_any (λ y. bytes_eq z (text y)) xs)
          → list_any (λ y. bytes_eq z (text y)) (dedup_from string_eq x xs) ≡ (bytes_eq z (text x) || list_any (λ y. bytes_eq z (text y)) xs)
          → list_any (λ y. bytes_eq z (text y)) (if b then dedup_from string_eq k xs else k ∷ dedup_from string_eq x xs)
          ≡ (bytes_eq z (text k) || (bytes_eq z (text x) || list_any (λ y. bytes_eq z (text y)) xs))
      by true e one other =
          one
          ∙ twice (bytes_eq z (text x)) (bytes_eq z (text k)) (list_any (λ y. bytes_eq z (text y)) xs)
          (ap (bytes_eq z) ((bytes_eq-Decides (text x) (text k)).0 e))
          ∙ turned (bytes_eq z (text x)) (bytes_eq z (text k)) (list_any (λ y. bytes_eq z (text y)) xs)
      by false e one other = ap (λ b. bytes_eq z (text k) || b) other

  any_dedup : (z : Bytes) (xs : List (String Z))
      → list_any (λ x. bytes_eq z (text x)) (dedup string_eq xs) ≡ list_any (λ x. bytes_eq z (text x)) xs
  any_dedup z [] = refl
  any_dedup z (x ∷ xs) = any_dedup_from z x xs

  pub set_of_sorted : (xs ys : List (String Z)) → IsPermutation xs ys → IsSorted string_cmp ys
      → map text (dedup string_eq ys) ≡ name_set (map text xs)
  set_of_sorted xs ys s sorted =
      set_of_same (map text (dedup string_eq ys)) (map text xs)
      (ascends_map (dedup string_eq ys) (IsStrictlySortedBy-dedup string_cmp_total (λ x y. equal_is (text x) (text y)) ys sorted))
      (λ z. among_map z (dedup string_eq ys) ∙ any_dedup z ys ∙ any_same (λ x. bytes_eq z (text x)) xs ys s ∙ sym (among_map z xs))
