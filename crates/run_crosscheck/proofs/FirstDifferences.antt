-- Where two lists of bytes differ first.
use Rattle.std.proofs.Common.{◌≡◌, ◌≢◌, ℕ, zero, suc, ◌<◌, ◌≤◌, Bool, true, false, List, [], ◌∷◌, length, take, Option, Some, None, inl, inr, refl, sym, ◌∙◌, ap, arith}
use Rattle.std.specs.Prelude.{◌==◌, ◌↔◌, ◌⊎◌, option_map, slice_get, slice_index_or, if◌then◌else◌}
use Rattle.std.proofs.lemmas.Bool.Decides.{nat_tests}
use Rattle.std.proofs.lemmas.Option.{none-some, same_Some}
use Rattle.run_crosscheck.specs.Comparisons.{first_difference}
use Rattle.run_crosscheck.specs.ComparisonLaws.{AgreementIsEquality, DifferencesAreFirst}

same_byte : (x y : ℕ) → (x == y) ≡ true → x ≡ y
same_byte x y e = grind (arith, nat_tests, e)

byte_is : (x y : ℕ) → x ≡ y → (x == y) ≡ true
byte_is x y e = grind (arith, nat_tests, e)

other_byte : (x y : ℕ) → x ≢ y → (x == y) ≡ false
other_byte x y d = grind (arith, nat_tests, d)

differs : (x y : ℕ) → (x == y) ≡ false → x ≢ y
differs x y e = grind (arith, nat_tests, e)

no_more : (o : Option ℕ) → option_map suc o ≡ None → o ≡ None
no_more None e = refl
no_more (Some n) e = absurd (none-some (suc n) (sym e))

-- ---- where the bytes are the same up to a place

-- the bytes before a place are the same
abbrev pub SameBefore : List ℕ → List ℕ → ℕ → Type 0
SameBefore a b n = (k : ℕ) → k < n → slice_index_or a k 0 ≡ slice_index_or b k 0

later : (x y : ℕ) (xs ys : List ℕ) (n : ℕ) → SameBefore (x ∷ xs) (y ∷ ys) (suc n) → SameBefore xs ys n
later x y xs ys n same = λ k lt. same (suc k) (one_more k lt)
  where
    one_more : (k : ℕ) → k < n → suc k < suc n
    one_more k lt = omega (arith, lt)

zero_within : (n : ℕ) → zero < suc n
zero_within n = omega arith

pub one_more_same : (a b : List ℕ) (n : ℕ) → SameBefore a b n → slice_index_or a n 0 ≡ slice_index_or b n 0 → SameBefore a b (suc n)
one_more_same a b n same here = λ k lt. by k lt (k == n) refl
  where
    is : (k : ℕ) → (k == n) ≡ true → k ≡ n
    is k e = grind (arith, nat_tests, e)

    before : (k : ℕ) → k < suc n → (k == n) ≡ false → k < n
    before k lt e = grind (arith, nat_tests, lt, e)

    by : (k : ℕ) → k < suc n → (t : Bool) → (k == n) ≡ t → slice_index_or a k 0 ≡ slice_index_or b k 0
    by k lt true e = ap (λ j. slice_index_or a j 0) (is k e) ∙ here ∙ ap (λ j. slice_index_or b j 0) (sym (is k e))
    by k lt false e = same k (before k lt e)

-- two bytes that differ there
pub differs_there : (a b : List ℕ) (n : ℕ) → SameBefore a b n → n < length a → n < length b
    → slice_index_or a n 0 ≢ slice_index_or b n 0 → first_difference a b ≡ Some n
differs_there [] b n same within fits other = absurd (omega (arith, within))
differs_there (x ∷ xs) [] n same within fits other = absurd (omega (arith, fits))
differs_there (x ∷ xs) (y ∷ ys) zero same within fits other =
    ap (λ t. if t then option_map suc (first_difference xs ys) else Some 0) (other_byte x y other)
differs_there (x ∷ xs) (y ∷ ys) (suc n) same within fits other =
    ap (λ t. if t then option_map suc (first_difference xs ys) else Some 0) (byte_is x y (same 0 (zero_within n)))
    ∙ ap (option_map suc) (differs_there xs ys n (later x y xs ys n same) (omega (arith, within)) (omega (arith, fits)) other)

-- one of them ends
pub ends_there : (a b : List ℕ) (n : ℕ) → SameBefore a b n → n ≤ length a → n ≤ length b
    → ((length a ≡ n) ⊎ (length b ≡ n)) → length a ≢ length b → first_difference a b ≡ Some n
ends_there a b n same within fits ends other = by a b n same within fits ends other
  where
    by : (a b : List ℕ) (n : ℕ) → SameBefore a b n → n ≤ length a → n ≤ length b → ((length a ≡ n) ⊎ (length b ≡ n)) → length a ≢ length b
        → first_difference a b ≡ Some n
    by [] [] n same within fits ends other = absurd (other refl)
    by [] (y ∷ ys) zero same within fits ends other = refl
    by [] (y ∷ ys) (suc n) same within fits ends other = absurd (omega (arith, within))
    by (x ∷ xs) [] zero same within fits ends other = refl
    by (x ∷ xs) [] (suc n) same within fits ends other = absurd (omega (arith, fits))
    by (x ∷ xs) (y ∷ ys) zero same within fits (inl e) other = absurd (omega (arith, e))
    by (x ∷ xs) (y ∷ ys) zero same within fits (inr e) other = absurd (omega (arith, e))
    by (x ∷ xs) (y ∷ ys) (suc n) same within fits ends other =
        ap (λ t. if t then option_map suc (first_difference xs ys) else Some 0) (byte_is x y (same 0 (zero_within n)))
        ∙ ap (option_map suc) (by xs ys n (later x y xs ys n same) (omega (arith, within)) (omega (arith, fits)) (one_less ends) (λ e. other (ap suc e)))
      where
        one_less : ((suc (length xs) ≡ suc n) ⊎ (suc (length ys) ≡ suc n)) → ((length xs ≡ n) ⊎ (length ys ≡ n))
        one_less (inl e) = inl (omega (arith, e))
        one_less (inr e) = inr (omega (arith, e))

-- the shorter one does
pub ends_at_shorter : (a b : List ℕ) (n : ℕ) → SameBefore a b n → n ≤ length a → n ≤ length b → (n < length a → n < length b → ⊥)
    → length a ≢ length b → first_difference a b ≡ Some n
ends_at_shorter a b n same within fits ends other = ends_there a b n same within fits (by (length a == n) (length b == n) refl refl) other
  where
    is : (m : ℕ) → (m == n) ≡ true → m ≡ n
    is m e = grind (arith, nat_tests, e)

    further_on : (m : ℕ) → n ≤ m → (m == n) ≡ false → n < m
    further_on m le e = grind (arith, nat_tests, le, e)

    by : (s t : Bool) → (length a == n) ≡ s → (length b == n) ≡ t → (length a ≡ n) ⊎ (length b ≡ n)
    by true t e f = inl (is (length a) e)
    by false true e f = inr (is (length b) f)
    by false false e f = absurd (ends (further_on (length a) within e) (further_on (length b) fits f))

-- both end
pub same_to_the_end : (a b : List ℕ) (n : ℕ) → SameBefore a b n → length a ≡ n → length b ≡ n → first_difference a b ≡ None
same_to_the_end [] [] n same e f = refl
same_to_the_end [] (y ∷ ys) n same e f = absurd (omega (arith, e, f))
same_to_the_end (x ∷ xs) [] n same e f = absurd (omega (arith, e, f))
same_to_the_end (x ∷ xs) (y ∷ ys) zero same e f = absurd (omega (arith, e))
same_to_the_end (x ∷ xs) (y ∷ ys) (suc n) same e f =
    ap (λ t. if t then option_map suc (first_difference xs ys) else Some 0) (byte_is x y (same 0 (zero_within n)))
    ∙ ap (option_map suc) (same_to_the_end xs ys n (later x y xs ys n same) (omega (arith, e)) (omega (arith, f)))

-- ---- laws

equal_where_none : (a b : List ℕ) → first_difference a b ≡ None → a ≡ b
equal_where_none [] [] e = refl
equal_where_none [] (y ∷ ys) e = absurd (none-some 0 (sym e))
equal_where_none (x ∷ xs) [] e = absurd (none-some 0 (sym e))
equal_where_none (x ∷ xs) (y ∷ ys) e = by (equal_where_none xs ys) (x == y) refl e
  where
    by : (first_difference xs ys ≡ None → xs ≡ ys) → (t : Bool) → (x == y) ≡ t
        → (if t then option_map suc (first_difference xs ys) else Some 0) ≡ None → x ∷ xs ≡ y ∷ ys
    by rest true same none =
        ap (λ z. z ∷ xs) (same_byte x y same) ∙ ap (λ zs. y ∷ zs) (rest (no_more (first_difference xs ys) none))
    by rest false same none = absurd (none-some 0 (sym none))

none_of_itself : (a : List ℕ) → first_difference a a ≡ None
none_of_itself [] = refl
none_of_itself (x ∷ xs) =
    ap (λ t. if t then option_map suc (first_difference xs xs) else Some 0) (byte_is x x refl) ∙ ap (option_map suc) (none_of_itself xs)

pub agreement_is_equality : AgreementIsEquality
agreement_is_equality a b = (equal_where_none a b, λ e. ap (first_difference a) (sym e) ∙ none_of_itself a)

-- what is said of a first difference
abbrev IsFirst : List ℕ → List ℕ → ℕ → Type 0
IsFirst a b n = (take n a ≡ take n b) × (slice_get a n ≢ slice_get b n)

at_first : (x y : ℕ) (xs ys : List ℕ) (n : ℕ) → 0 ≡ n → x ≢ y → IsFirst (x ∷ xs) (y ∷ ys) n
at_first x y xs ys zero is other = (refl, λ same. other (same_Some x y same))
at_first x y xs ys (suc n) is other = absurd (omega (arith, is))

further : (x y : ℕ) (xs ys : List ℕ) (n : ℕ) (o : Option ℕ) → ((m : ℕ) → o ≡ Some m → IsFirst xs ys m) → x ≡ y
    → option_map suc o ≡ Some n → IsFirst (x ∷ xs) (y ∷ ys) n
further x y xs ys n None rest same at = absurd (none-some n at)
further x y xs ys zero (Some m) rest same at = absurd (no (same_Some (suc m) zero at))
  where
    no : suc m ≡ zero → ⊥
    no h = omega (arith, h)
further x y xs ys (suc n) (Some m) rest same at =
    let first = rest n (ap Some (less (same_Some (suc m) (suc n) at))) in
    (ap (λ z. z ∷ take n xs) same ∙ ap (λ zs. y ∷ zs) first.0, first.1)
  where
    less : suc m ≡ suc n → m ≡ n
    less h = omega (arith, h)

by_byte : (x y : ℕ) (xs ys : List ℕ) (n : ℕ) → ((m : ℕ) → first_difference xs ys ≡ Some m → IsFirst xs ys m) → (t : Bool) → (x == y) ≡ t
    → (if t then option_map suc (first_difference xs ys) else Some 0) ≡ Some n → IsFirst (x ∷ xs) (y ∷ ys) n
by_byte x y xs ys n rest true same at = further x y xs ys n (first_difference xs ys) rest (same_byte x y same) at
by_byte x y xs ys n rest false same at = at_first x y xs ys n (same_Some 0 n at) (differs x y same)

pub differences_are_first : DifferencesAreFirst
differences_are_first [] [] n e = absurd (none-some n e)
differences_are_first [] (y ∷ ys) n e = by n (same_Some 0 n e)
  where
    by : (n : ℕ) → 0 ≡ n → IsFirst [] (y ∷ ys) n
    by zero is = (refl, λ same. none-some y same)
    by (suc n) is = absurd (omega (arith, is))
differences_are_first (x ∷ xs) [] n e = by n (same_Some 0 n e)
  where
    by : (n : ℕ) → 0 ≡ n → IsFirst (x ∷ xs) [] n
    by zero is = (refl, λ same. none-some x (sym same))
    by (suc n) is = absurd (omega (arith, is))
differences_are_first (x ∷ xs) (y ∷ ys) n e = by_byte x y xs ys n (λ m first. differences_are_first xs ys m first) (x == y) refl e
