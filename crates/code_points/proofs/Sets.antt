-- Members of sets of points.
use Rattle.std.proofs.Common.{◌≡◌, ℕ, zero, suc, ◌<◌, Bool, true, false, List, [], ◌∷◌, length, refl, sym, subst, arith, inl, inr}
use Rattle.std.specs.Prelude.{◌⊎◌, ◌==◌, nat_lt, Contains, if◌then◌else◌}
use Rattle.std.proofs.lemmas.Bool.Decides.{nat_tests}
use Rattle.c_semantics.specs.Skeletons.{with_point, union}

-- x is an item of a list
pub data In (x : ℕ) : List ℕ → Type 0 where
  here : (xs : List ℕ) → In x (x ∷ xs)
  further : (y : ℕ) (xs : List ℕ) → In x xs → In x (y ∷ xs)

zero_below : (n : ℕ) → 0 < suc n
zero_below n = omega arith

suc_below : (k n : ℕ) → k < n → suc k < suc n
suc_below k n h = omega (arith, h)

below : (k n : ℕ) → suc k < suc n → k < n
below k n h = omega (arith, h)

none_below : (k : ℕ) → k < 0 → ⊥
none_below k h = omega (arith, h)

pub contains : (x : ℕ) (xs : List ℕ) → In x xs → Contains xs x
contains x xs (here ys) = (zero, zero_below (length ys), refl)
contains x xs (further y ys i) = shifted (contains x ys i)
  where
    shifted : Contains ys x → Contains (y ∷ ys) x
    shifted (k, b, is) = (suc k, suc_below k (length ys) b, is)

pub contained : (x : ℕ) (xs : List ℕ) → Contains xs x → In x xs
contained x [] (k, b, is) = absurd (none_below k b)
contained x (y ∷ ys) (zero, b, is) = subst (λ z. In z (y ∷ ys)) is (here ys)
contained x (y ∷ ys) (suc k, b, is) = further y ys (contained x ys (k, below k (length ys) b, is))

equal_numbers : (n m : ℕ) → (n == m) ≡ true → n ≡ m
equal_numbers n m h = grind (arith, nat_tests, h)

-- the point that is put in, and the points that are there
put_by : (n m : ℕ) (ms : List ℕ) (same less : Bool) → (n == m) ≡ same → In n (with_point n ms)
    → In n (if same then m ∷ ms else (if less then n ∷ m ∷ ms else m ∷ with_point n ms))
put_by n m ms true less e i = subst (λ x. In n (x ∷ ms)) (equal_numbers n m e) (here ms)
put_by n m ms false true e i = here (m ∷ ms)
put_by n m ms false false e i = further m (with_point n ms) i

put_in : (n : ℕ) (ms : List ℕ) → In n (with_point n ms)
put_in n [] = here []
put_in n (m ∷ ms) = put_by n m ms (n == m) (nat_lt n m) refl (put_in n ms)

kept_by : (x n m : ℕ) (ms : List ℕ) (same less : Bool) → In x (m ∷ ms) → In x (m ∷ with_point n ms)
    → In x (if same then m ∷ ms else (if less then n ∷ m ∷ ms else m ∷ with_point n ms))
kept_by x n m ms true less i j = i
kept_by x n m ms false true i j = further n (m ∷ ms) i
kept_by x n m ms false false i j = j

kept : (x n : ℕ) (ms : List ℕ) → In x ms → In x (with_point n ms)
kept x n ms (here xs) = kept_by x n x xs (n == x) (nat_lt n x) (here xs) (here (with_point n xs))
kept x n ms (further m xs i) =
    kept_by x n m xs (n == m) (nat_lt n m) (further m xs i) (further m (with_point n xs) (kept x n xs i))

pub in_right : (x : ℕ) (ns ms : List ℕ) → In x ms → In x (union ns ms)
in_right x [] ms i = i
in_right x (n ∷ ns) ms i = kept x n (union ns ms) (in_right x ns ms i)

pub in_left : (x : ℕ) (ns ms : List ℕ) → In x ns → In x (union ns ms)
in_left x ns ms (here xs) = put_in x (union xs ms)
in_left x ns ms (further n xs i) = kept x n (union xs ms) (in_left x xs ms i)

-- no other points are there
item : (x m : ℕ) (ms : List ℕ) → In x (m ∷ ms) → (x ≡ m) ⊎ In x ms
item x m ms (here xs) = inl refl
item x m ms (further y xs i) = inr i

abbrev Old : ℕ → ℕ → List ℕ → Type 0
Old x n ms = (x ≡ n) ⊎ In x ms

first_of : (x m : ℕ) (ms : List ℕ) → x ≡ m → In x (m ∷ ms)
first_of x m ms e = subst (λ y. In y (m ∷ ms)) (sym e) (here ms)

old_further : (x n m : ℕ) (ms : List ℕ) → Old x n ms → Old x n (m ∷ ms)
old_further x n m ms (inl e) = inl e
old_further x n m ms (inr i) = inr (further m ms i)

old_put : (x n m : ℕ) (ms : List ℕ) → (In x (with_point n ms) → Old x n ms) → (x ≡ m) ⊎ In x (with_point n ms) → Old x n (m ∷ ms)
old_put x n m ms f (inl e) = inr (first_of x m ms e)
old_put x n m ms f (inr i) = old_further x n m ms (f i)

old_by : (x n m : ℕ) (ms : List ℕ) (same less : Bool) → (In x (with_point n ms) → Old x n ms)
    → In x (if same then m ∷ ms else (if less then n ∷ m ∷ ms else m ∷ with_point n ms)) → Old x n (m ∷ ms)
old_by x n m ms true less f i = inr i
old_by x n m ms false true f i = item x n (m ∷ ms) i
old_by x n m ms false false f i = old_put x n m ms f (item x m (with_point n ms) i)

old : (x n : ℕ) (ms : List ℕ) → In x (with_point n ms) → Old x n ms
old x n [] i = item x n [] i
old x n (m ∷ ms) i = old_by x n m ms (n == m) (nat_lt n m) (old x n ms) i

sided : (x n : ℕ) (ns ms : List ℕ) → (In x (union ns ms) → In x ns ⊎ In x ms) → Old x n (union ns ms) → In x (n ∷ ns) ⊎ In x ms
sided x n ns ms f (inl e) = inl (first_of x n ns e)
sided x n ns ms f (inr i) = left (f i)
  where
    left : In x ns ⊎ In x ms → In x (n ∷ ns) ⊎ In x ms
    left (inl j) = inl (further n ns j)
    left (inr j) = inr j

pub in_one : (x : ℕ) (ns ms : List ℕ) → In x (union ns ms) → In x ns ⊎ In x ms
in_one x [] ms i = inr i
in_one x (n ∷ ns) ms i = sided x n ns ms (in_one x ns ms) (old x n (union ns ms) i)

pub nothing_in : (x : ℕ) → In x [] → ⊥
nothing_in x i = none_below (contains x [] i).0 (contains x [] i).1

pub the_only : (x n : ℕ) → In x (n ∷ []) → x ≡ n
the_only x n i = by (item x n [] i)
  where
    by : (x ≡ n) ⊎ In x [] → x ≡ n
    by (inl e) = e
    by (inr j) = absurd (nothing_in x j)
