-- What is in a union of sets of points.
use Rattle.std.proofs.Common.{◌≡◌, ℕ, zero, suc, ◌<◌, Bool, true, false, List, [], ◌∷◌, length, refl, subst, arith}
use Rattle.std.specs.Prelude.{◌==◌, nat_lt, Contains, if◌then◌else◌}
use Rattle.std.proofs.lemmas.Bool.Decides.{nat_tests}
use Rattle.c_semantics.specs.Skeletons.{with_point, union}

-- x is an item of a list
pub data In (x : ℕ) : List ℕ → Type 0 where
  here : (xs : List ℕ) → In x (x ∷ xs)
  further : (y : ℕ) (xs : List ℕ) → In x xs → In x (y ∷ xs)

zero_below : (n : ℕ) → 0 < suc n
zero_below n = omega arith

suc_below : (k n : ℕ) → k < n → suc k < suc n
suc_below k n h = omega (arith, h)

pub contains : (x : ℕ) (xs : List ℕ) → In x xs → Contains xs x
contains x xs (here ys) = (zero, zero_below (length ys), refl)
contains x xs (further y ys i) = shifted (contains x ys i)
  where
    shifted : Contains ys x → Contains (y ∷ ys) x
    shifted (k, below, is) = (suc k, suc_below k (length ys) below, is)

equal_numbers : (n m : ℕ) → (n == m) ≡ true → n ≡ m
equal_numbers n m h = grind (arith, nat_tests, h)

-- the point that is put in
put_by : (n m : ℕ) (ms : List ℕ) (same below : Bool) → (n == m) ≡ same → In n (with_point n ms)
    → In n (if same then m ∷ ms else (if below then n ∷ m ∷ ms else m ∷ with_point n ms))
put_by n m ms true below e i = subst (λ x. In n (x ∷ ms)) (equal_numbers n m e) (here ms)
put_by n m ms false true e i = here (m ∷ ms)
put_by n m ms false false e i = further m (with_point n ms) i

put_in : (n : ℕ) (ms : List ℕ) → In n (with_point n ms)
put_in n [] = here []
put_in n (m ∷ ms) = put_by n m ms (n == m) (nat_lt n m) refl (put_in n ms)

-- the points that are there
kept_by : (x n m : ℕ) (ms : List ℕ) (same below : Bool) → In x (m ∷ ms) → In x (m ∷ with_point n ms)
    → In x (if same then m ∷ ms else (if below then n ∷ m ∷ ms else m ∷ with_point n ms))
kept_by x n m ms true below i j = i
kept_by x n m ms false true i j = further n (m ∷ ms) i
kept_by x n m ms false false i j = j

kept : (x n : ℕ) (ms : List ℕ) → In x ms → In x (with_point n ms)
kept x n ms (here xs) = kept_by x n x xs (n == x) (nat_lt n x) (here xs) (here (with_point n xs))
kept x n ms (further m xs i) =
    kept_by x n m xs (n == m) (nat_lt n m) (further m xs i) (further m (with_point n xs) (kept x n xs i))

pub in_right : (x : ℕ) (ns ms : List ℕ) → In x ms → In x (union ns ms)
in_right x [] ms i = i
in_right x (n ∷ ns) ms i = kept x n (union ns ms) (in_right x ns ms i)

pub in_left : (x : ℕ) (ns ms : List ℕ) → In x ns → In x (union ns ms)
in_left x ns ms (here xs) = put_in x (union xs ms)
in_left x ns ms (further n xs i) = kept x n (union xs ms) (in_left x xs ms i)
