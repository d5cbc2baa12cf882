-- Which body is in force, in lists of bodies by their generations.
use Rattle.std.proofs.Common.{◌≡◌, ℕ, ◌<◌, ◌≤◌, Bool, true, false, ◌&&◌, List, [], ◌∷◌, ◌++◌, Option, Some, None, refl, ap, find, cond, arith}
use Rattle.std.specs.Prelude.{◌==◌, bytes_eq, max, nat_le, if◌then◌else◌}
use Rattle.std.proofs.lemmas.Bool.Decides.{nat_tests}
use Rattle.c_tree.specs.BareExpr.{Bytes}
use Rattle.c_semantics.specs.Store.{Body, generation_by, body_in}

-- the generations of some bodies have a property
abbrev pub Gens : (ℕ → Type 0) → List Body → Type 0
Gens P [] = Unit {0}
Gens P (b ∷ bs) = P b.generation × Gens P bs

pub gens_together : (P : ℕ → Type 0) (xs ys : List Body) → Gens P xs → Gens P ys → Gens P (xs ++ ys)
gens_together P [] ys a b = b
gens_together P (x ∷ xs) ys a b = (a.0, gens_together P xs ys a.1 b)

pub gens_weaker : (P Q : ℕ → Type 0) → ((n : ℕ) → P n → Q n) → (xs : List Body) → Gens P xs → Gens Q xs
gens_weaker P Q weaker [] a = tt
gens_weaker P Q weaker (x ∷ xs) a = (weaker x.generation a.0, gens_weaker P Q weaker xs a.1)

-- the first body of a function
abbrev pub named : Bytes → List Body → Option Body
named f = find (λ b. bytes_eq f b.function)

-- ---- generations

-- among later bodies none is there by a version
pub none_by : (f : Bytes) (n : ℕ) (ys : List Body) → Gens (λ g. n < g) ys → generation_by f n ys ≡ 0
none_by f n [] late = refl
none_by f n (b ∷ ys) late = by (bytes_eq f b.function) b.generation (generation_by f n ys) late.0 (none_by f n ys late.1)
  where
    by : (t : Bool) (g rest : ℕ) → n < g → rest ≡ 0 → (if t && nat_le g n then max g rest else rest) ≡ 0
    by true g rest late none = grind (arith, nat_tests, late, none)
    by false g rest late none = none

-- nor among bodies of other functions
pub none_named : (f : Bytes) (n : ℕ) (ys : List Body) → named f ys ≡ None → generation_by f n ys ≡ 0
none_named f n [] none = refl
none_named f n (b ∷ ys) none = by (bytes_eq f b.function) none (none_named f n ys)
  where
    by : (t : Bool) → cond t (Some b) (named f ys) ≡ None → (named f ys ≡ None → generation_by f n ys ≡ 0)
        → (if t && nat_le b.generation n then max b.generation (generation_by f n ys) else generation_by f n ys) ≡ 0
    by true none rest = cc
    by false none rest = rest none

-- bodies of which none is there change no generation
pub generation_stays : (f : Bytes) (n : ℕ) (xs ys : List Body) → generation_by f n ys ≡ 0
    → generation_by f n (xs ++ ys) ≡ generation_by f n xs
generation_stays f n [] ys none = none
generation_stays f n (b ∷ xs) ys none =
    ap (λ g. if bytes_eq f b.function && nat_le b.generation n then max b.generation g else g) (generation_stays f n xs ys none)

-- a generation that is the greatest
pub generation_rises : (f : Bytes) (n : ℕ) (xs ys : List Body) → Gens (λ g. g ≤ n) xs → generation_by f n ys ≡ n
    → generation_by f n (xs ++ ys) ≡ n
generation_rises f n [] ys old is = is
generation_rises f n (b ∷ xs) ys old is =
    by (bytes_eq f b.function) (nat_le b.generation n) b.generation (generation_by f n (xs ++ ys)) old.0 (generation_rises f n xs ys old.1 is)
  where
    by : (t u : Bool) (g rest : ℕ) → g ≤ n → rest ≡ n → (if t && u then max g rest else rest) ≡ n
    by true true g rest below is = omega (arith, below, is)
    by true false g rest below is = is
    by false u g rest below is = is

-- bodies of one generation
pub generation_of_all : (f : Bytes) (n : ℕ) (ys : List Body) (b : Body) → Gens (λ g. g ≡ n) ys → named f ys ≡ Some b
    → generation_by f n ys ≡ n
generation_of_all f n [] b all is = cc
generation_of_all f n (x ∷ ys) b all is = by (bytes_eq f x.function) is (generation_of_all f n ys b all.1)
  where
    at_most : (zs : List Body) → Gens (λ g. g ≡ n) zs → generation_by f n zs ≤ n
    at_most [] all = omega arith
    at_most (z ∷ zs) all = step (bytes_eq f z.function) (nat_le z.generation n) z.generation (generation_by f n zs) all.0 (at_most zs all.1)
      where
        step : (t u : Bool) (g rest : ℕ) → g ≡ n → rest ≤ n → (if t && u then max g rest else rest) ≤ n
        step true true g rest same below = omega (arith, same, below)
        step true false g rest same below = below
        step false u g rest same below = below

    greatest : (g rest : ℕ) → g ≡ n → rest ≤ n → (if nat_le g n then max g rest else rest) ≡ n
    greatest g rest same below = grind (arith, nat_tests, same, below)

    by : (t : Bool) → cond t (Some x) (named f ys) ≡ Some b → (named f ys ≡ Some b → generation_by f n ys ≡ n)
        → (if t && nat_le x.generation n then max x.generation (generation_by f n ys) else generation_by f n ys) ≡ n
    by true is rest = greatest x.generation (generation_by f n ys) all.0 (at_most ys all.1)
    by false is rest = rest is

-- where no generation is later than n, later versions see the same
pub generation_later : (f : Bytes) (n m : ℕ) (xs : List Body) → n ≤ m → Gens (λ g. g ≤ n) xs → generation_by f m xs ≡ generation_by f n xs
generation_later f n m [] after old = refl
generation_later f n m (b ∷ xs) after old =
    by (bytes_eq f b.function) b.generation (generation_by f m xs) (generation_by f n xs) old.0 (generation_later f n m xs after old.1)
  where
    seen : (g k : ℕ) → g ≤ k → nat_le g k ≡ true
    seen g k below = grind (arith, nat_tests, below)

    below_m : (g : ℕ) → g ≤ n → g ≤ m
    below_m g below = omega (arith, below, after)

    both : (g x y : ℕ) (u v : Bool) → u ≡ true → v ≡ true → x ≡ y → (if u then max g x else x) ≡ (if v then max g y else y)
    both g x y true true e i same = ap (max g) same
    both g x y true false e i same = absurd (no i)
      where
        no : false ≡ true → ⊥
        no e = cc
    both g x y false v e i same = absurd (no e)
      where
        no : false ≡ true → ⊥
        no e = cc

    by : (t : Bool) (g x y : ℕ) → g ≤ n → x ≡ y → (if t && nat_le g m then max g x else x) ≡ (if t && nat_le g n then max g y else y)
    by true g x y below same = both g x y (nat_le g m) (nat_le g n) (seen g m (below_m g below)) (seen g n below) same
    by false g x y below same = same

-- ---- bodies

pub none_of_generation : (f : Bytes) (n : ℕ) (ys : List Body) → Gens (λ g. (g == n) ≡ false) ys → body_in ys f n ≡ None
none_of_generation f n [] other = refl
none_of_generation f n (b ∷ ys) other =
    by (bytes_eq f b.function) (b.generation == n) other.0 (none_of_generation f n ys other.1)
  where
    by : (t u : Bool) → u ≡ false → body_in ys f n ≡ None → (if t && u then Some b else body_in ys f n) ≡ None
    by true true e rest = absurd (no e)
      where
        no : true ≡ false → ⊥
        no e = cc
    by true false e rest = rest
    by false u e rest = rest

pub differs_above : (n g : ℕ) → n < g → (g == n) ≡ false
differs_above n g h = grind (arith, nat_tests, h)

pub differs_below : (n g : ℕ) → g < n → (g == n) ≡ false
differs_below n g h = grind (arith, nat_tests, h)

pub body_stays : (f : Bytes) (n : ℕ) (xs ys : List Body) → body_in ys f n ≡ None → body_in (xs ++ ys) f n ≡ body_in xs f n
body_stays f n [] ys none = none
body_stays f n (b ∷ xs) ys none =
    ap (λ o. if bytes_eq f b.function && b.generation == n then Some b else o) (body_stays f n xs ys none)

pub found_first : (f : Bytes) (n : ℕ) (xs ys : List Body) (b : Body) → body_in xs f n ≡ Some b → body_in (xs ++ ys) f n ≡ Some b
found_first f n [] ys b is = cc
found_first f n (x ∷ xs) ys b is = by (bytes_eq f x.function && x.generation == n) is (found_first f n xs ys b)
  where
    by : (t : Bool) → (if t then Some x else body_in xs f n) ≡ Some b → (body_in xs f n ≡ Some b → body_in (xs ++ ys) f n ≡ Some b)
        → (if t then Some x else body_in (xs ++ ys) f n) ≡ Some b
    by true is rest = is
    by false is rest = rest is

pub found_second : (f : Bytes) (n : ℕ) (xs ys : List Body) → body_in xs f n ≡ None → body_in (xs ++ ys) f n ≡ body_in ys f n
found_second f n [] ys none = refl
found_second f n (x ∷ xs) ys none = by (bytes_eq f x.function && x.generation == n) none (found_second f n xs ys)
  where
    by : (t : Bool) → (if t then Some x else body_in xs f n) ≡ None → (body_in xs f n ≡ None → body_in (xs ++ ys) f n ≡ body_in ys f n)
        → (if t then Some x else body_in (xs ++ ys) f n) ≡ body_in ys f n
    by true none rest = cc
    by false none rest = rest none

pub found_in_generation : (f : Bytes) (n : ℕ) (ys : List Body) → Gens (λ g. g ≡ n) ys → body_in ys f n ≡ named f ys
found_in_generation f n [] all = refl
found_in_generation f n (b ∷ ys) all =
    by (bytes_eq f b.function) (b.generation == n) (same b.generation all.0) (found_in_generation f n ys all.1)
  where
    same : (g : ℕ) → g ≡ n → (g == n) ≡ true
    same g e = grind (arith, nat_tests, e)

    by : (t u : Bool) → u ≡ true → body_in ys f n ≡ named f ys → (if t && u then Some b else body_in ys f n) ≡ cond t (Some b) (named f ys)
    by true true e rest = refl
    by true false e rest = absurd (no e)
      where
        no : false ≡ true → ⊥
        no e = cc
    by false u e rest = rest
