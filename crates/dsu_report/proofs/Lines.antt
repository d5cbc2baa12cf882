-- Lines that are written one after the other.
use Rattle.std.proofs.Common.{◌≡◌, ℕ, zero, suc, ◌+◌, ◌-◌, ◌<◌, List, ◌++◌, Option, sym, ◌∙◌, ap, subst, arith, append_assoc, append-nil}
use Rattle.std.specs.List.{flat_map, range_with_len}
use Rattle.std.specs.Io.KnownBytes.{Appends}
use Rattle.dsu_io.specs.Sinks.{AppendsFront}
use Rattle.dsu_io.proofs.Written.{Appends-then, AppendsFront-then}

-- so many lines, and others after them
lines_from : (f : ℕ → List ℕ) (a k n : ℕ)
    → flat_map f (range_with_len a (k + n)) ≡ flat_map f (range_with_len a k) ++ flat_map f (range_with_len (a + k) n)
lines_from f a zero n = ap (λ m. flat_map f (range_with_len a m)) (none_before n) ∙ ap (λ b. flat_map f (range_with_len b n)) (no_more a)
  where
    none_before : (m : ℕ) → 0 + m ≡ m
    none_before m = omega arith

    no_more : (m : ℕ) → m ≡ m + 0
    no_more m = omega arith
lines_from f a (suc k) n =
    ap (λ m. flat_map f (range_with_len a m)) (one_more k n)
    ∙ ap (λ rest. f a ++ rest) (lines_from f (a + 1) k n)
    ∙ ap (λ b. f a ++ (flat_map f (range_with_len (a + 1) k) ++ flat_map f (range_with_len b n))) (further a k)
    ∙ sym (append_assoc (f a) (flat_map f (range_with_len (a + 1) k)) (flat_map f (range_with_len (a + suc k) n)))
  where
    one_more : (i m : ℕ) → suc i + m ≡ suc (i + m)
    one_more i m = omega arith

    further : (m i : ℕ) → (m + 1) + i ≡ m + suc i
    further m i = omega arith

-- the lines before one
abbrev pub lines_before : (ℕ → List ℕ) → ℕ → List ℕ
lines_before f n = flat_map f (range_with_len 0 n)

from_first : (f : ℕ → List ℕ) (n k : ℕ) → lines_before f (n + k) ≡ lines_before f n ++ flat_map f (range_with_len n k)
from_first f n k = lines_from f 0 n k ∙ ap (λ a. lines_before f n ++ flat_map f (range_with_len a k)) (first n)
  where
    first : (m : ℕ) → 0 + m ≡ m
    first m = omega arith

before_next : (f : ℕ → List ℕ) (n : ℕ) → lines_before f (n + 1) ≡ lines_before f n ++ f n
before_next f n = from_first f n 1 ∙ ap (λ line. lines_before f n ++ line) (append-nil (f n))

within : (f : ℕ → List ℕ) (n all : ℕ) → n < all
    → lines_before f all ≡ lines_before f n ++ (f n ++ flat_map f (range_with_len (n + 1) (all - (n + 1))))
within f n all below = ap (lines_before f) (count all below) ∙ from_first f n (suc (all - (n + 1)))
  where
    count : (m : ℕ) → n < m → m ≡ n + suc (m - (n + 1))
    count m less = omega (arith, less)

-- one line more
pub line_more : (old mid new : Option (List ℕ)) (f : ℕ → List ℕ) (n : ℕ) → Appends old mid (lines_before f n) → Appends mid new (f n)
    → Appends old new (lines_before f (n + 1))
line_more old mid new f n before line =
    subst {A = List ℕ} (λ bytes. Appends old new bytes) (sym (before_next f n))
    (Appends-then old mid new (lines_before f n) (f n) before line)

-- a shorter prefix of it
pub line_front : (old mid new : Option (List ℕ)) (f : ℕ → List ℕ) (n all : ℕ) → n < all → Appends old mid (lines_before f n)
    → AppendsFront mid new (f n) → AppendsFront old new (lines_before f all)
line_front old mid new f n all below before line =
    subst {A = List ℕ} (λ bytes. AppendsFront old new bytes) (sym (within f n all below))
    (AppendsFront-then old mid new (lines_before f n) (f n) (flat_map f (range_with_len (n + 1) (all - (n + 1)))) before line)
