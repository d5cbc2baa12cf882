-- A body is well formed, or one instruction is the first that breaks it.
use Rattle.std.proofs.Common.{◌≡◌, ◌⊎◌, inl, inr, ℕ, zero, suc, ◌≤◌, ◌<◌, length, arith, refl, ap, zero-lt-suc}
use Rattle.code_kinds.specs.WellFormed.{FunctionCode, Shapes, Begins, Fits, WellFormed, BreaksAt}
use Rattle.code_verify.specs.Laws.{Excludes, IsOnce}

fits_below : (u : FunctionCode) (shapes : Shapes) (m n : ℕ) → m ≤ n → 0 < n → Fits u shapes n → Fits u shapes m
fits_below u shapes m n h some f = record {
  begins = λ _. f.begins some;
  fine = λ p i s lt. f.fine p i s (less p m n lt h);
  comes = λ p s lt. f.comes p s (less p m n lt h);
}
  where
    less : (p m n : ℕ) → p < m → m ≤ n → p < n
    less p m n a b = omega (arith, a, b)

pub well_formed_excludes : (u : FunctionCode) → Excludes u
well_formed_excludes u w n h b =
    b.broken w.shapes (fits_below u w.shapes (suc n) (length u.code) h (some n (length u.code) h) w.fits)
  where
    some : (n m : ℕ) → n < m → 0 < m
    some n m h = omega (arith, h)

earlier : (u : FunctionCode) (m n : ℕ) → m < n → BreaksAt u m → BreaksAt u n → ⊥
earlier u m n h a b = a.broken b.shapes (fits_below u b.shapes (suc m) n h (some m n h) b.before)
  where
    some : (n m : ℕ) → n < m → 0 < m
    some n m h = omega (arith, h)

pub breaks_once : (u : FunctionCode) → IsOnce u
breaks_once u m n a b = elim (order m n) [ inl e ↦ e | inr s ↦ elim s [ inl h ↦ absurd (earlier u m n h a b) | inr h ↦ absurd (earlier u n m h b a) ] ]
  where
    order : (m n : ℕ) → (m ≡ n) ⊎ ((m < n) ⊎ (n < m))
    order zero zero = inl refl
    order zero (suc n) = inr (inl (zero-lt-suc n))
    order (suc m) zero = inr (inr (zero-lt-suc m))
    order (suc m) (suc n) = elim (order m n) [ inl e ↦ inl (ap suc e) | inr s ↦ elim s [ inl h ↦ inr (inl (omega (arith, h))) | inr h ↦ inr (inr (omega (arith, h))) ] ]
