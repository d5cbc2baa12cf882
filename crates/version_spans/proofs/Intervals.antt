-- The numbers of a range that lie between two numbers, and so the span of a record.
use Rattle.std.proofs.Common.{◌≡◌, ℕ, zero, suc, ◌+◌, ◌-◌, ◌<◌, ◌≤◌, ◌⊎◌, inl, inr, max, Bool, true, false, ◌&&◌, ◌∷◌, filter, cond, Option, Some, None, refl, sym, ap, ap₂, ◌∙◌, arith}
use Rattle.std.specs.Prelude.{nat_le, unwrap_or, IfSome}
use Rattle.std.specs.List.{list_all, range_with_len}
use Rattle.std.proofs.lemmas.Bool.{false≢true}
use Rattle.c_semantics.specs.Threads.{Record}
use Rattle.source_model.specs.Versions.{Table, current, greatest_of}
use Rattle.source_model.specs.Spans.{first_of, has_version, shared, span}
use Rattle.version_spans.specs.declared.record.Record.{Record as Kept}
use Rattle.version_spans.specs.Kept.{IsKept, last_of}
use Rattle.version_spans.proofs.Numbers.{le_of, below_of}

-- two tests of which both pass, or one doesn't
pub both_pass : (a b : Bool) → (a && b) ≡ true → (a ≡ true) × (b ≡ true)
both_pass true b h = (refl, h)
both_pass false b h = absurd (false≢true h)

pub one_fails : (a b : Bool) → (a && b) ≡ false → (a ≡ false) ⊎ (b ≡ false)
one_fails true b h = inr h
one_fails false b h = inl refl

-- those of a range that are from a to b
between : (p : ℕ → Bool) (s k a b : ℕ) → ((v : ℕ) → s ≤ v → v < s + k → p v ≡ (nat_le a v && nat_le v b)) → b < s + k
    → filter p (range_with_len s k) ≡ range_with_len (max s a) (suc b - max s a)
between p s zero a b is less = ap (range_with_len (max s a)) (none (max s a) (omega arith))
  where
    none : (m : ℕ) → s ≤ m → 0 ≡ suc b - m
    none m h = omega (arith, less, h)
between p s (suc k) a b is less = by (p s) refl (between p (s + 1) k a b (λ v h i. is v (omega (arith, h)) (omega (arith, i))) (omega (arith, less)))
  where
    here : p s ≡ (nat_le a s && nat_le s b)
    here = is s (omega arith) (omega arith)

    by : (t : Bool) → p s ≡ t → filter p (range_with_len (s + 1) k) ≡ range_with_len (max (s + 1) a) (suc b - max (s + 1) a)
        → cond t (s ∷ filter p (range_with_len (s + 1) k)) (filter p (range_with_len (s + 1) k)) ≡ range_with_len (max s a) (suc b - max s a)
    by true e rest =
        let parts = both_pass (nat_le a s) (nat_le s b) (sym here ∙ e) in
        let low = le_of a s parts.0 in
        let high = le_of s b parts.1 in
        ap (λ l. s ∷ l) (rest ∙ ap₂ range_with_len (first low) (left low high)) ∙ sym (ap₂ range_with_len (from low) (all low high))
      where
        first : a ≤ s → max (s + 1) a ≡ s + 1
        first low = omega (arith, low)

        left : a ≤ s → s ≤ b → suc b - max (s + 1) a ≡ b - s
        left low high = omega (arith, low, high)

        from : a ≤ s → max s a ≡ s
        from low = omega (arith, low)

        all : a ≤ s → s ≤ b → suc b - max s a ≡ suc (b - s)
        all low high = omega (arith, low, high)
    by false e rest = rest ∙ outside (one_fails (nat_le a s) (nat_le s b) (sym here ∙ e))
      where
        below : s < a → max (s + 1) a ≡ max s a
        below h = omega (arith, h)

        no_more : b < s → suc b - max (s + 1) a ≡ 0
        no_more h = omega (arith, h)

        none : b < s → suc b - max s a ≡ 0
        none h = omega (arith, h)

        outside : (nat_le a s ≡ false) ⊎ (nat_le s b ≡ false)
            → range_with_len (max (s + 1) a) (suc b - max (s + 1) a) ≡ range_with_len (max s a) (suc b - max s a)
        outside (inl h) = ap (λ m. range_with_len m (suc b - m)) (below (below_of a s h))
        outside (inr h) =
            ap (range_with_len (max (s + 1) a)) (no_more (below_of s b h)) ∙ sym (ap (range_with_len (max s a)) (none (below_of s b h)))

greatest_of_range : (a n : ℕ) → greatest_of (range_with_len a (suc n)) ≡ a + n
greatest_of_range a zero = omega arith
greatest_of_range a (suc n) = ap (max a) (greatest_of_range (a + 1) n) ∙ later
  where
    later : max a ((a + 1) + n) ≡ a + suc n
    later = omega arith

-- ---- the span of a record

last_within : (o : Option ℕ) (n : ℕ) → IfSome o (λ v. v < n) → unwrap_or o n ≤ n
last_within None n h = omega arith
last_within (Some v) n h = omega (arith, h)

shared_are : (table : Table) (uses : Record) (r : Kept) → IsKept table uses r
    → shared table uses ≡ range_with_len r.first (suc (last_of r (current table)) - r.first)
shared_are table uses r h =
    between (λ v. list_all (has_version table v) uses) 1 (current table) r.first (last_of r (current table))
    (λ v low high. h.shared v low (most v (current table) high)) (within (last_of r (current table)) (current table) (last_within r.last (current table) h.ended))
    ∙ ap (λ m. range_with_len m (suc (last_of r (current table)) - m)) (from r.first h.begins.0)
  where
    most : (v n : ℕ) → v < 1 + n → v ≤ n
    most v n i = omega (arith, i)

    within : (l n : ℕ) → l ≤ n → l < 1 + n
    within l n i = omega (arith, i)

    from : (f : ℕ) → 1 ≤ f → max 1 f ≡ f
    from f i = omega (arith, i)

-- where an entry ended before another began, there is none
pub span_of_none : (table : Table) (slot : ℕ) (uses : Record) (r : Kept) → IsKept table uses r → last_of r (current table) < r.first
    → span table slot uses ≡ record { slot = slot; first = 0; last = 0 }
span_of_none table slot uses r h less =
    ap (λ vs. record { slot = slot; first = first_of vs; last = greatest_of vs })
    (shared_are table uses r h ∙ ap (range_with_len r.first) (none (last_of r (current table)) r.first less))
  where
    none : (l f : ℕ) → l < f → suc l - f ≡ 0
    none l f i = omega (arith, i)

pub span_of_some : (table : Table) (slot : ℕ) (uses : Record) (r : Kept) → IsKept table uses r → r.first ≤ last_of r (current table)
    → span table slot uses ≡ record { slot = slot; first = r.first; last = last_of r (current table) }
span_of_some table slot uses r h le =
    ap (λ vs. record { slot = slot; first = first_of vs; last = greatest_of vs })
    (shared_are table uses r h ∙ ap (range_with_len r.first) (some (last_of r (current table)) r.first le))
    ∙ ap (λ n. record { slot = slot; first = r.first; last = n })
    (greatest_of_range r.first (last_of r (current table) - r.first) ∙ to_last (last_of r (current table)) r.first le)
  where
    some : (l f : ℕ) → f ≤ l → suc l - f ≡ suc (l - f)
    some l f i = omega (arith, i)

    to_last : (l f : ℕ) → f ≤ l → f + (l - f) ≡ l
    to_last l f i = omega (arith, i)
