-- Lists read by `get_elem?`, sums over them, and functions that are changed at one number.
use Rattle.std.proofs.Common.{◌≡◌, ◌≢◌, ◌⊎◌, ℕ, zero, suc, ◌+◌, ◌≤◌, List, [], ◌∷◌, ◌++◌, length, set, sym, refl, ap, subst, inl, inr, ⊎_elim, arith}
use mathlib.Core.Option.{some, some-injective, some-ne-none}
use native.Mathlib.Decide.{ℕ_discrete}
use lib.ListN.{get_elem?}
use Rattle.atomic_table.proofs.Lists.{at_set}
use Rattle.pass_lock.specs.Ruled.{total}

abbrev pick : {P : Type 0} → Dec P → ℕ → ℕ → ℕ
pick (yes _) a b = a
pick (no _) a b = b

-- f, but a at i
pub put : (ℕ → ℕ) → ℕ → ℕ → ℕ → ℕ
put f i a j = pick (ℕ_discrete j i) a (f j)

pub put_here : (f : ℕ → ℕ) (i a : ℕ) → put f i a i ≡ a
unfolding put
put_here f i a = go (ℕ_discrete i i)
  where
    go : (d : Dec (i ≡ i)) → pick d a (f i) ≡ a
    go (yes _) = refl
    go (no n) = absurd (n refl)

pub put_else : (f : ℕ → ℕ) (i a j : ℕ) → j ≢ i → put f i a j ≡ f j
unfolding put
put_else f i a j other = go (ℕ_discrete j i)
  where
    go : (d : Dec (j ≡ i)) → pick d a (f j) ≡ f j
    go (yes e) = absurd (other e)
    go (no _) = refl

-- f, but a where it was b
pub instead : (ℕ → ℕ) → ℕ → ℕ → ℕ → ℕ
instead f b a j = pick (ℕ_discrete (f j) b) a (f j)

pub instead_there : (f : ℕ → ℕ) (b a j : ℕ) → f j ≡ b → instead f b a j ≡ a
unfolding instead
instead_there f b a j e = go (ℕ_discrete (f j) b)
  where
    go : (d : Dec (f j ≡ b)) → pick d a (f j) ≡ a
    go (yes _) = refl
    go (no n) = absurd (n e)

pub instead_else : (f : ℕ → ℕ) (b a j : ℕ) → f j ≢ b → instead f b a j ≡ f j
unfolding instead
instead_else f b a j other = go (ℕ_discrete (f j) b)
  where
    go : (d : Dec (f j ≡ b)) → pick d a (f j) ≡ f j
    go (yes e) = absurd (other e)
    go (no _) = refl

module _ {A : Type 0} where
  pub at_last : (l : List A) (a b : A) (j : ℕ) → get_elem? (l ++ a ∷ []) j ≡ some b → (get_elem? l j ≡ some b) ⊎ ((j ≡ length l) × (a ≡ b))
  at_last [] a b zero e = inr (refl, some-injective a b e)
  at_last [] a b (suc j) e = absurd (some-ne-none b (sym e))
  at_last (x ∷ xs) a b zero e = inl e
  at_last (x ∷ xs) a b (suc j) e = ⊎_elim (λ t. inl t) (λ t. inr (ap suc t.0, t.1)) (at_last xs a b j e)

  pub set_at : (l : List A) (i : ℕ) (a b : A) → get_elem? l i ≡ some a → get_elem? (set l i b) i ≡ some b
  set_at [] i a b e = absurd (some-ne-none a (sym e))
  set_at (x ∷ xs) zero a b e = refl
  set_at (x ∷ xs) (suc i) a b e = set_at xs i a b e

  -- what holds of all items still holds where one is set
  pub all_set : (P : ℕ → A → Type 0) (l : List A) (i : ℕ) (a : A) → P i a → ((j : ℕ) (b : A) → j ≢ i → get_elem? l j ≡ some b → P j b) → (j : ℕ) (b : A) → get_elem? (set l i a) j ≡ some b → P j b
  all_set P l i a here else j b e = ⊎_elim (λ (t : (j ≡ i) × (a ≡ b)). subst (λ (x : ℕ × A). P x.0 x.1) (λ k. (sym t.0 k, t.1 k)) here)
      (λ (t : (j ≢ i) × (get_elem? l j ≡ some b)). else j b t.0 t.1) (at_set l i j a b e)

  pub total_set : (f : A → ℕ) (l : List A) (i : ℕ) (a b : A) → get_elem? l i ≡ some a → total f (set l i b) + f a ≡ total f l + f b
  total_set f [] i a b e = absurd (some-ne-none a (sym e))
  total_set f (x ∷ xs) zero a b e = let s : f x ≡ f a = ap f (some-injective x a e) in omega arith
  total_set f (x ∷ xs) (suc i) a b e = let s = total_set f xs i a b e in omega arith

  pub total_last : (f : A → ℕ) (l : List A) (a : A) → total f (l ++ a ∷ []) ≡ total f l + f a
  total_last f [] a = omega arith
  total_last f (x ∷ xs) a = let s = total_last f xs a in omega arith

  pub total_at : (f : A → ℕ) (l : List A) (i : ℕ) (a : A) → get_elem? l i ≡ some a → f a ≤ total f l
  total_at f [] i a e = absurd (some-ne-none a (sym e))
  total_at f (x ∷ xs) zero a e = let s : f x ≡ f a = ap f (some-injective x a e) in omega arith
  total_at f (x ∷ xs) (suc i) a e = let s = total_at f xs i a e in omega arith

  pub total_below : (f g : A → ℕ) (l : List A) → ((i : ℕ) (a : A) → get_elem? l i ≡ some a → f a ≤ g a) → total f l ≤ total g l
  total_below f g [] h = omega arith
  total_below f g (x ∷ xs) h = let s = total_below f g xs (λ i a e. h (suc i) a e) in let t = h 0 x refl in omega arith
