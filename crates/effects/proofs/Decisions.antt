-- What is decided: it holds or it doesn't.
use Rattle.std.proofs.Common.{◌≡◌, Bool, true, false, List, [], ◌∷◌, Some, None, refl, sym, subst, ap, ◌⊎◌, inl, inr}
use Rattle.std.specs.Prelude.{Option, bytes_eq}
use Rattle.std.specs.Bool.{Decides}
use Rattle.std.proofs.lemmas.Slice.Eq.{bytes_eq-Decides}
use Rattle.c_tree.specs.BareExpr.{Bytes}
use Rattle.effects.proofs.Reachable.{Among}

-- P holds or doesn't
abbrev pub Decision : Type 0 → Type 0
Decision P = P ⊎ (P → ⊥)

-- the test that it gives
abbrev pub holds : {P : Type 0} → Decision P → Bool
holds (inl p) = true
holds (inr n) = false

no : false ≡ true → ⊥
no e = cc

pub holds_decides : {P : Type 0} (d : Decision P) → Decides (holds d) P
holds_decides (inl p) = (λ e. p, λ q. refl)
holds_decides (inr n) = (λ e. absurd (no e), λ q. absurd (n q))

-- the decision that a test gives
pub by_test : {P : Type 0} (b : Bool) → Decides b P → Decision P
by_test true d = inl (d.0 refl)
by_test false d = inr (λ p. no (d.1 p))

-- what comes to the same as something decided
pub same_as : {P Q : Type 0} → (P → Q) → (Q → P) → Decision P → Decision Q
same_as to back (inl p) = inl (to p)
same_as to back (inr n) = inr (λ q. n (back q))

pub both : {P Q : Type 0} → Decision P → Decision Q → Decision (P × Q)
both (inl p) (inl q) = inl (p, q)
both (inl p) (inr n) = inr (λ x. n x.1)
both (inr n) d = inr (λ x. n x.0)

pub either : {P Q : Type 0} → Decision P → Decision Q → Decision (P ⊎ Q)
either (inl p) d = inl (inl p)
either (inr n) (inl q) = inl (inr q)
either (inr n) (inr m) = inr (λ x. elim x [ inl p ↦ n p | inr q ↦ m q ])

-- whether P holds of an item of a list
among_or_not : {A : Type 0} (P : A → Type 0) → ((x : A) → Decision (P x)) → (xs : List A)
    → Decision ((x : A) × Among xs x × P x)
among_or_not P decide [] = inr (λ s. s.1)
among_or_not {A} P decide (x ∷ xs) = by (decide x) (among_or_not P decide xs)
  where
    by : Decision (P x) → Decision ((y : A) × Among xs y × P y) → Decision ((y : A) × Among (x ∷ xs) y × P y)
    by (inl p) d = inl (x, inl refl, p)
    by (inr n) (inl s) = inl (s.0, inr s.1, s.2)
    by (inr n) (inr m) = inr (λ s. elim s.1 [ inl e ↦ n (subst P (sym e) s.2) | inr a ↦ m (s.0, a, s.2) ])

-- whether P holds of anything, where what P holds of is in a list
pub some_or_not : {A : Type 0} (P : A → Type 0) (xs : List A) → ((x : A) → Decision (P x)) → ((x : A) → P x → Among xs x)
    → Decision ((x : A) × P x)
some_or_not P xs decide within =
    same_as (λ s. (s.0, s.2)) (λ s. (s.0, within s.0 s.1, s.1)) (among_or_not P decide xs)

-- equality
pub same_bool : (a b : Bool) → Decision (a ≡ b)
same_bool true true = inl refl
same_bool true false = inr (λ e. cc)
same_bool false true = inr (λ e. cc)
same_bool false false = inl refl

pub same_bytes : (a b : Bytes) → Decision (a ≡ b)
same_bytes a b = by_test (bytes_eq a b) (bytes_eq-Decides a b)

item : {A : Type 0} (a b : A) → Some a ≡ Some b → a ≡ b
item a b e = cc

pub same_as_some : {A : Type 0} → ((a b : A) → Decision (a ≡ b)) → (o : Option A) (b : A) → Decision (o ≡ Some b)
same_as_some same None b = inr (λ e. cc)
same_as_some same (Some a) b = same_as (ap Some) (item a b) (same a b)
