-- Places of code: code in two parts, and jumps.
use Rattle.std.proofs.Common.{◌≡◌, ℕ, suc, ◌+◌, [], ◌∷◌, ◌++◌, length, slice_get, Some, refl, sym, subst, ◌∙◌, arith, length-append}
use Rattle.bytecode.specs.Instructions.{Instruction}
use Rattle.tree_code.specs.Code.{Code}
use Rattle.tree_code.specs.CodedPieces.{HasAt, Reaches, there, jumps_on}

-- some code is between two places
pub record Span (code : Code) (p : ℕ) (is : Code) (end : ℕ) : Type 0 where
  pub has : HasAt code p is
  pub ends : end ≡ p + length is

-- code in two parts, the one behind the other
pub record Halves (code : Code) (p : ℕ) (a b : Code) (end : ℕ) : Type 0 where
  pub middle : ℕ
  pub first : Span code p a middle
  pub second : Span code middle b end

after_one : (p n : ℕ) → suc p + n ≡ p + suc n
after_one p n = omega arith

halves_of : (code : Code) (p : ℕ) (a b : Code) → HasAt code p (a ++ b) → HasAt code p a × HasAt code (p + length a) b
halves_of code p [] b h = (tt, subst (λ q. HasAt code q b) (omega arith) h)
halves_of code p (i ∷ a) b h =
    let r = halves_of code (suc p) a b h.1 in
    ((h.0, r.0), subst (λ q. HasAt code q b) (after_one p (length a)) r.1)

pub halves : (code : Code) (p : ℕ) (a b : Code) (end : ℕ) → Span code p (a ++ b) end → Halves code p a b end
halves code p a b end s =
    let r = halves_of code p a b s.has in
    record {
      middle = p + length a;
      first = record { has = r.0; ends = refl };
      second = record { has = r.1; ends = s.ends ∙ far (length a) (length b) (length-append a b) };
    }
  where
    far : (x y : ℕ) {z : ℕ} → z ≡ x + y → p + z ≡ p + x + y
    far x y e = omega (arith, e)

-- one instruction, and what is behind it
pub record Next (code : Code) (p : ℕ) (i : Instruction) (is : Code) (end : ℕ) : Type 0 where
  pub stands : slice_get code p ≡ Some i
  pub later : Span code (suc p) is end

pub next : (code : Code) (p : ℕ) (i : Instruction) (is : Code) (end : ℕ) → Span code p (i ∷ is) end → Next code p i is end
next code p i is end s =
    record { stands = s.has.0; later = record { has = s.has.1; ends = s.ends ∙ sym (after_one p (length is)) } }

-- nothing is between a place and itself
pub nothing_between : (code : Code) (p end : ℕ) → Span code p [] end → end ≡ p
nothing_between code p end s = s.ends ∙ none
  where
    none : p + 0 ≡ p
    none = omega arith

pub whole : (code : Code) (p : ℕ) (is : Code) → HasAt code p is → Span code p is (p + length is)
whole code p is h = record { has = h; ends = refl }

pub reaches_on : (code : Code) (p q r : ℕ) → Reaches code p q → Reaches code q r → Reaches code p r
reaches_on code p q r (there a) g = g
reaches_on code p q r (jumps_on a d b is h) g = jumps_on a d r is (reaches_on code (suc a + d) b r h g)
