-- No instruction breaks a well-formed body, and none after its end does.
use Rattle.std.proofs.Common.{◌≡◌, ◌≤◌, ◌<◌, ℕ, zero, suc, Bool, true, false, nat_lt, List, [], ◌∷◌, length, slice_get, Option, Some, None, refl, sym, ap, ◌∙◌, subst, arith, if◌then◌else◌}
use Rattle.std.specs.Prelude.{Contains}
use Rattle.std.proofs.lemmas.Bool.{lt-ltb, ltb-true}
use Rattle.bytecode.specs.Instructions.{Instruction}
use Rattle.code_kinds.specs.Shapes.{Shape, leads_to}
use Rattle.code_kinds.specs.WellFormed.{Begins, BreaksAt, Brings, Comes, Fits, FunctionCode, IsFine, Shapes, WellFormed, first, led}

none_some : {A : Type 0} {x : A} → ◌≡◌ {A = Option A} None (Some x) → ⊥
none_some e = cc

within : (code : List Instruction) (p : ℕ) (i : Instruction) → slice_get code p ≡ Some i → p < length code
within [] p i e = absurd (none_some e)
within (j ∷ code) zero i e = omega arith
within (j ∷ code) (suc p) i e = omega (arith, within code p i e)

module _ (u : FunctionCode) (w : WellFormed u) where
  -- the shapes of the body's places alone
  abbrev kept : ℕ → Bool → Option Shape
  kept q b = if b then w.shapes q else None

  abbrev inside : Shapes
  inside q = kept q (nat_lt q (length u.code))

  there : (q : ℕ) (s : Shape) → q < length u.code → w.shapes q ≡ Some s → inside q ≡ Some s
  there q s h e = ap (kept q) (lt-ltb q (length u.code) h) ∙ e

  back : (q : ℕ) (s : Shape) → inside q ≡ Some s → (q < length u.code) × (w.shapes q ≡ Some s)
  back q s = by (nat_lt q (length u.code)) refl
    where
      by : (b : Bool) → nat_lt q (length u.code) ≡ b → kept q b ≡ Some s → (q < length u.code) × (w.shapes q ≡ Some s)
      by true is e = (ltb-true q (length u.code) is, e)
      by false is e = absurd (none_some e)

  brings : {s : Shape} {q : ℕ} → Brings u.code w.shapes s q → Brings u.code inside s q
  brings {s} {q} b = record {
    there = b.there;
    has = there q b.there b.inside b.has;
    inside = b.inside;
    stack = b.stack;
    transactions = b.transactions;
    due = b.due;
    forgotten = b.forgotten;
    variables = b.variables;
    loop = b.loop;
  }

  fine : (p : ℕ) (i : Instruction) (s : Shape) → IsFine u w.shapes p i s → IsFine u inside p i s
  fine p i s f = record { left = f.left; leaves = f.leaves; shallow = f.shallow; goes = λ q c. brings (f.goes q c) }

  comes : (q : ℕ) → Comes u.code w.shapes q → Comes u.code inside q
  comes q (Comes.first e) = Comes.first e
  comes q (Comes.led p i s h e g c) = Comes.led p i s h e (there p s (within u.code p i e) g) c

  begins : Begins u inside
  begins = record { parameters = w.begins.parameters; room = w.begins.room; entered = brings w.begins.entered }

  fits : (n : ℕ) → Fits u inside n
  fits n = record {
    begins = λ h. begins;
    fine = λ p i s h e g. let b = back p s g in fine p i s (w.fits.fine p i s b.0 e b.1);
    comes = λ p s h g. let b = back p s g in comes p (w.fits.comes p s b.0 b.1);
  }

pub unbroken : (u : FunctionCode) → WellFormed u → (n : ℕ) → BreaksAt u n → ⊥
unbroken u w n b = b.broken (inside u w) (fits u w (suc n))
