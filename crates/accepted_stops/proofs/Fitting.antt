-- Code that fits, in parts: what is put in order fits, and so does a loop.
use Rattle.std.proofs.Common.{◌≡◌, ◌≤◌, ℕ, zero, suc, ◌+◌, [], ◌∷◌, ◌++◌, length, slice_get, Option, Some, None, ap, subst, arith, ◌∙◌}
use Rattle.run_types.specs.CheckIns.{CheckInKind}
use Rattle.run_types.specs.Skeleton.{check_in_after}
use Rattle.c_semantics.specs.Stops.{Stop, kind_of}
use Rattle.bytecode.specs.Instructions.{Instruction, Back, CheckIn, Halt}
use Rattle.tree_code.specs.Code.{Code}
use Rattle.accepted_stops.specs.FittingCode.{CodeFits, InstructionFits, StopFits}

-- the check-in comes first, if there is one
abbrev pub Follows : Option CheckInKind → ℕ → Code → Type 0
Follows None n is = Unit {0}
Follows (Some kind) n [] = ⊥
Follows (Some kind) n (i ∷ is) = i ≡ CheckIn kind (suc n)

follows_more : (o : Option CheckInKind) (n : ℕ) (is js : Code) → Follows o n is → Follows o n (is ++ js)
follows_more None n is js h = tt
follows_more (Some kind) n [] js h = absurd h
follows_more (Some kind) n (i ∷ is) js h = h

module _ (Has : Stop → Type 0) where
  -- an instruction fits at a place, before others
  abbrev pub Own : ℕ → Instruction → Code → Type 0
  Own p (Halt s n) is = Has s × Follows (check_in_after (kind_of s)) n is
  Own p (Back d n v) is = d ≤ p
  Own p i is = Unit {0}

  -- instructions from a place on
  abbrev pub FitFrom : ℕ → Code → Type 0
  FitFrom p [] = Unit {0}
  FitFrom p (i ∷ is) = Own p i is × FitFrom (suc p) is

  pub record Fit (code : Code) : Type 0 where
    pub each : FitFrom 0 code

  own_more : (p : ℕ) (i : Instruction) (is js : Code) → Own p i is → Own p i (is ++ js)
  own_more p (Halt s n) is js h = (h.0, follows_more (check_in_after (kind_of s)) n is js h.1)
  own_more p (Back d n v) is js h = h
  own_more p _ is js h = tt

  own_later : (p q : ℕ) (i : Instruction) (is : Code) → p ≤ q → Own p i is → Own q i is
  own_later p q (Halt s n) is l h = h
  own_later p q (Back d n v) is l h = omega (arith, h, l)
  own_later p q _ is l h = tt

  later : (p q : ℕ) (is : Code) → p ≤ q → FitFrom p is → FitFrom q is
  later p q [] l h = tt
  later p q (i ∷ is) l h =
      let next : suc p ≤ suc q = omega (arith, l) in (own_later p q i is l h.0, later (suc p) (suc q) is next h.1)

  joined : (p : ℕ) (is js : Code) → FitFrom p is → FitFrom (p + length is) js → FitFrom p (is ++ js)
  joined p [] js h k = let same : p + 0 ≡ p = omega arith in subst (λ q. FitFrom q js) same k
  joined p (i ∷ is) js h k =
      let same : p + suc (length is) ≡ suc p + length is = omega arith in
      (own_more p i is js h.0, joined (suc p) is js h.1 (subst (λ q. FitFrom q js) same k))

  pub none : Fit []
  none = record { each = tt }

  pub both : {is js : Code} → Fit is → Fit js → Fit (is ++ js)
  both {is} {js} h k =
      let low : 0 ≤ length is = omega arith in
      let same : length is ≡ 0 + length is = omega arith in
      record { each = joined 0 is js h.each (subst (λ q. FitFrom q js) same (later 0 (length is) js low k.each)) }

  pub before : {i : Instruction} {is : Code} → Own 0 i is → Fit is → Fit (i ∷ is)
  before {i} {is} h k = let low : 0 ≤ 1 = omega arith in record { each = (h, later 0 1 is low k.each) }

  pub alone : {i : Instruction} → Own 0 i [] → Fit (i ∷ [])
  alone h = before h none

  -- a loop turns back to its beginning
  pub turned : {is : Code} (n v : ℕ) → Fit is → Fit (is ++ Back (length is) n v ∷ [])
  turned {is} n v h =
      let inside : length is ≤ 0 + length is = omega arith in
      record { each = joined 0 is (Back (length is) n v ∷ []) h.each (inside, tt) }

  -- ---- by places

  first_follows : (o : Option CheckInKind) (n : ℕ) (is : Code) → Follows o n is → (kind : CheckInKind) → o ≡ Some kind
      → slice_get is 0 ≡ Some (CheckIn kind (suc n))
  first_follows None n is h kind e = cc
  first_follows (Some own) n [] h kind e = absurd h
  first_follows (Some own) n (i ∷ is) h kind e = let same : own ≡ kind = cc in ap Some (h ∙ ap (λ k. CheckIn k (suc n)) same)

  -- the instruction at a place, among those from another place on
  abbrev FitsAt : ℕ → Code → ℕ → Instruction → Type 0
  FitsAt p code k (Halt s n) = StopFits Has code k s n
  FitsAt p code k (Back d n v) = d ≤ p + k
  FitsAt p code k i = Unit {0}

  first_fits : (p : ℕ) (i : Instruction) (is : Code) → Own p i is → FitsAt p (i ∷ is) 0 i
  first_fits p (Halt s n) is h = record { has = h.0; followed = λ kind e. first_follows (check_in_after (kind_of s)) n is h.1 kind e }
  first_fits p (Back d n v) is h = omega (arith, h)
  first_fits p _ is h = tt

  under : (p : ℕ) (i : Instruction) (is : Code) (k : ℕ) (j : Instruction) → FitsAt (suc p) is k j → FitsAt p (i ∷ is) (suc k) j
  under p i is k (Halt s n) h = record { has = h.has; followed = h.followed }
  under p i is k (Back d n v) h = omega (arith, h)
  under p i is k _ h = tt

  fits_at : (p : ℕ) (code : Code) → FitFrom p code → (k : ℕ) (j : Instruction) → slice_get code k ≡ Some j → FitsAt p code k j
  fits_at p [] h k j e = cc
  fits_at p (i ∷ is) h zero j e = let same : i ≡ j = cc in subst (λ x. FitsAt p (i ∷ is) 0 x) same (first_fits p i is h.0)
  fits_at p (i ∷ is) h (suc k) j e = under p i is k j (fits_at (suc p) is h.1 k j e)

  whole : (code : Code) (k : ℕ) (j : Instruction) → FitsAt 0 code k j → InstructionFits Has code k j
  whole code k (Halt s n) h = h
  whole code k (Back d n v) h = omega (arith, h)
  whole code k _ h = tt

  pub code_fits : (code : Code) → Fit code → CodeFits Has code
  code_fits code h k j e = whole code k j (fits_at 0 code h.each k j e)

-- what each stop has may be less
pub fits_less : (P Q : Stop → Type 0) → ((s : Stop) → P s → Q s) → (code : Code) → CodeFits P code → CodeFits Q code
fits_less P Q less code h place i e = by i (h place i e)
  where
    by : (i : Instruction) → InstructionFits P code place i → InstructionFits Q code place i
    by (Halt s n) k = record { has = less s k.has; followed = k.followed }
    by (Back d n v) k = k
    by _ k = tt
