-- One pass over a body in the order of places. `keeps` says how many variables each place keeps where a loop begins, and there
-- are n places.
use Rattle.std.specs.Prelude.{◌≡◌, ◌≤◌, ◌<◌, ◌≢◌, ◌⊎◌, ℕ, List, [], ◌∷◌, length, slice_get, Option, Some, None}
use Rattle.bytecode.specs.Instructions.{Instruction}
use Rattle.code_kinds.specs.Shapes.{Shape, after, leads_to}
use Rattle.code_kinds.specs.WellFormed.{FunctionCode, Shapes, deepest}
use Rattle.code_verify.specs.Meeting.{met, met_again}

-- a way brings a shape to a place
pub record Brought (keeps : ℕ → Option ℕ) (n : ℕ) (old new : Shapes) (s : Shape) (q : ℕ) : Type 0 where
  pub inside : q < n
  pub there : Shape
  pub meets : met (keeps q) (old q) s ≡ Some there
  pub has : new q ≡ Some there
  pub others : (r : ℕ) → r ≢ q → new r ≡ old r

-- a way from place p brings a shape to a place: after p, or not after p, where nothing changes
pub data Carried (keeps : ℕ → Option ℕ) (n p : ℕ) (old new : Shapes) (s : Shape) (q : ℕ) : Type 0 where
  later : p < q → Brought keeps n old new s q → Carried keeps n p old new s q
  earlier : q ≤ p → (there : Shape) → met_again (keeps q) (old q) s ≡ Some there → ((r : ℕ) → new r ≡ old r) → Carried keeps n p old new s q

-- no way from place p brings the shape to the place
pub data Refused (keeps : ℕ → Option ℕ) (n p : ℕ) (old : Shapes) (s : Shape) (q : ℕ) : Type 0 where
  later : p < q → (q < n → met (keeps q) (old q) s ≡ None) → Refused keeps n p old s q
  earlier : q ≤ p → met_again (keeps q) (old q) s ≡ None → Refused keeps n p old s q

-- the same to each of some places
abbrev pub AllCarried : (ℕ → Option ℕ) → ℕ → ℕ → Shape → List ℕ → Shapes → Shapes → Type 0
AllCarried keeps n p s [] old new = (r : ℕ) → new r ≡ old r
AllCarried keeps n p s (q ∷ qs) old new = (mid : Shapes) × Carried keeps n p old mid s q × AllCarried keeps n p s qs mid new

abbrev pub SomeRefused : (ℕ → Option ℕ) → ℕ → ℕ → Shape → List ℕ → Shapes → Type 0
SomeRefused keeps n p s [] old = ⊥
SomeRefused keeps n p s (q ∷ qs) old =
    Refused keeps n p old s q ⊎ ((mid : Shapes) × Carried keeps n p old mid s q × SomeRefused keeps n p s qs mid)

-- the instruction at place p was followed
pub data Followed (u : FunctionCode) (keeps : ℕ → Option ℕ) (p : ℕ) (old new : Shapes) : Type 0 where
  unreached : old p ≡ None → ((r : ℕ) → new r ≡ old r) → Followed u keeps p old new
  reached : (i : Instruction) (s left : Shape) → slice_get u.code p ≡ Some i → old p ≡ Some s → after u.look u.result u.room i s ≡ Some left
      → length left.stack ≤ deepest → AllCarried keeps (length u.code) p left (leads_to p i) old new → Followed u keeps p old new

-- it breaks the body: it lacks what it takes, leaves too many words, or leaves what doesn't fit where it leads
pub data Broken (u : FunctionCode) (keeps : ℕ → Option ℕ) (p : ℕ) (old : Shapes) : Type 0 where
  lacks : (i : Instruction) (s : Shape) → slice_get u.code p ≡ Some i → old p ≡ Some s → after u.look u.result u.room i s ≡ None
      → Broken u keeps p old
  deep : (i : Instruction) (s left : Shape) → slice_get u.code p ≡ Some i → old p ≡ Some s → after u.look u.result u.room i s ≡ Some left
      → deepest < length left.stack → Broken u keeps p old
  refused : (i : Instruction) (s left : Shape) → slice_get u.code p ≡ Some i → old p ≡ Some s → after u.look u.result u.room i s ≡ Some left
      → SomeRefused keeps (length u.code) p left (leads_to p i) old → Broken u keeps p old
