-- Bodies that are well formed, and the first instruction that breaks a body.
use Rattle.std.specs.Prelude.{◌≡◌, ◌≤◌, ◌<◌, ℕ, suc, ◌+◌, ◌==◌, List, [], ◌∷◌, ◌++◌, length, slice_get, Contains, Option, Some, None, if◌then◌else◌}
use Rattle.run_types.specs.CheckIns as check_in
use Rattle.c_semantics.specs.Texts.{Definitions}
use Rattle.bytecode.specs.Instructions.{Instruction, Back}
use Rattle.code_kinds.specs.declared.kind.WordKind.{WordKind}
use Rattle.code_kinds.specs.StopKinds.{Words}
use Rattle.code_kinds.specs.Shapes.{Shape, after, leads_to}

-- so many words at most are on a frame's stack
abbrev pub deepest : ℕ
deepest = 66

-- so many variables at most has a function
abbrev pub most_variables : ℕ
most_variables = 64

-- the code of a function under the definitions of its text, with the kinds of its parameters and of its value, and room for
-- its variables
pub record FunctionCode : Type 0 where
  pub look : Definitions
  pub parameters : Words
  pub result : WordKind
  pub room : ℕ
  pub code : List Instruction

-- the shapes of places; none where control doesn't come
abbrev pub Shapes : Type 0
Shapes = ℕ → Option Shape

-- how many variables the first back edge that leads to a place keeps there, among instructions the first of which is at p
abbrev pub kept_from : List Instruction → ℕ → ℕ → Option ℕ
kept_from [] p q = None
kept_from (Back d n v ∷ is) p q = if q + d == p then Some v else kept_from is (suc p) q
kept_from (i ∷ is) p q = kept_from is (suc p) q

abbrev pub kept : List Instruction → ℕ → Option ℕ
kept code q = kept_from code 0 q

-- a way brings a shape to a place: the words there are those of the way; variables that were declared last may be forgotten,
-- and where a loop begins exactly those stay that its back edges keep
pub record Brings (code : List Instruction) (shapes : Shapes) (s : Shape) (q : ℕ) : Type 0 where
  pub there : Shape
  pub has : shapes q ≡ Some there
  pub inside : q < length code
  pub stack : there.stack ≡ s.stack
  pub transactions : there.transactions ≡ s.transactions
  pub due : there.due ≡ s.due
  pub forgotten : Words
  pub variables : s.variables ≡ there.variables ++ forgotten
  pub loop : (v : ℕ) → kept code q ≡ Some v → length there.variables ≡ v

-- an instruction finds what it takes, and brings what it leaves to each place to which control goes from there
pub record IsFine (u : FunctionCode) (shapes : Shapes) (p : ℕ) (i : Instruction) (s : Shape) : Type 0 where
  pub left : Shape
  pub leaves : after u.look u.result u.room i s ≡ Some left
  pub shallow : length left.stack ≤ deepest
  pub goes : (q : ℕ) → Contains (leads_to p i) q → Brings u.code shapes left q

-- control comes to a place from places before it: it is the first one, or an instruction before it leads there. So a loop is
-- entered where it begins
pub data Comes (code : List Instruction) (shapes : Shapes) (q : ℕ) : Type 0 where
  first : q ≡ 0 → Comes code shapes q
  led : (p : ℕ) (i : Instruction) (s : Shape) → p < q → slice_get code p ≡ Some i → shapes p ≡ Some s → Contains (leads_to p i) q → Comes code shapes q

-- where a function begins: its parameters are in scope, and its entry check-in comes first
abbrev pub entry : Words → Shape
entry parameters = record { stack = []; variables = parameters; transactions = 0; due = Some (record { kind = check_in.Entry; number = 0 }) }

pub record Begins (u : FunctionCode) (shapes : Shapes) : Type 0 where
  pub parameters : length u.parameters ≤ u.room
  pub room : u.room ≤ most_variables
  pub entered : Brings u.code shapes (entry u.parameters) 0

-- the first n instructions are fine, with these shapes, which only places have to which control comes
pub record Fits (u : FunctionCode) (shapes : Shapes) (n : ℕ) : Type 0 where
  pub begins : 0 < n → Begins u shapes
  pub fine : (p : ℕ) (i : Instruction) (s : Shape) → p < n → slice_get u.code p ≡ Some i → shapes p ≡ Some s → IsFine u shapes p i s
  pub comes : (p : ℕ) (s : Shape) → p < n → shapes p ≡ Some s → Comes u.code shapes p

-- a body is well formed; one without instructions isn't
pub record WellFormed (u : FunctionCode) : Type 0 where
  pub shapes : Shapes
  pub begins : Begins u shapes
  pub fits : Fits u shapes (length u.code)

-- the first instruction that breaks a body: those before it fit, with it none do
pub record BreaksAt (u : FunctionCode) (n : ℕ) : Type 0 where
  pub shapes : Shapes
  pub before : Fits u shapes n
  pub broken : (others : Shapes) → Fits u others (suc n) → ⊥
