-- The rule of the lock's table: what holds between any two steps.
-- Word 0 counts the tickets drawn and word 1 the turns served, both modulo 2^64. Word 2 + s belongs to slot s. The table's one slot has the locked value while no turn is out.
use Rattle.std.specs.Prelude.{◌≡◌, ◌⊎◌, ℕ, ◌+◌, ◌%◌, ◌^◌, ◌<◌, ◌≤◌, List, [], ◌∷◌, length, slice_index, Option, Some}
use mathlib.Core.Option.{none, some}
use lib.ListN.{get_elem?}
use Rattle.atomic_table.specs.Table.{State}
use Rattle.pass_lock.specs.declared.notes.Entry.{Entry}
use Rattle.pass_lock.specs.declared.view.Claim.{Claim}
use Rattle.pass_lock.specs.declared.view.Stage.{Stage}
use Rattle.pass_lock.specs.declared.view.Stage.TheVariants.{Idle, Waiting, Turning}
use Rattle.pass_lock.specs.declared.view.View.{View}
use Rattle.pass_lock.specs.Histories.{StartsWith, entries_of}

-- f of each, added up
abbrev pub total : {A : Type 0} → (A → ℕ) → List A → ℕ
total f [] = 0
total f (x ∷ xs) = f x + total f xs

module _ {E : Type 0} where
  -- 1 where the seat has a ticket: it waits, or has the turn
  abbrev pub stage_tickets : Stage E → ℕ
  stage_tickets Idle = 0
  stage_tickets (Waiting t) = 1
  stage_tickets (Turning t o) = 1

  abbrev pub tickets_out : View E → ℕ
  tickets_out v = stage_tickets v.stage

  abbrev pub claim_count : View E → ℕ
  claim_count v = length v.claims

  abbrev pub HasTurn : Stage E → Type 0
  HasTurn Idle = ⊥
  HasTurn (Waiting t) = ⊥
  HasTurn (Turning t o) = Unit {0}

  module _ (log : List (Entry E)) where
    -- the history begins with what the pass has seen, and the entries that name it are its own, each once and in order
    abbrev pub Fits : Claim E → Type 0
    Fits c = StartsWith log c.seen × (entries_of c.number log ≡ c.own)

    module _ (made : ℕ) (pass_seat : ℕ → ℕ) (seat : ℕ) where
      -- the pass's number was given out, to this seat
      abbrev pub IsKept : Claim E → Type 0
      IsKept c = (c.number < made) × (pass_seat c.number ≡ seat) × Fits c

      abbrev pub AllKept : List (Claim E) → Type 0
      AllKept [] = Unit {0}
      AllKept (c ∷ cs) = IsKept c × AllKept cs

    -- a ticket that is out is this seat's. The one that is served has the turn, which began at the history so far
    module _ (drawn served : ℕ) (ticket_seat : ℕ → ℕ) (seat : ℕ) where
      abbrev pub Stands : Stage E → Type 0
      Stands Idle = Unit {0}
      Stands (Waiting t) = (served ≤ t) × (t < drawn) × (ticket_seat t ≡ seat)
      Stands (Turning t o) = (t ≡ served) × (t < drawn) × (ticket_seat t ≡ seat) × (o.log ≡ log)

  -- a seat with a ticket has a pass, and the first seat alone makes passes
  pub record SeatOk (log : List (Entry E)) (made drawn served : ℕ) (pass_seat ticket_seat : ℕ → ℕ) (seat : ℕ) (v : View E) : Type 0 where
    pub stands : Stands log drawn served ticket_seat seat v.stage
    pub kept : AllKept log made pass_seat seat v.claims
    pub one : tickets_out v ≤ claim_count v
    pub maker : 0 < v.makes → (seat ≡ 0) × (v.makes ≡ made + 1)

module _ {W E : Type 0} (history : W → List (Entry E)) (passes : ℕ) where
  -- the value is at home with the whole history, or the seat that is served has it
  abbrev pub Placed : State (Option W) (View E) → List (Entry E) → ℕ → Type 0
  Placed s log seat = ((w : W) × (s.homes ≡ some (Some w) ∷ []) × (history w ≡ log))
      ⊎ ((v : View E) × (get_elem? s.views seat ≡ some v) × HasTurn v.stage × (s.homes ≡ none ∷ []))

  pub record Ruled (s : State (Option W) (View E)) : Type 0 where
    pub log : List (Entry E)
    pub made : ℕ
    pub drawn : ℕ
    pub served : ℕ
    pub pass_seat : ℕ → ℕ
    pub ticket_seat : ℕ → ℕ
    pub wide : length s.words ≡ passes + 2
    pub few : (made ≤ passes) × (passes ≤ 64)
    pub tickets : slice_index s.words 0 ≡ drawn % 2 ^ 64
    pub serving : slice_index s.words 1 ≡ served % 2 ^ 64
    pub out : served + total tickets_out s.views ≡ drawn
    pub claimed : total claim_count s.views ≡ made
    pub unused : (number : ℕ) → made ≤ number → entries_of number log ≡ []
    pub each_seat : (seat : ℕ) (v : View E) → get_elem? s.views seat ≡ some v → SeatOk log made drawn served pass_seat ticket_seat seat v
    pub placed : Placed s log (ticket_seat served)
