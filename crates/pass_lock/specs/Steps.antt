-- What each step on the table tells, and how a seat is seen as a pass.
use Rattle.std.specs.Prelude.{◌≡◌, ◌≢◌, ℕ, ◌+◌, ◌-◌, ◌%◌, ◌^◌, List, [], ◌∷◌, ◌++◌, map, length, drop, Option, Some, None}
use Rattle.atomic_table.specs.Table.{Me, Step}
use Rattle.atomic_table.specs.declared.shared.Seat.{Seat}
use Rattle.pass_lock.specs.declared.notes.Entry.{Entry}
use Rattle.pass_lock.specs.declared.view.Claim.{Claim}
use Rattle.pass_lock.specs.declared.view.Open.{Open}
use Rattle.pass_lock.specs.declared.view.Stage.{Stage}
use Rattle.pass_lock.specs.declared.view.Stage.TheVariants.{Idle, Waiting, Turning}
use Rattle.pass_lock.specs.declared.view.View.{View}
use Rattle.pass_lock.specs.Passes.{Known, opened}
use Rattle.pass_lock.specs.Ruled.{Fits}

module _ {E : Type 0} where
  abbrev pub new_claim : ℕ → Claim E
  new_claim number = record { number = number; seen = []; own = []; checkins = []; helds = [] }

  abbrev pub seated : Stage E → List (Claim E) → ℕ → View E
  seated stage claims makes = record { stage = stage; claims = claims; makes = makes }

  -- the first seat has no pass, and makes the others
  abbrev pub first_view : View E
  first_view = seated Idle [] 1

  -- A split: the new seat has the pass with the next number
  abbrev pub after_split : View E → View E
  after_split v = record v { makes = v.makes + 1 }

  abbrev pub split_off : View E → View E
  split_off v = seated Idle (new_claim (v.makes - 1) ∷ []) 0

  -- A join: the claims of both. The other seat keeps none
  abbrev pub joined : View E → View E → View E
  joined v w = record v { claims = v.claims ++ w.claims }

  abbrev pub spent : View E
  spent = seated Idle [] 0

  -- the word r is the seat's ticket
  abbrev pub HasTicket : ℕ → Stage E → Type 0
  HasTicket r Idle = ⊥
  HasTicket r (Waiting t) = r ≡ t % 2 ^ 64
  HasTicket r (Turning t o) = ⊥

  -- the turn begins at this history
  abbrev pub began : List (Entry E) → Stage E → Stage E
  began log Idle = Idle
  began log (Waiting t) = Turning t (opened log)
  began log (Turning t o) = Turning t o

  abbrev pub open_turn : Stage E → Option (Open E)
  open_turn Idle = None
  open_turn (Waiting t) = None
  open_turn (Turning t o) = Some o

  abbrev pub NotWaiting : Stage E → Type 0
  NotWaiting Idle = Unit {0}
  NotWaiting (Waiting t) = ⊥
  NotWaiting (Turning t o) = Unit {0}

  -- the history at which the turn began
  abbrev pub turn_log : Stage E → List (Entry E)
  turn_log Idle = []
  turn_log (Waiting t) = []
  turn_log (Turning t o) = o.log

  abbrev pub first_claim : List (Claim E) → Claim E
  first_claim [] = new_claim 0
  first_claim (c ∷ cs) = c

  -- what the rule knows of a pass
  abbrev pub claim_of : Known E → Claim E
  claim_of p = record { number = p.number; seen = p.seen; own = p.own; checkins = p.checkins; helds = p.helds }

  abbrev pub what : Entry E → E
  what e = e.what

  -- what the later history says after the earlier one
  abbrev pub added_since : List (Entry E) → List (Entry E) → List E
  added_since log later = map what (drop (length log) later)

  -- the claim after its turn, which began at `log` and left `later`
  abbrev pub grown : List (Entry E) → List (Entry E) → Claim E → Claim E
  grown log later c = record c { seen = later; own = c.own ++ added_since log later }

module _ {W E : Type 0} (history : W → List (Entry E)) where
  abbrev Sat : Type 0
  Sat = Me (Option W) (View E)

  -- the seat waits, and the word found is its ticket
  abbrev pub drew : Step (Option W) → Sat → ℕ → Sat → Type 0
  drew st m r m' = HasTicket r m'.0.stage × (m' ≡ (record m.0 { stage = m'.0.stage }, m.1))

  -- where the word is the seat's ticket, the seat takes the value out, and its history fits what the pass knows
  abbrev pub looked : Step (Option W) → Sat → ℕ → Sat → Type 0
  looked st m r m' = (ticket : ℕ) → HasTicket ticket m.0.stage
      → (r ≢ ticket → m' ≡ m)
      × (r ≡ ticket → (w : W) × (m' ≡ (record m.0 { stage = began (history w) m.0.stage }, (0, Some w) ∷ m.1)) × Fits (history w) (first_claim m.0.claims))

  -- the seat has put the value back, and knows its history
  abbrev pub served : Step (Option W) → Sat → ℕ → Sat → Type 0
  served st m r m' = (w : W) → m.1 ≡ (0, Some w) ∷ []
      → m' ≡ (record m.0 { stage = Idle; claims = grown (turn_log m.0.stage) (history w) (first_claim m.0.claims) ∷ [] }, [])

module _ {W E : Type 0} where
  -- a seat as a pass
  abbrev pub known : Seat (Option W) (View E) → Known E
  known s = let c : Claim E = first_claim s.me.0.claims in record {
    table = s.table_id;
    number = c.number;
    seen = c.seen;
    own = c.own;
    checkins = c.checkins;
    helds = c.helds;
    turn = open_turn s.me.0.stage;
  }

  -- the slots that a seat has taken between two calls: the value's, which is empty, where it has a turn
  abbrev pub taken : Option (Open E) → List (ℕ × Option W)
  taken None = []
  taken (Some o) = (0, None) ∷ []

  -- between two calls a pass's seat has one claim and doesn't wait
  pub record IsPass (s : Seat (Option W) (View E)) : Type 0 where
    pub single : s.me.0.claims ≡ first_claim s.me.0.claims ∷ []
    pub rests : NotWaiting s.me.0.stage
    pub carries : s.me.1 ≡ taken (open_turn s.me.0.stage)
