-- Which slots of the definitions are those that a decision sees.
use Rattle.std.specs.Prelude.{◌≡◌, ℕ, ◌<◌, List, length, Some, option_map, slice_get}
use Rattle.std.specs.Option.{ForSome}
use Rattle.c_tree.specs.BareExpr.{Bytes}
use Rattle.c_semantics.specs.Store.{Body}
use Rattle.source_model.specs.Worlds.{World, alive_in}
use Rattle.source_model.specs.Guards.{in_transaction}
use Rattle.source_model.specs.Guards as kept
use Rattle.rows_in_force.specs.Origins.{function_of, mark_of}
use Rattle.offer_decision.specs.declared.seat.Seat.{Seat}

-- a slot is the one that is seen, by a table of names: it has the mark of the origin, whose function is in the table, and
-- the pin
pub record IsSeat (names : List Bytes) (bodies : List Body) (seen : Seat) (own : kept.Seat) : Type 0 where
  pub mark : own.mark ≡ option_map (mark_of names bodies) seen.origin
  pub known : ForSome seen.origin (λ origin. function_of origin < length names)
  pub pinned : own.pinned ≡ seen.pinned

-- 16 slots are those that are seen
pub record AreSeats (names : List Bytes) (bodies : List Body) (seats : List Seat) (slots : List kept.Seat) : Type 0 where
  pub many : length slots ≡ 16
  pub each : (n : ℕ) (seen : Seat) (own : kept.Seat) → slice_get seats n ≡ Some seen → slice_get slots n ≡ Some own
      → IsSeat names bodies seen own

-- the threads of a world that are in transactions are those that are seen to be
abbrev pub AreInTransactions : World → List Seat → Type 0
AreInTransactions w seats =
    (n : ℕ) (seen : Seat) → slice_get seats n ≡ Some seen → in_transaction (alive_in w n) ≡ seen.in_transaction
