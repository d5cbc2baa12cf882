-- Whole runs of the source machine over a list of moves.
use Rattle.std.specs.Prelude.{ℕ, zero, suc, Bool, true, false, not, ◌&&◌, ℤ, List, [], ◌∷◌, length, filter_map, slice_get, Option, Some, None, option_map, if◌then◌else◌}
use Rattle.std.specs.Option.{is_some, option_and_then}
use Rattle.std.specs.List.{list_any, range_with_len}
use Rattle.run_types.specs.declared.trap.TrapKind.{TrapKind}
use Rattle.c_tree.specs.BareDef.{BareDef}
use Rattle.c_semantics.specs.Threads.{Record, Thread}
use Rattle.source_model.specs.Worlds.{World, Slot, Live, Free, Over, Finish, Closed, Limits, is_over, alive_in, first_world}
use Rattle.source_model.specs.Worlds as world
use Rattle.source_model.specs.Moves.{move}
use Rattle.source_model.specs.Installs.{installed}

-- one move of the source machine: of the thread in a slot, or the install of the text with a number
pub data SourceMove : Type 0 where
  Move : ℕ → SourceMove
  Install : ℕ → SourceMove

-- the state of a run
pub data State : Type 0 where
  -- the first call of main returned this
  Finished : ℤ → State
  -- the thread in that slot trapped
  Trapped : TrapKind → ℕ → State
  -- a thread lives and none can move
  Stuck : State
  Going : State

-- a text installed, where there is one; not in a world that is over
abbrev pub install : World → Option (List BareDef) → Option World
install w None = None
install w (Some q) = if is_over w then None else Some (installed q w)

-- one move, over the texts, of which the first is that of the start; none where it can't be made
abbrev pub step : List (List BareDef) → SourceMove → World → Option World
step texts (Move t) w = move w t
step texts (Install k) w = install w (slice_get texts k)

-- moves in order
abbrev pub run : List (List BareDef) → List SourceMove → World → Option World
run texts [] w = Some w
run texts (m ∷ ms) w = option_and_then (run texts ms) (step texts m w)

-- whether a thread is in a slot that hasn't ended
abbrev pub is_live : Slot → Bool
is_live Free = false
is_live (Live th) = true
is_live (Over serial result) = false

-- whether a thread lives in slot t; none does once main has returned
abbrev pub lives : World → ℕ → Bool
lives w t = is_live (alive_in w t)

-- whether a slot has a thread that hasn't ended
abbrev pub some_lives : World → Bool
some_lives w = list_any is_live w.slots

-- whether the thread in slot t can move
abbrev pub can_move : World → ℕ → Bool
can_move w t = is_some (move w t)

-- the numbers of the slots
abbrev pub all_slots : World → List ℕ
all_slots w = range_with_len 0 (length w.slots)

abbrev pub some_can_move : World → Bool
some_can_move w = list_any (can_move w) (all_slots w)

-- how a world stands
abbrev pub unfinished : World → State
unfinished w = if some_lives w && not (some_can_move w) then Stuck else Going

abbrev pub state_by : World → Option Finish → State
state_by w (Some (world.Finished r)) = Finished r
state_by w (Some (world.Trapped kind t)) = Trapped kind t
state_by w None = unfinished w

abbrev pub state : World → State
state w = state_by w w.finish

-- the record of a live thread that is in a transaction
abbrev pub open_of_thread : Thread → ℕ → Option Record
open_of_thread th zero = None
open_of_thread th (suc depth) = Some th.uses

abbrev pub open_of : Slot → Option Record
open_of Free = None
open_of (Live th) = open_of_thread th th.depth
open_of (Over serial result) = None

-- what a run gives: the world after the moves, what was printed, whether a definition was misused, all records that
-- were closed and those that are open, and the state
pub record Result : Type 0 where
  pub world : World
  pub output : List ℕ
  pub misused : Bool
  pub closed : List Closed
  pub open_records : List Record
  pub state : State

abbrev pub result : World → Result
result w = record {
  world = w;
  output = w.output;
  misused = w.misused;
  closed = w.closed;
  open_records = filter_map open_of w.slots;
  state = state w;
}

-- the run of the first of some texts over a list of moves, within limits; none where a move can't be made
abbrev pub start : List (List BareDef) → Limits → Option World
start [] limits = None
start (text ∷ texts) limits = Some (first_world text limits)

abbrev pub source_run : List (List BareDef) → Limits → List SourceMove → Option Result
source_run texts limits moves = option_map result (option_and_then (run texts moves) (start texts limits))
