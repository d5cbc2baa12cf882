-- The state of the source machine.
use Rattle.std.specs.Prelude.{ℕ, ◌-◌, Bool, true, false, not, ◌||◌, ℤ, List, [], ◌∷◌, filter, filter_map, find, replicate, count_by, Option, Some, None, option_map, bytes_eq, codes, slice_index_or, slice_set, if◌then◌else◌}
use Rattle.std.specs.Option.{option_map_or, is_some}
use Rattle.run_types.specs.declared.trap.TrapKind.{TrapKind}
use Rattle.c_tree.specs.BareExpr.{Bytes}
use Rattle.c_tree.specs.BareDef.{BareDef, Global, Array}
use Rattle.c_semantics.specs.Texts.{Definitions}
use Rattle.c_semantics.specs.Values.{Value}
use Rattle.c_semantics.specs.Pieces.{Variable}
use Rattle.c_semantics.specs.Threads.{Record, Enter, Thread, started}
use Rattle.c_semantics.specs.Constants.{initial_cells}
use Rattle.source_model.specs.Versions.{Table, current, in_version, first_table}

-- a global variable, which has one cell, or an array
pub record Cells : Type 0 where
  pub name : Bytes
  pub cells : List Value

-- an object: its struct's tag, its fields, and whether it wasn't ended yet
pub record Object : Type 0 where
  pub tag : Bytes
  pub fields : List Variable
  pub live : Bool

-- a mutex that is held, with its holder's slot
pub record Held : Type 0 where
  pub mutex : Bytes
  pub slot : ℕ

-- a slot: nothing is in it, a thread lives in it, or a thread ended there with a result and wasn't joined yet
pub data Slot : Type 0 where
  Free : Slot
  Live : Thread → Slot
  Over : (serial : ℕ) → Value → Slot

-- the record of a transaction that was closed, with the slot of its thread
pub record Closed : Type 0 where
  pub slot : ℕ
  pub uses : Record

-- how a run has ended
pub data Finish : Type 0 where
  -- the first call of main returned
  Finished : ℤ → Finish
  -- the thread in that slot trapped
  Trapped : TrapKind → ℕ → Finish

-- the state: the versioned definitions and the text of the current version; globals and arrays; objects in order of
-- creation, with the number that may live at once; the mutexes that are held; the slots, and how many threads were
-- started; what was printed; whether a definition was misused; the records that were closed, the first first; and
-- how the run has ended, if it has
pub record World : Type 0 where
  pub table : Table
  pub text : List BareDef
  pub globals : List Cells
  pub objects : List Object
  pub capacity : ℕ
  pub holders : List Held
  pub slots : List Slot
  pub threads : ℕ
  pub output : List ℕ
  pub misused : Bool
  pub closed : List Closed
  pub finish : Option Finish

-- what bounds a run: how many objects may live at once, and how many threads, each in a slot
pub record Limits : Type 0 where
  pub objects : ℕ
  pub slots : ℕ

-- the definitions now
abbrev pub now : World → Definitions
now w = in_version w.table (current w.table)

-- no move can be made: a definition was misused, or the run has ended
abbrev pub is_over : World → Bool
is_over w = w.misused || is_some w.finish

-- what is in a slot; nothing is in a slot that isn't there
abbrev pub in_slot : World → ℕ → Slot
in_slot w t = slice_index_or w.slots t Free

-- whether main returned, which ends all threads; what is in the slots stays there, with the records that are open
abbrev pub is_finished : Option Finish → Bool
is_finished (Some (Finished r)) = true
is_finished (Some (Trapped kind t)) = false
is_finished None = false

-- what is in a slot as long as threads live
abbrev pub alive_in : World → ℕ → Slot
alive_in w t = if is_finished w.finish then Free else in_slot w t

-- a slot changed
abbrev pub with_slot : ℕ → Slot → World → World
with_slot t s w = record w { slots = slice_set w.slots t s }

-- a thread in a slot
abbrev pub with_thread : ℕ → Thread → World → World
with_thread t th w = with_slot t (Live th) w

-- the cells of a global
abbrev pub cells_of : World → Bytes → List Value
cells_of w name = option_map_or (λ g. g.cells) (find (λ g. bytes_eq name g.name) w.globals) []

-- the cells of a global changed
abbrev pub with_cells_in : Bytes → List Value → List Cells → List Cells
with_cells_in name cells [] = []
with_cells_in name cells (g ∷ gs) =
    if bytes_eq name g.name then record g { cells = cells } ∷ gs else g ∷ with_cells_in name cells gs

abbrev pub with_cells : Bytes → List Value → World → World
with_cells name cells w = record w { globals = with_cells_in name cells w.globals }

-- the holder of a mutex
abbrev pub holder_of : World → Bytes → Option ℕ
holder_of w mutex = option_map (λ h. h.slot) (find (λ h. bytes_eq mutex h.mutex) w.holders)

-- a mutex held, and free again
abbrev pub with_holder : Bytes → ℕ → World → World
with_holder mutex slot w = record w { holders = record { mutex = mutex; slot = slot } ∷ w.holders }

abbrev pub released : Bytes → World → World
released mutex w = record w { holders = filter (λ h. not (bytes_eq mutex h.mutex)) w.holders }

-- how many objects live
abbrev pub live_objects : World → ℕ
live_objects w = count_by (λ o. o.live) w.objects

-- the cells of a definition, if it is a global variable or an array
abbrev pub cells_at_first : BareDef → Option Cells
cells_at_first (Global d) = Some (record { name = d.name; cells = initial_cells (Global d) })
cells_at_first (Array type name n values) = Some (record { name = name; cells = initial_cells (Array type name n values) })
cells_at_first _ = None

-- the enter with which a run begins
abbrev pub main_enter : Enter
main_enter = record { function = codes "main"; arguments = []; version = 1 }

-- the world at the start of a text's run; main's thread always has a slot
abbrev pub first_world : List BareDef → Limits → World
first_world text limits = record {
  table = first_table text;
  text = text;
  globals = filter_map cells_at_first text;
  objects = [];
  capacity = limits.objects;
  holders = [];
  slots = Live (started 0 main_enter) ∷ replicate (limits.slots - 1) Free;
  threads = 1;
  output = [];
  misused = false;
  closed = [];
  finish = None;
}
