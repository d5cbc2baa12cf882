-- What is asked of the thread in a slot.
use Rattle.std.specs.Prelude.{ℕ, List, [], ◌∷◌, Option, Some, None, option_map, slice_get}
use Rattle.std.specs.Option.{option_or}
use Rattle.c_tree.specs.BareExpr.{Bytes}
use Rattle.c_semantics.specs.Pieces.{Halt, Stopped}
use Rattle.c_semantics.specs.Threads.{Enter, Frame, next_of}
use Rattle.source_model.specs.Uses.{use_at}
use Rattle.source_model.specs.Worlds.{Slot, Free, Live, Over}
use Rattle.resolved_tree.specs.Nodes.{Table, word}
use Rattle.source_runner.specs.declared.queries.FrameAt.{FrameAt}

-- where a frame is: in which function, under which version, and at which point it last stopped
pub record Place : Type 0 where
  pub function : Bytes
  pub version : ℕ
  pub point : ℕ

abbrev pub place_of : Frame → Place
place_of f = record { function = f.function; version = f.version; point = f.standing }

-- the same of what is answered
abbrev pub place_at : Table → FrameAt → Place
place_at t f = record { function = word t f.function; version = f.version; point = f.point }

-- the place of the innermost frame
abbrev pub innermost : List Frame → Option Place
innermost [] = None
innermost (f ∷ fs) = Some (place_of f)

abbrev pub innermost_in : Slot → Option Place
innermost_in Free = None
innermost_in (Live th) = innermost th.frames
innermost_in (Over serial result) = None

-- the place of the frame that is so many calls above the innermost
abbrev pub place_up : List Frame → ℕ → Option Place
place_up fs up = option_map place_of (slice_get fs up)

abbrev pub place_up_in : ℕ → Slot → Option Place
place_up_in up Free = None
place_up_in up (Live th) = place_up th.frames up
place_up_in up (Over serial result) = None

-- the number of the point at which the private work of a frame comes to a stop
abbrev pub point_of_halt : Halt → Option ℕ
point_of_halt (Stopped s n rest values scopes) = Some n
point_of_halt _ = None

-- that of the innermost frame, where no enter is due
abbrev pub stops_next : Option Enter → List Frame → Option ℕ
stops_next (Some e) fs = None
stops_next None [] = None
stops_next None (f ∷ fs) = point_of_halt (next_of f)

-- the point at which the innermost frame of a thread stops next
abbrev pub next_point_in : Slot → Option ℕ
next_point_in Free = None
next_point_in (Live th) = stops_next th.entering th.frames
next_point_in (Over serial result) = None

-- the function of the enter that is due
abbrev pub entering_in : Slot → Option Bytes
entering_in Free = None
entering_in (Live th) = option_map (λ e. e.function) th.entering
entering_in (Over serial result) = None

-- the name that the stop uses at which the private work of a frame ends
abbrev pub use_of_halt : Halt → Option Bytes
use_of_halt (Stopped s n rest values scopes) = use_at s
use_of_halt _ = None

-- that of the innermost frame
abbrev pub use_in : List Frame → Option Bytes
use_in [] = None
use_in (f ∷ fs) = use_of_halt (next_of f)

-- the name that the next move of a thread uses: the function of the enter that is due, else what its stop uses
abbrev pub use_due : Slot → Option Bytes
use_due Free = None
use_due (Live th) = option_or (option_map (λ e. e.function) th.entering) (use_in th.frames)
use_due (Over serial result) = None
