-- What a thread of a typed world does next.
use Rattle.std.specs.Prelude.{◌≡◌, ℕ, false, List, ◌∷◌, Some, None}
use Rattle.c_semantics.specs.SourceTexts.{Text}
use Rattle.c_semantics.specs.Stops.{End}
use Rattle.c_semantics.specs.Values.{Value}
use Rattle.c_semantics.specs.Pieces.{Piece, Scopes, Stopped}
use Rattle.c_semantics.specs.Threads.{Frame, Thread, next_of}
use Rattle.source_model.specs.Worlds.{World, Live, in_slot, is_over}
use Rattle.source_model.specs.Moves.{move}
use Rattle.source_model.specs.Waits.{Waiting, waits_for}
use Rattle.frame_bodies.specs.AcceptedTexts.{AreAccepted, definitions_of}
use Rattle.typed_runs.specs.TypedWorlds.{WorldTyped}
use Rattle.typed_runs.specs.TypedRunLaws.{IsWorldOf}

-- a thread stands before the end of a transaction, and is in none
pub record EndsNone (th : Thread) : Type 0 where
  pub entering : th.entering ≡ None
  pub frame : Frame
  pub below : List Frame
  pub frames : th.frames ≡ frame ∷ below
  pub point : ℕ
  pub rest : List Piece
  pub values : List Value
  pub scopes : Scopes
  pub stops : next_of frame ≡ Stopped End point rest values scopes
  pub depth : th.depth ≡ 0

-- the thread in a slot makes its next move, which may be a trap; or it waits, for a mutex that another thread holds or for a thread
-- that it joins; or it would end a transaction that it isn't in, which types don't tell
pub data Does (w : World) (t : ℕ) (th : Thread) : Type 0 where
  moves : (after : World) → move w t ≡ Some after → Does w t th
  waits : (what : Waiting) → waits_for w t ≡ Some what → Does w t th
  ends : EndsNone th → Does w t th

-- each thread that lives in a typed world of accepted texts does one of these, as long as the run isn't over
abbrev pub ThreadsGoOn : Type 0
ThreadsGoOn =
    (texts : List Text) (w : World) (t : ℕ) (th : Thread)
    → AreAccepted texts → IsWorldOf texts w → WorldTyped (definitions_of texts) w → is_over w ≡ false → in_slot w t ≡ Live th
    → Does w t th
