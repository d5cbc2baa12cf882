-- A thread of a typed world makes its next move or waits, unless it would end a transaction that it isn't in.
use Rattle.std.proofs.Common.{◌≡◌, ℕ, ◌||◌, Bool, true, false, List, [], ◌∷◌, Option, Some, None, is_some, refl, ap, ◌∙◌, if◌then◌else◌}
use Rattle.c_semantics.specs.Stops.{End}
use Rattle.c_semantics.specs.Pieces.{Halt, Stopped}
use Rattle.c_semantics.specs.Threads.{Enter, Frame, Thread, next_of}
use Rattle.source_model.specs.Worlds.{World, Live, Finish, in_slot, is_over}
use Rattle.source_model.specs.Moves.{move, move_of, thread_move}
use Rattle.source_model.specs.Waits.{Waiting, must_wait, waits_for}
use Rattle.frame_bodies.specs.AcceptedTexts.{definitions_of}
use Rattle.typed_runs.specs.TypedWorlds.{WorldTyped}
use Rattle.typed_runs.specs.Progress.{Does, EndsNone, ThreadsGoOn, moves, waits, ends}
use Rattle.typed_runs.proofs.AcceptedWorlds.{typed_of}
use Rattle.typed_runs.proofs.Moves.{IsAtEnd, IsEnd, live_kept}
use Rattle.typed_runs.proofs.Stops.{Outcome}

ends_none : (th : Thread) (e : Option Enter) (fs : List Frame) → th.entering ≡ e → th.frames ≡ fs → IsAtEnd e fs → th.depth ≡ 0 → EndsNone th
ends_none th (Some e) fs is are at zero = absurd at
ends_none th None [] is are at zero = absurd at
ends_none th None (f ∷ below) is are at zero = by (next_of f) refl at
  where
    by : (h : Halt) → next_of f ≡ h → IsEnd h → EndsNone th
    by (Stopped End n rest values scopes) stops at = record {
      entering = is;
      frame = f;
      below = below;
      frames = are;
      point = n;
      rest = rest;
      values = values;
      scopes = scopes;
      stops = stops;
      depth = zero;
    }
    by _ stops at = absurd at

module _ (w : World) (t : ℕ) (th : Thread) (over : is_over w ≡ false) (there : in_slot w t ≡ Live th) where
  -- where it waits for nothing, its move is that of its thread
  made : waits_for w t ≡ None → move w t ≡ thread_move w t th th.entering
  made none =
      ap (λ b. if b || must_wait w t then None else move_of w t (in_slot w t)) over
      ∙ ap (λ o. if is_some o then None else move_of w t (in_slot w t)) none ∙ ap (move_of w t) there

  does : (P : World → Type 0) → Outcome (EndsNone th) P (thread_move w t th th.entering) → Does w t th
  does P h = by (waits_for w t) refl
    where
      out : (o : Option World) → Outcome (EndsNone th) P o → move w t ≡ o → Does w t th
      out None h is = ends h
      out (Some after) h is = moves after is

      by : (o : Option Waiting) → waits_for w t ≡ o → Does w t th
      by (Some what) is = waits what is
      by None none = out (thread_move w t th th.entering) h (made none)

running : (w : World) → is_over w ≡ false → w.finish ≡ None
running w over = by w.finish (first w.misused (is_some w.finish) over)
  where
    first : (m f : Bool) → (m || f) ≡ false → f ≡ false
    first true f e = cc
    first false f e = e

    by : (o : Option Finish) → is_some o ≡ false → o ≡ None
    by None e = refl
    by (Some f) e = cc

pub threads_go_on : ThreadsGoOn
threads_go_on texts w t th accepted of typed over there =
    does w t th over there (WorldTyped (definitions_of texts))
    (live_kept (definitions_of texts) (EndsNone th) w t th (typed_of texts w accepted of typed) (running w over) there
    (ends_none th th.entering th.frames refl refl))
