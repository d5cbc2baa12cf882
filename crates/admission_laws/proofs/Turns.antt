-- What a move makes of a world: what its thread is about to use, and what its stop or its enter made.
use Rattle.std.proofs.Common.{◌≡◌, ℕ, Bool, true, false, ◌||◌, List, [], ◌∷◌, length, Option, Some, None, refl, if◌then◌else◌}
use Rattle.std.specs.Prelude.{◌==◌}
use Rattle.run_types.specs.declared.trap.TrapKind.{TrapKind}
use Rattle.run_types.specs.declared.trap.TrapKind.TheVariants.{Depth}
use Rattle.c_tree.specs.BareExpr.{Bytes}
use Rattle.c_semantics.specs.Values.{Value}
use Rattle.c_semantics.specs.Stops.{Stop}
use Rattle.c_semantics.specs.Pieces.{Piece, Scopes, Halt, Stopped, Trapped, Nothing}
use Rattle.c_semantics.specs.Threads.{Frame, Enter, Thread, next_of}
use Rattle.source_model.specs.Versions.{Table}
use Rattle.source_model.specs.Worlds.{World, Slot, Live, Over, Free, in_slot, with_thread, is_over}
use Rattle.source_model.specs.Worlds as world
use Rattle.source_model.specs.Uses.{using, use_at, is_right, recorded, marked}
use Rattle.source_model.specs.Waits.{must_wait}
use Rattle.source_model.specs.Moves.{Standing, perform, with_use, behind, enter_with, in_frames, thread_move, move_of, move, frame_count, frame_of}
use Rattle.admission_laws.proofs.Outcomes.{Made, AllOf, of_outcome, either_way, perform_made}

-- a frame whose thread stopped
abbrev pub at_stop : Frame → ℕ → List Piece → List Value → Scopes → Frame
at_stop f n rest values scopes = record f { standing = n; pieces = rest; values = values; scopes = scopes }

-- the thread after the use of its stop, if that uses a name
pub data Used (table : Table) (th : Thread) (version : ℕ) (x : Stop) : Thread → Type 0 where
  nothing : use_at x ≡ None → Used table th version x th
  rightly : (name : Bytes) → use_at x ≡ Some name → is_right table version name ≡ true → Used table th version x (recorded table name th)

-- the stop of a thread's innermost frame
pub record Stopping (th : Thread) : Type 0 where
  pub none_due : th.entering ≡ None
  pub frame : Frame
  pub below : List Frame
  pub frames : th.frames ≡ frame ∷ below
  pub stop : Stop
  pub point : ℕ
  pub rest : List Piece
  pub values : List Value
  pub scopes : Scopes
  pub comes : next_of frame ≡ Stopped stop point rest values scopes

-- the standing of a thread at its stop
abbrev pub stands_for : (w : World) (t : ℕ) (user : Thread) (th : Thread) → Stopping th → Standing
stands_for w t user th s = record {
  world = w;
  slot = t;
  thread = user;
  frame = at_stop s.frame s.point s.rest s.values s.scopes;
  below = s.below;
}

-- what a move of a thread makes
pub data Turn (w : World) (t : ℕ) (th : Thread) (after : World) : Type 0 where
  misuses_at_stop : (s : Stopping th) (name : Bytes) → use_at s.stop ≡ Some name → is_right w.table s.frame.version name ≡ false
      → after ≡ marked w → Turn w t th after
  misuses_at_enter : (e : Enter) → th.entering ≡ Some e → is_right w.table e.version e.function ≡ false → after ≡ marked w → Turn w t th after
  traps : (kind : TrapKind) → after ≡ record w { finish = Some (world.Trapped kind t) } → Turn w t th after
  stops : (s : Stopping th) (user : Thread) → Used w.table th s.frame.version s.stop user → Made (stands_for w t user th s) s.stop after
      → Turn w t th after
  has_no_room : (e : Enter) → th.entering ≡ Some e → is_right w.table e.version e.function ≡ true
      → after ≡ record (with_thread t (recorded w.table e.function th) w) { finish = Some (world.Trapped Depth t) } → Turn w t th after
  enters : (e : Enter) → th.entering ≡ Some e → is_right w.table e.version e.function ≡ true
      → after ≡ with_thread t (record (recorded w.table e.function th) { frames = frame_of w e ∷ th.frames; entering = None }) w
      → Turn w t th after

-- by whether a use is right
where_right : (P : World → Type 0) (b : Bool) (x y : Option World) → (b ≡ true → AllOf P x) → (b ≡ false → AllOf P y)
    → AllOf P (if b then x else y)
where_right P true x y p q = p refl
where_right P false x y p q = q refl

weaker : (P Q : World → Type 0) (o : Option World) → ((w : World) → P w → Q w) → AllOf P o → AllOf Q o
weaker P Q None f h = tt
weaker P Q (Some w) f h = f w h

stop_turns : (w : World) (t : ℕ) (th : Thread) (s : Stopping th) (name : Option Bytes) → use_at s.stop ≡ name
    → AllOf (Turn w t th)
    (with_use s.stop w t th (at_stop s.frame s.point s.rest s.values s.scopes) s.below name)
stop_turns w t th s None e =
    weaker _ _ (perform s.stop (stands_for w t th th s) s.values) (λ after made. stops s th (nothing e) made)
    (perform_made s.stop (stands_for w t th th s) s.values)
stop_turns w t th s (Some name) e =
    where_right _ (is_right w.table s.frame.version name)
    (perform s.stop (stands_for w t (recorded w.table name th) th s) s.values) (Some (marked w))
    (λ right.
    weaker _ _ (perform s.stop (stands_for w t (recorded w.table name th) th s) s.values)
    (λ after made. stops s (recorded w.table name th) (rightly name e right) made)
    (perform_made s.stop (stands_for w t (recorded w.table name th) th s) s.values))
    (λ wrong. misuses_at_stop s name e wrong refl)

halt_turns : (w : World) (t : ℕ) (th : Thread) (f : Frame) (fs : List Frame) (h : Halt) → th.entering ≡ None → th.frames ≡ f ∷ fs
    → next_of f ≡ h → AllOf (Turn w t th) (behind w t th f fs h)
halt_turns w t th f fs (Stopped x n rest values scopes) none frames e =
    stop_turns w t th (record {
      none_due = none;
      frame = f;
      below = fs;
      frames = frames;
      stop = x;
      point = n;
      rest = rest;
      values = values;
      scopes = scopes;
      comes = e;
    }) (use_at x) refl
halt_turns w t th f fs (Trapped kind) none frames e = traps kind refl
halt_turns w t th f fs Nothing none frames e = tt

frames_turn : (w : World) (t : ℕ) (th : Thread) (fs : List Frame) → th.entering ≡ None → th.frames ≡ fs
    → AllOf (Turn w t th) (in_frames w t th fs)
frames_turn w t th [] none frames = tt
frames_turn w t th (f ∷ fs) none frames = halt_turns w t th f fs (next_of f) none frames refl

enter_turns : (w : World) (t : ℕ) (th : Thread) (e : Enter) → th.entering ≡ Some e
    → AllOf (Turn w t th) (using w th e.version e.function (enter_with w t e))
enter_turns w t th e due =
    where_right _ (is_right w.table e.version e.function) (enter_with w t e (recorded w.table e.function th)) (Some (marked w))
    (λ right.
    either_way _ (length th.frames == frame_count)
    (Some (record (with_thread t (recorded w.table e.function th) w) { finish = Some (world.Trapped Depth t) }))
    (Some (with_thread t (record (recorded w.table e.function th) { frames = frame_of w e ∷ th.frames; entering = None }) w))
    (has_no_room e due right refl) (enters e due right refl))
    (λ wrong. misuses_at_enter e due wrong refl)

thread_turns : (w : World) (t : ℕ) (th : Thread) (due : Option Enter) → th.entering ≡ due → AllOf (Turn w t th) (thread_move w t th due)
thread_turns w t th None e = frames_turn w t th th.frames e refl
thread_turns w t th (Some enter) e = enter_turns w t th enter e

-- a move: the thread that made it
pub record MadeBy (w : World) (t : ℕ) (after : World) : Type 0 where
  pub goes_on : is_over w ≡ false
  pub thread : Thread
  pub lives : in_slot w t ≡ Live thread
  pub turn : Turn w t thread after

slot_turns : (w : World) (t : ℕ) (x : Slot) → is_over w ≡ false → in_slot w t ≡ x → AllOf (MadeBy w t) (move_of w t x)
slot_turns w t (Live th) over e =
    weaker _ _ (thread_move w t th th.entering)
    (λ after turn. record { goes_on = over; thread = th; lives = e; turn = turn }) (thread_turns w t th th.entering refl)
slot_turns w t Free over e = tt
slot_turns w t (Over n v) over e = tt

first_false : (a b : Bool) → (a || b) ≡ false → a ≡ false
first_false true b h = h
first_false false b h = refl

pub move_made : (w after : World) (t : ℕ) → move w t ≡ Some after → MadeBy w t after
move_made w after t e =
    of_outcome (MadeBy w t) (move w t) after e
    (where_right _ (is_over w || must_wait w t) None (move_of w t (in_slot w t)) (λ h. tt)
    (λ h. slot_turns w t (in_slot w t) (first_false _ _ h) refl))
