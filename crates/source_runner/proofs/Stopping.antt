-- From what a thread is at to the move that the definitions make of it.
use Rattle.std.proofs.Common.{◌≡◌, ℕ, Bool, true, false, List, ◌∷◌, Option, Some, None, Result, refl, sym, ap, ap₂, subst, ◌∙◌, if◌then◌else◌}
use Rattle.std.specs.Option.{option_map_or}
use Rattle.std.specs.declared.alloc.AllocError.{AllocError}
use Rattle.std.specs.declared.alloc.Global.{Global}
use Rattle.std.specs.Prelude.{Vec}
use Rattle.c_tree.specs.BareExpr.{Bytes}
use Rattle.c_semantics.specs.Stops.{Stop as SeenStop}
use Rattle.c_semantics.specs.Pieces.{Halt as SeenHalt}
use Rattle.c_semantics.specs.Threads.{Frame as SeenFrame, Thread as SeenThread}
use Rattle.run_types.specs.declared.trap.TrapKind.{TrapKind}
use Rattle.source_model.specs.Worlds.{World, Trapped, is_over, with_thread}
use Rattle.source_model.specs.Worlds as world
use Rattle.source_model.specs.Uses.{use_at, is_right, recorded, marked}
use Rattle.source_model.specs.Moves.{behind, in_frames, perform, stop_made, with_use}
use Rattle.resolved_tree.specs.declared.words.Word.{Word}
use Rattle.local_evaluation.specs.declared.piece.Stop.{Stop}
use Rattle.local_evaluation.specs.declared.piece.Stop.TheVariants.{ReadGlobal, WriteGlobal, ReadElement, WriteElement, ReadField, WriteField, New, Free, Print, InitMutex, Lock, Unlock, Spawn, Join, Call, Return, Back, Begin, End, Update}
use Rattle.local_evaluation.specs.declared.work.Halt.{Halt}
use Rattle.local_evaluation.specs.declared.work.Halt.TheVariants.{At, Trap, Nothing}
use Rattle.source_runner.specs.declared.thread.Frame.{Frame}
use Rattle.source_runner.specs.declared.thread.Next.{Next}
use Rattle.source_runner.specs.declared.thread.Next.TheVariants as next
use Rattle.source_runner.specs.declared.thread.Thread.{Thread}
use Rattle.source_runner.specs.declared.machine.Machine.{Machine}
use Rattle.resolved_tree.specs.Nodes.{Table}
use Rattle.source_data.specs.Stores.{is_threads}
use Rattle.local_evaluation.specs.Pieces.{pending, stop_of}
use Rattle.local_evaluation.specs.Work.{newest, scopes_of, went}
use Rattle.source_programs.specs.Programs.{table_of}
use Rattle.source_runner.proofs.Halted.{with_same}
use Rattle.source_runner.specs.Machines.{Moves, IsAtStop, IsFrame, IsThread, IsUser, StandsBut, frame_at, standing_at}
use Rattle.source_runner.specs.Frames.{frames_of}

-- an answer, by what the definitions make of the move
pub moves_as : (m : Machine) (w : World) (r : Result Bool AllocError) (o other : Option World) → o ≡ other
    → Moves m w r other → Moves m w r o
moves_as m w r o other e h = subst (λ x. Moves m w r x) (sym e) h

-- ---- a stop and its use

-- the thread after the use of a stop
abbrev pub user_of : World → SeenThread → Option Bytes → SeenThread
user_of w th None = th
user_of w th (Some name) = recorded w.table name th

abbrev pub all_right : World → ℕ → Option Bytes → Bool
all_right w n u = option_map_or (is_right w.table n) u true

pub wrong_use : (s : SeenStop) (w : World) (slot : ℕ) (th : SeenThread) (f : SeenFrame) (below : List SeenFrame) (u : Option Bytes)
    → all_right w f.version u ≡ false → with_use s w slot th f below u ≡ Some (marked w)
wrong_use s w slot th f below None e = absurd (no e)
  where
    no : true ≡ false → ⊥
    no e = cc
wrong_use s w slot th f below (Some name) e =
    let user = recorded w.table name th in
    let made = perform s (record { world = w; slot = slot; thread = user; frame = f; below = below }) f.values in
    let by : Bool → Option World = λ b. if b then made else Some (marked w) in ap by e

pub right_use : (s : SeenStop) (w : World) (slot : ℕ) (th : SeenThread) (f : SeenFrame) (below : List SeenFrame) (u : Option Bytes)
    → all_right w f.version u ≡ true
    → with_use s w slot th f below u
    ≡ perform s (record { world = w; slot = slot; thread = user_of w th u; frame = f; below = below }) f.values
right_use s w slot th f below None e = refl
right_use s w slot th f below (Some name) e =
    let user = recorded w.table name th in
    let made = perform s (record { world = w; slot = slot; thread = user; frame = f; below = below }) f.values in
    let by : Bool → Option World = λ b. if b then made else Some (marked w) in ap by e

-- a thread that is put where it was, by the stop at which it stands
pub thread_at : (t : Table) (over : Bool) (th : Thread) (n other : Next) (own : SeenThread) → n ≡ other
    → IsThread t over th n own → IsThread t over th other own
thread_at t over th n other own e h = subst (λ x. IsThread t over th x own) e h

-- the thread after a use
pub user_stands : (t : Table) (w : World) (th : Thread) (n : Next) (own : SeenThread) (u : Option Bytes)
    → own.entering ≡ None → IsThread t false th n own → IsUser th (user_of w own u)
user_stands t w th n own None none h = record { serial = h.serial; depth = h.depth; entering = none }
user_stands t w th n own (Some name) none h = record { serial = h.serial; depth = h.depth; entering = none }

-- a thread at a stop whose use is right
pub at_stop : (m : Machine) (slot : ℕ) (th : Thread) (f : Frame) (stop other : Stop) (point : ℕ) (w : World) (before : SeenThread)
    → stop ≡ other → StandsBut m slot w before → is_over w ≡ false
    → IsThread (table_of m.program) false th (next.Halt f (At stop point)) before
    → all_right w f.version (use_at (stop_of (table_of m.program) stop)) ≡ true
    → IsAtStop m slot th f other point w before (user_of w before (use_at (stop_of (table_of m.program) stop)))
at_stop m slot th f stop other point w before e but going same right = record {
  but = but;
  going = going;
  same = thread_at _ _ _ _ _ _ (ap (λ s. next.Halt f (At s point)) e) same;
  used = user_stands _ w _ _ _ _ (same.does refl).0 same;
}

-- the stop as the definitions make it
pub stop_as : (m : Machine) (slot : ℕ) (th : Thread) (f : Frame) (stop other : Stop) (point : ℕ) (w : World) (before : SeenThread)
    → stop ≡ other
    → all_right w f.version (use_at (stop_of (table_of m.program) stop)) ≡ true
    → stop_made (stop_of (table_of m.program) stop) w slot before (frame_at (table_of m.program) f point) (frames_of (table_of m.program) th.below.items)
    ≡ perform (stop_of (table_of m.program) other)
    (standing_at (table_of m.program) w slot th f point (user_of w before (use_at (stop_of (table_of m.program) stop))))
    (newest f.work.values.items)
stop_as m slot th f stop other point w before e right =
    let t = table_of m.program in
    let user = user_of w before (use_at (stop_of t stop)) in
    let made : Stop → Option World = λ s. perform (stop_of t s) (standing_at t w slot th f point user) (newest f.work.values.items) in
    right_use (stop_of t stop) w slot before (frame_at t f point) (frames_of t th.below.items) (use_at (stop_of t stop)) right
    ∙ ap made e

-- ---- after the private work

pub resumes : (t : Table) (w : World) (slot : ℕ) (th : SeenThread) (f : Frame) (halt : Halt) (below : List SeenFrame) (own : SeenFrame)
    → th.frames ≡ own ∷ below → IsFrame t f halt own
    → in_frames w slot th th.frames
    ≡ behind w slot th own below (went t (Some halt) (pending t f.work.pieces.items) (newest f.work.values.items) (scopes_of t f.work.scopes.items))
resumes t w slot th f halt below own e is =
    let frames : List SeenFrame → Option World = λ fs. in_frames w slot th fs in
    let ends : SeenHalt → Option World = λ h. behind w slot th own below h in
    ap frames e ∙ ap ends is.next

-- at a stop the frame is the one that is kept, at the stop's point
pub resumes_at : (t : Table) (w : World) (slot : ℕ) (th : SeenThread) (f : Frame) (stop : Stop) (point : ℕ) (below : List SeenFrame) (own : SeenFrame)
    → th.frames ≡ own ∷ below → IsFrame t f (At stop point) own
    → in_frames w slot th th.frames ≡ stop_made (stop_of t stop) w slot th (frame_at t f point) below
resumes_at t w slot th f stop point below own e is =
    let made : Bytes → ℕ → Option World =
    λ name version. stop_made (stop_of t stop) w slot th (record (frame_at t f point) { function = name; version = version }) below
    in
    resumes t w slot th f (At stop point) below own e is ∙ ap₂ made is.function is.version

-- a stop that is none of those that change threads
pub not_of_threads : (t : Table) (stop : Stop) → ((name : Word) → stop ≡ Spawn name → ⊥) → (stop ≡ Join → ⊥)
    → ((name : Word) (n : ℕ) → stop ≡ Call name n → ⊥) → (stop ≡ Return → ⊥) → (stop ≡ Begin → ⊥) → (stop ≡ End → ⊥)
    → is_threads (stop_of t stop) ≡ false
not_of_threads t (Spawn name) a b c d e f = absurd (a name refl)
not_of_threads t Join a b c d e f = absurd (b refl)
not_of_threads t (Call name n) a b c d e f = absurd (c name n refl)
not_of_threads t Return a b c d e f = absurd (d refl)
not_of_threads t Begin a b c d e f = absurd (e refl)
not_of_threads t End a b c d e f = absurd (f refl)
not_of_threads t (ReadGlobal name) a b c d e f = refl
not_of_threads t (WriteGlobal name) a b c d e f = refl
not_of_threads t (ReadElement name) a b c d e f = refl
not_of_threads t (WriteElement name) a b c d e f = refl
not_of_threads t (ReadField tag name) a b c d e f = refl
not_of_threads t (WriteField tag name) a b c d e f = refl
not_of_threads t (New tag) a b c d e f = refl
not_of_threads t (Free tag) a b c d e f = refl
not_of_threads t (Print format n) a b c d e f = refl
not_of_threads t (InitMutex name) a b c d e f = refl
not_of_threads t (Lock name) a b c d e f = refl
not_of_threads t (Unlock name) a b c d e f = refl
not_of_threads t Back a b c d e f = refl
not_of_threads t Update a b c d e f = refl

-- a thread stays as it was
pub stays_at : (t : Table) (w : World) (slot : ℕ) (th : SeenThread) (f : Frame) (halt : Halt) (below : List SeenFrame) (own : SeenFrame)
    → th.frames ≡ own ∷ below → IsFrame t f halt own → halt ≡ Nothing → in_frames w slot th th.frames ≡ None
stays_at t w slot th f halt below own e is nothing =
    let ends : Halt → Option World = λ h. behind w slot th own below
    (went t (Some h) (pending t f.work.pieces.items) (newest f.work.values.items) (scopes_of t f.work.scopes.items)) in
    resumes t w slot th f halt below own e is ∙ ap ends nothing

pub traps_at : (t : Table) (w : World) (slot : ℕ) (th : SeenThread) (f : Frame) (halt : Halt) (below : List SeenFrame) (own : SeenFrame)
    (kind : TrapKind)
    → th.frames ≡ own ∷ below → IsFrame t f halt own → halt ≡ Trap kind
    → in_frames w slot th th.frames ≡ Some (record w { finish = Some (Trapped kind slot) })
traps_at t w slot th f halt below own kind e is trap =
    let ends : Halt → Option World = λ h. behind w slot th own below
    (went t (Some h) (pending t f.work.pieces.items) (newest f.work.values.items) (scopes_of t f.work.scopes.items)) in
    resumes t w slot th f halt below own e is ∙ ap ends trap

-- the world of a thread that is put back where it was, and then ends the run
pub ended_same : (m : Machine) (slot : ℕ) (w : World) (before : SeenThread) (f : world.Finish) → StandsBut m slot w before
    → Some (record w { finish = Some f }) ≡ Some (record (with_thread slot before w) { finish = Some f })
ended_same m slot w before f h =
    let on : World → Option World = λ v. Some (record v { finish = Some f }) in ap on (sym (with_same m slot w before h))

pub frame_with : (t : Table) (f : Frame) (halt other : Halt) (own : SeenFrame) → halt ≡ other → IsFrame t f halt own → IsFrame t f other own
frame_with t f halt other own e h = subst (λ x. IsFrame t f x own) e h

pub user_before : (t : Table) (th : Thread) (f : Frame) (halt : Halt) (own : SeenThread)
    → IsThread t false th (next.Halt f halt) own → IsUser th own
user_before t th f halt own h = record { serial = h.serial; depth = h.depth; entering = (h.does refl).0 }

pub user_with : (th : Thread) (below : Vec Frame Global) (own : SeenThread) → IsUser th own
    → IsUser (record th { below = below }) own
user_with th below own h = record { serial = h.serial; depth = h.depth; entering = h.entering }
