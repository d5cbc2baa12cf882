-- Calls, returns and the end of a thread.
use Rattle.std.proofs.Common.{◌≡◌, ℕ, zero, suc, Bool, List, [], ◌∷◌, map, drop, Option, Some, None, refl, sym, ap, subst, ◌∙◌}
use Rattle.std.specs.Prelude.{Vec, ℤ}
use Rattle.std.specs.declared.alloc.Global.{Global}
use Rattle.c_semantics.specs.Values.{Value as Seen}
use Rattle.c_semantics.specs.Threads.{Frame as SeenFrame, Thread as SeenThread}
use Rattle.source_model.specs.Worlds.{World, with_thread, with_slot}
use Rattle.source_model.specs.Worlds as world
use Rattle.source_model.specs.Moves.{call, finish_thread, gone_on, arguments_of, number_of, return, return_to}
use Rattle.local_evaluation.specs.declared.value.Value.{Value}
use Rattle.resolved_tree.specs.declared.words.Word.{Word}
use Rattle.source_runner.specs.declared.thread.Frame.{Frame}
use Rattle.source_runner.specs.declared.thread.Next.TheVariants as next
use Rattle.source_runner.specs.declared.thread.Thread.{Thread}
use Rattle.resolved_tree.specs.Nodes.{Table, word}
use Rattle.source_runner.specs.Frames.{frame_of, frames_of}
use Rattle.local_evaluation.specs.Values.{seen}
use Rattle.local_evaluation.specs.Work.{newest}
use Rattle.source_runner.specs.Machines.{IsThread, IsUser, frame_at, standing_at}
use Rattle.source_runner.proofs.Stored.{frame_then}
use Rattle.source_runner.proofs.Transactions.{Goes}

-- the value that a return takes
pub returned : (t : Table) (w : World) (slot : ℕ) (th : Thread) (f : Frame) (point : ℕ) (user : SeenThread) (v : Value)
    → newest f.work.values.items ≡ seen v ∷ drop 1 (newest f.work.values.items)
    → return (standing_at t w slot th f point user) (newest f.work.values.items)
    ≡ return_to (standing_at t w slot th f point user) (seen v) (frames_of t th.below.items)
returned t w slot th f point user v e =
    let by : List Seen → Option World = λ vs. return (standing_at t w slot th f point user) vs in ap by e

-- without one it can't be made
pub returned_none : (t : Table) (w : World) (slot : ℕ) (th : Thread) (f : Frame) (point : ℕ) (user : SeenThread)
    → newest f.work.values.items ≡ [] → return (standing_at t w slot th f point user) (newest f.work.values.items) ≡ None
returned_none t w slot th f point user e =
    let by : List Seen → Option World = λ vs. return (standing_at t w slot th f point user) vs in ap by e

-- the frame that called goes on with the value
pub returns_to : (t : Table) (w : World) (slot : ℕ) (th : Thread) (below : Vec Frame Global) (f caller : Frame)
    (values : Vec Value Global) (point : ℕ) (user : SeenThread) (v : Value)
    → frames_of t th.below.items ≡ frame_of t caller ∷ frames_of t below.items
    → newest values.items ≡ seen v ∷ newest caller.work.values.items → IsUser th user
    → Goes t w slot (record th { below = below }) (record caller { work = record caller.work { values = values } })
    (return_to (standing_at t w slot th f point user) (seen v) (frames_of t th.below.items))
returns_to t w slot th below f caller values point user v e more h = (
  record user { frames = record (frame_of t caller) { values = seen v ∷ newest caller.work.values.items } ∷ frames_of t below.items },
  ap to e,
  record {
    serial = h.serial;
    depth = h.depth;
    entering = h.entering;
    frames = ap made (sym more);
  },
)
  where
    to : List SeenFrame → Option World
    to fs = return_to (standing_at t w slot th f point user) (seen v) fs

    made : List Seen → List SeenFrame
    made vs = record (frame_of t caller) { values = vs } ∷ frames_of t below.items

-- the first call returns
pub returns_last : (t : Table) (w : World) (slot : ℕ) (th : Thread) (f : Frame) (point : ℕ) (user : SeenThread) (v : Seen)
    → frames_of t th.below.items ≡ []
    → return_to (standing_at t w slot th f point user) v (frames_of t th.below.items)
    ≡ finish_thread (standing_at t w slot th f point user) v slot
returns_last t w slot th f point user v e =
    let by : List SeenFrame → Option World = λ fs. return_to (standing_at t w slot th f point user) v fs in ap by e

-- a call: the caller waits, and the enter is due
pub called : (t : Table) (over : Bool) (w : World) (slot : ℕ) (th : Thread) (below : Vec Frame Global) (f : Frame)
    (values arguments : Vec Value Global) (name : Word) (count point : ℕ) (user : SeenThread)
    → map seen arguments.items ≡ arguments_of count (newest f.work.values.items)
    → newest values.items ≡ drop count (newest f.work.values.items)
    → frames_of t below.items ≡ frame_of t (frame_then f point values) ∷ frames_of t th.below.items → IsUser th user
    → (after : SeenThread)
    × (call (standing_at t w slot th f point user) (word t name) count (newest f.work.values.items) ≡ Some (with_thread slot after w))
    × IsThread t over (record th { below = below }) (next.Enter (record { function = name; arguments = arguments; version = f.version })) after
called t over w slot th below f values arguments name count point user args rest pushed h = (
  record (gone_on (standing_at t w slot th f point user) (drop count (newest f.work.values.items))) {
    entering = Some (record { function = word t name; arguments = arguments_of count (newest f.work.values.items); version = f.version });
  },
  refl,
  record {
    serial = h.serial;
    depth = h.depth;
    does = λ going. (
      ap (λ vs. Some (record { function = word t name; arguments = vs; version = f.version })) (sym args),
      ap (λ vs. record (frame_at t f point) { values = vs } ∷ frames_of t th.below.items) (sym rest) ∙ sym pushed,
    );
  },
)

-- values that are read as a slice
pub newest_at : (vs ws : List Value) (v : Value) → vs ≡ ws → newest vs ≡ seen v ∷ drop 1 (newest vs) → newest ws ≡ seen v ∷ drop 1 (newest ws)
newest_at vs ws v e h = subst (λ xs. newest xs ≡ seen v ∷ drop 1 (newest xs)) e h

pub newest_none : (vs ws : List Value) → vs ≡ ws → newest vs ≡ [] → newest ws ≡ []
newest_none vs ws e h = ap newest (sym e) ∙ h

-- the run's end, and the end of another thread
pub finish_main : (t : Table) (w : World) (slot : ℕ) (th : Thread) (f : Frame) (point : ℕ) (user : SeenThread) (v : Seen) (n : ℤ) → slot ≡ 0
    → n ≡ number_of v
    → finish_thread (standing_at t w slot th f point user) v slot ≡ Some (record w { finish = Some (world.Finished n) })
finish_main t w slot th f point user v n e is =
    let by : ℕ → Option World = λ k. finish_thread (standing_at t w slot th f point user) v k in
    let made : ℤ → Option World = λ k. Some (record w { finish = Some (world.Finished k) }) in
    ap by e ∙ ap made (sym is)

pub finish_other : (t : Table) (w : World) (slot : ℕ) (th : Thread) (f : Frame) (point : ℕ) (user : SeenThread) (v : Seen) (k : ℕ)
    → (k ≡ 0 → ⊥) → user.serial ≡ th.serial
    → finish_thread (standing_at t w slot th f point user) v k ≡ Some (with_slot slot (world.Over th.serial v) w)
finish_other t w slot th f point user v zero not is = absurd (not refl)
finish_other t w slot th f point user v (suc k) not is =
    let made : ℕ → Option World = λ n. Some (with_slot slot (world.Over n v) w) in ap made is
