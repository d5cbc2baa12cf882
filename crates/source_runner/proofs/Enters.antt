-- A function is entered.
use Rattle.std.proofs.Common.{◌≡◌, ℕ, ◌==◌, Bool, true, false, List, ◌∷◌, length, map, reverse, Option, Some, None, refl, sym, ap, ap₂, ◌∙◌, if◌then◌else◌}
use Rattle.c_tree.specs.BareDef.{BareDef}
use Rattle.run_types.specs.declared.trap.TrapKind.TheVariants.{Depth}
use Rattle.c_semantics.specs.Texts.{definition}
use Rattle.c_semantics.specs.Threads.{Enter as SeenEnter, Thread as SeenThread, entered}
use Rattle.source_model.specs.Versions.{current}
use Rattle.source_model.specs.Worlds.{World, Trapped, now, with_thread}
use Rattle.source_model.specs.Uses.{is_right, marked, recorded}
use Rattle.source_model.specs.Moves.{enter, enter_with, frame_count, frame_of as entered_frame}
use Rattle.version_laws.specs.Histories.{IsHistory, last_text}
use Rattle.source_runner.specs.declared.thread.Frame.{Frame}
use Rattle.source_runner.specs.declared.thread.Enter.{Enter}
use Rattle.source_runner.specs.declared.thread.Next.{Next}
use Rattle.source_runner.specs.declared.thread.Next.TheVariants as next
use Rattle.source_runner.specs.declared.thread.Thread.{Thread}
use Rattle.resolved_tree.specs.Nodes.{Table, word}
use Rattle.local_evaluation.specs.Values.{seen}
use Rattle.source_runner.specs.Frames.{frame_of}
use Rattle.source_runner.specs.Machines.{IsThread, enter_of}
use Rattle.std.proofs.lemmas.List.{length-map, length-reverse}
use Rattle.version_laws.proofs.EntersAlike.{enters_alike}
use Rattle.version_laws.proofs.TableHistories.{last_as_current}
use Rattle.source_runner.proofs.Halted.{true_is_not_false}
use Rattle.source_runner.proofs.Transactions.{Goes}

-- by whether the use of the function is right
enters_by : (w : World) (slot : ℕ) (th : SeenThread) (e : SeenEnter) (b : Bool) → is_right w.table e.version e.function ≡ b
    → enter w slot th e ≡ (if b then enter_with w slot e (recorded w.table e.function th) else Some (marked w))
enters_by w slot th e b h =
    let by : Bool → Option World = λ x. if x then enter_with w slot e (recorded w.table e.function th) else Some (marked w) in
    ap by h

pub enters_wrong : (w : World) (slot : ℕ) (th : SeenThread) (e : SeenEnter)
    → is_right w.table e.version e.function ≡ false → enter w slot th e ≡ Some (marked w)
enters_wrong w slot th e h = enters_by w slot th e false h

-- where there is no room it traps
pub enters_deep : (w : World) (slot : ℕ) (th : SeenThread) (e : SeenEnter)
    → is_right w.table e.version e.function ≡ true → (length th.frames == frame_count) ≡ true
    → enter w slot th e ≡ Some (record (with_thread slot (recorded w.table e.function th) w) { finish = Some (Trapped Depth slot) })
enters_deep w slot th e h deep =
    let user = recorded w.table e.function th in
    let by : Bool → Option World = λ b.
    if b
    then Some (record (with_thread slot user w) { finish = Some (Trapped Depth slot) })
    else Some (with_thread slot (record user { frames = entered_frame w e ∷ user.frames; entering = None }) w) in
    enters_by w slot th e true h ∙ ap by deep

-- else its frame is the innermost
pub enters : (versions : List (List BareDef)) (t : Table) (w : World) (slot : ℕ) (th : SeenThread) (own : Thread) (due : Enter) (frame : Frame)
    → IsHistory versions w.table → is_right w.table due.version (word t due.function) ≡ true
    → (length th.frames == frame_count) ≡ false
    → IsThread t false own (next.Enter due) th
    → frame_of t frame ≡ entered (definition (last_text versions)) (word t due.function) (length versions) (map seen due.arguments.items)
    → Goes t w slot own frame (enter w slot th (enter_of t due))
enters versions t w slot th own due frame history h room is made = (
  after,
  enters_by w slot th e true h ∙ ap by room,
  record {
    serial = is.serial;
    depth = is.depth;
    entering = refl;
    frames = ap₂ (λ f fs. f ∷ fs) frame_is (is.does refl).1;
  },
)
  where
    e : SeenEnter
    e = enter_of t due

    after : SeenThread
    after = record (recorded w.table e.function th) { frames = entered_frame w e ∷ th.frames; entering = None }

    by : Bool → Option World
    by b = if b
        then Some (record (with_thread slot (recorded w.table e.function th) w) { finish = Some (Trapped Depth slot) })
        else Some (with_thread slot after w)

    frame_is : entered_frame w e ≡ frame_of t frame
    frame_is =
        enters_alike (now w) (definition (last_text versions)) (last_as_current versions w.table history) e.function (current w.table) e.arguments
        ∙ ap (λ n. entered (definition (last_text versions)) e.function n e.arguments) history.count
        ∙ sym made

-- the thread of a slot where it trapped
pub deep_thread : (t : Table) (w : World) (th : SeenThread) (own : Thread) (due : Enter) (n : Next)
    → IsThread t false own (next.Enter due) th → IsThread t true own n (recorded w.table (word t due.function) th)
deep_thread t w th own due n is =
    record { serial = is.serial; depth = is.depth; does = λ going. absurd (true_is_not_false going) }

-- how many frames it has
pub frames_are : (t : Table) (th : SeenThread) (own : Thread) (due : Enter) (b : Bool) → IsThread t false own (next.Enter due) th
    → (length own.below.items == frame_count) ≡ b → (length th.frames == frame_count) ≡ b
frames_are t th own due b is h =
    ap (λ fs. length fs == frame_count) (is.does refl).1
    ∙ ap (λ n. n == frame_count) (length-map (reverse own.below.items) (frame_of t) ∙ length-reverse own.below.items) ∙ h
