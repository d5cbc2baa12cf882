-- Each frame of a run comes through the body of its function.
use Rattle.std.proofs.Common.{◌≡◌, ◌≢◌, ℕ, zero, suc, ◌≤◌, Bool, true, false, List, [], ◌∷◌, ◌++◌, length, Option, Some, None, refl, sym, subst, le_trans, le_refl}
use Rattle.std.specs.Prelude.{◌||◌, ◌==◌, position, replicate, ◌-◌, slice_get, slice_index_or, slice_set, unwrap_or, unsigned_abs, if◌then◌else◌}
use Rattle.std.specs.Option.{option_and_then}
use Rattle.run_types.specs.Skeleton.{depth_after}
use Rattle.run_types.specs.declared.trap.TrapKind.{TrapKind}
use Rattle.run_types.specs.declared.trap.TrapKind.TheVariants.{Null, Stale, Index, Depth, Relock, Unlock as NotHeld, MutexHeld, Join as NotJoined}
use Rattle.c_ints.specs.Number.{value_of}
use Rattle.c_tree.specs.BareExpr.{Bytes}
use Rattle.c_tree.specs.BareDef.{BareDef}
use Rattle.c_semantics.specs.Texts.{Definitions, result_type}
use Rattle.c_semantics.specs.Resolution.{resolved_body}
use Rattle.c_semantics.specs.Skeletons.{skeleton}
use Rattle.c_semantics.specs.Standing.{stands_at}
use Rattle.c_semantics.specs.SkeletonLaws.{Comes, entered, stopped}
use Rattle.c_semantics.specs.Values.{Value, Number, Reference, Started, ThreadRef, int_of}
use Rattle.c_semantics.specs.Stops.{Stop, ReadGlobal, WriteGlobal, ReadElement, WriteElement, ReadField, WriteField, New, Free, Print, InitMutex, Lock, Unlock, Spawn, Join, Call, Return, Back, Begin, End, Update, kind_of}
use Rattle.c_semantics.specs.Pieces.{Halt, Stopped, Trapped, Nothing}
use Rattle.c_semantics.specs.Threads.{Frame, Enter, Thread, started, next_of}
use Rattle.source_model.specs.Versions.{Table, in_version, current}
use Rattle.source_model.specs.Worlds.{World, Object, Slot, Live, Over, Limits, in_slot, with_slot, with_thread, is_over, cells_of, with_cells, live_objects, released}
use Rattle.source_model.specs.Worlds as world
use Rattle.source_model.specs.Uses.{using, use_at, is_right, recorded, marked}
use Rattle.source_model.specs.Waits.{must_wait}
use Rattle.source_model.specs.Moves.{Standing, on_live, on_object, read_element, write_element, read_field, write_field, allocate, release, initialise, lock, unlock, start_in, spawn, join_slot, join, finish_thread, return_to, return, begin_at, end_at, write_global, perform, with_use, behind, enter, enter_with, in_frames, thread_move, move_of, move, goes_on, gone_on, traps, is_free, in_bounds, new_object, frame_count, frame_of}
use Rattle.source_model.specs.Installs.{installed}
use Rattle.source_model.specs.Runs.{SourceMove, Move, Install, install, step, run, start}
use Rattle.source_model.specs.FrameLaws.{ComesThrough, FramesComeThrough}
use Rattle.source_model.proofs.Moved.{Keeps, AllOf, move_keeps, of_outcome}
use Rattle.source_model.proofs.Older.{older_stay, current_grows}

-- all frames, of a thread, of a slot and of slots
abbrev AllFrames : Table → List Frame → Type 0
AllFrames table [] = Unit {0}
AllFrames table (f ∷ fs) = ComesThrough table f × AllFrames table fs

abbrev In : Table → Slot → Type 0
In table (Live th) = AllFrames table th.frames
In table world.Free = Unit {0}
In table (Over serial result) = Unit {0}

abbrev All : Table → List Slot → Type 0
All table [] = Unit {0}
All table (x ∷ xs) = In table x × All table xs

set_keeps : (table : Table) (xs : List Slot) (t : ℕ) (x : Slot) → All table xs → In table x → All table (slice_set xs t x)
set_keeps table [] t x all here = tt
set_keeps table (y ∷ ys) zero x (first, rest) here = (here, rest)
set_keeps table (y ∷ ys) (suc t) x (first, rest) here = (first, set_keeps table ys t x rest here)

in_of : (table : Table) (xs : List Slot) (t : ℕ) → All table xs → In table (slice_index_or xs t world.Free)
in_of table [] t all = tt
in_of table (x ∷ xs) zero (first, rest) = first
in_of table (x ∷ xs) (suc t) (first, rest) = in_of table xs t rest

frame_at : (table : Table) (fs : List Frame) (k : ℕ) (f : Frame) → AllFrames table fs → slice_get fs k ≡ Some f → ComesThrough table f
frame_at table [] k f all e = absurd (no e)
  where
    no : None ≡ Some f → ⊥
    no e = cc
frame_at table (g ∷ gs) zero f (here, rest) e = subst (ComesThrough table) (same e) here
  where
    same : Some g ≡ Some f → g ≡ f
    same e = cc
frame_at table (g ∷ gs) (suc k) f (here, rest) e = frame_at table gs k f rest e

-- other values say nothing
with_values : (table : Table) (f : Frame) (values : List Value) → ComesThrough table f → ComesThrough table (record f { values = values })
with_values table f values c = record { depth = c.depth; comes = c.comes; version = c.version }

-- what is known before a stop
record Ready (table : Table) (s : Standing) : Type 0 where
  all : All table s.world.slots
  top : ComesThrough table s.frame
  below : AllFrames table s.below

abbrev Kept : Table → Option World → Type 0
Kept table = AllOf (λ after. All table after.slots)

either_way : (table : Table) (b : Bool) (x y : Option World) → Kept table x → Kept table y → Kept table (if b then x else y)
either_way table true x y p q = p
either_way table false x y p q = q

goes_in : (table : Table) (s : Standing) (slots : List Slot) (values : List Value) → Ready table s → All table slots
    → All table (slice_set slots s.slot (Live (gone_on s values)))
goes_in table s slots values r all =
    set_keeps table slots s.slot (Live (gone_on s values)) all (with_values table s.frame values r.top, r.below)

goes : (table : Table) (s : Standing) (values : List Value) → Ready table s
    → All table (slice_set s.world.slots s.slot (Live (gone_on s values)))
goes table s values r = goes_in table s s.world.slots values r r.all

trapped : (table : Table) (s : Standing) (kind : TrapKind) → Ready table s → Kept table (traps s kind)
trapped table s kind r =
    set_keeps table s.world.slots s.slot (Live (gone_on s s.frame.values)) r.all
    (with_values table s.frame s.frame.values r.top, r.below)

write_global_keeps : (table : Table) (s : Standing) (name : Bytes) (values : List Value) → Ready table s
    → Kept table (write_global s name values)
write_global_keeps table s name [] r = tt
write_global_keeps table s name (v ∷ values) r = goes table s (v ∷ values) r

read_element_keeps : (table : Table) (s : Standing) (name : Bytes) (values : List Value) → Ready table s
    → Kept table (read_element s name values)
read_element_keeps table s name (Number i ∷ values) r =
    let cells = cells_of s.world name in
    either_way table (in_bounds (value_of i) cells)
    (goes_on s s.world (unwrap_or (slice_get cells (unsigned_abs (value_of i))) (int_of 0) ∷ values)) (traps s Index)
    (goes table s _ r) (trapped table s Index r)
read_element_keeps table s name [] r = tt
read_element_keeps table s name (Reference o ∷ values) r = tt
read_element_keeps table s name (Started o ∷ values) r = tt

write_element_keeps : (table : Table) (s : Standing) (name : Bytes) (values : List Value) → Ready table s
    → Kept table (write_element s name values)
write_element_keeps table s name (v ∷ Number i ∷ values) r =
    let cells = cells_of s.world name in
    either_way table (in_bounds (value_of i) cells)
    (goes_on s (with_cells name (slice_set cells (unsigned_abs (value_of i)) v) s.world) (v ∷ values)) (traps s Index)
    (goes table s _ r) (trapped table s Index r)
write_element_keeps table s name [] r = tt
write_element_keeps table s name (v ∷ []) r = tt
write_element_keeps table s name (v ∷ Reference o ∷ values) r = tt
write_element_keeps table s name (v ∷ Started o ∷ values) r = tt

on_live_keeps : (table : Table) (s : Standing) (f : Object → Option World) (o : Option Object) → Ready table s
    → ((x : Object) → Kept table (f x)) → Kept table (on_live s f o)
on_live_keeps table s f None r keeps = trapped table s Stale r
on_live_keeps table s f (Some o) r keeps = either_way table o.live (f o) (traps s Stale) (keeps o) (trapped table s Stale r)

on_object_keeps : (table : Table) (s : Standing) (o : Option ℕ) (f : ℕ → Object → Option World) → Ready table s
    → ((n : ℕ) (x : Object) → Kept table (f n x)) → Kept table (on_object s o f)
on_object_keeps table s None f r keeps = trapped table s Null r
on_object_keeps table s (Some n) f r keeps = on_live_keeps table s (f n) (slice_get s.world.objects n) r (keeps n)

read_field_keeps : (table : Table) (s : Standing) (field : Bytes) (values : List Value) → Ready table s
    → Kept table (read_field s field values)
read_field_keeps table s field (Reference o ∷ values) r = on_object_keeps table s o _ r (λ n x. goes table s _ r)
read_field_keeps table s field [] r = tt
read_field_keeps table s field (Number i ∷ values) r = tt
read_field_keeps table s field (Started o ∷ values) r = tt

write_field_keeps : (table : Table) (s : Standing) (field : Bytes) (values : List Value) → Ready table s
    → Kept table (write_field s field values)
write_field_keeps table s field (v ∷ Reference o ∷ values) r = on_object_keeps table s o _ r (λ n x. goes table s _ r)
write_field_keeps table s field [] r = tt
write_field_keeps table s field (v ∷ []) r = tt
write_field_keeps table s field (v ∷ Number i ∷ values) r = tt
write_field_keeps table s field (v ∷ Started o ∷ values) r = tt

allocate_keeps : (table : Table) (s : Standing) (tag : Bytes) (values : List Value) → Ready table s → Kept table (allocate s tag values)
allocate_keeps table s tag values r =
    let w = s.world in
    either_way table (live_objects w == w.capacity) (goes_on s w (Reference None ∷ values))
    (goes_on s (record w { objects = w.objects ++ new_object w tag ∷ [] }) (Reference (Some (length w.objects)) ∷ values))
    (goes table s _ r) (goes table s _ r)

release_keeps : (table : Table) (s : Standing) (values : List Value) → Ready table s → Kept table (release s values)
release_keeps table s (Reference None ∷ values) r = goes table s _ r
release_keeps table s (Reference (Some n) ∷ values) r =
    on_live_keeps table s _ (slice_get s.world.objects n) r (λ o. goes table s _ r)
release_keeps table s [] r = tt
release_keeps table s (Number i ∷ values) r = tt
release_keeps table s (Started o ∷ values) r = tt

initialise_keeps : (table : Table) (s : Standing) (values : List Value) (holder : Option ℕ) → Ready table s
    → Kept table (initialise s values holder)
initialise_keeps table s values None r = goes table s _ r
initialise_keeps table s values (Some slot) r = trapped table s MutexHeld r

lock_keeps : (table : Table) (s : Standing) (name : Bytes) (values : List Value) (holder : Option ℕ) → Ready table s
    → Kept table (lock s name values holder)
lock_keeps table s name values None r = goes table s _ r
lock_keeps table s name values (Some slot) r = trapped table s Relock r

unlock_keeps : (table : Table) (s : Standing) (name : Bytes) (values : List Value) (holder : Option ℕ) → Ready table s
    → Kept table (unlock s name values holder)
unlock_keeps table s name values None r = trapped table s NotHeld r
unlock_keeps table s name values (Some slot) r =
    either_way table (slot == s.slot) (goes_on s (released name s.world) (int_of 0 ∷ values)) (traps s NotHeld)
    (goes table s _ r) (trapped table s NotHeld r)

start_keeps : (table : Table) (s : Standing) (enter : Enter) (values : List Value) (place : Option ℕ) → Ready table s
    → Kept table (start_in s enter values place)
start_keeps table s enter values None r = goes table s _ r
start_keeps table s enter values (Some t) r = goes_in table s (slice_set s.world.slots t (Live (started s.world.threads enter))) _ r (set_keeps table s.world.slots t (Live (started s.world.threads enter)) r.all tt)

spawn_keeps : (table : Table) (s : Standing) (name : Bytes) (values : List Value) → Ready table s → Kept table (spawn s name values)
spawn_keeps table s name [] r = tt
spawn_keeps table s name (v ∷ values) r = start_keeps table s _ values (position is_free s.world.slots) r

join_slot_keeps : (table : Table) (s : Standing) (ref : ThreadRef) (values : List Value) (x : Slot) → Ready table s
    → Kept table (join_slot s ref values x)
join_slot_keeps table s ref values world.Free r = trapped table s NotJoined r
join_slot_keeps table s ref values (Live th) r = trapped table s NotJoined r
join_slot_keeps table s ref values (Over serial result) r =
    either_way table (serial == ref.serial)
    (goes_on s (with_slot ref.slot world.Free s.world) (result ∷ values)) (traps s NotJoined)
    (goes_in table s (slice_set s.world.slots ref.slot world.Free) _ r (set_keeps table s.world.slots ref.slot world.Free r.all tt)) (trapped table s NotJoined r)

join_keeps : (table : Table) (s : Standing) (values : List Value) → Ready table s → Kept table (join s values)
join_keeps table s (Started None ∷ values) r = trapped table s NotJoined r
join_keeps table s (Started (Some ref) ∷ values) r = join_slot_keeps table s ref values (in_slot s.world ref.slot) r
join_keeps table s [] r = tt
join_keeps table s (Number i ∷ values) r = tt
join_keeps table s (Reference o ∷ values) r = tt

finish_keeps : (table : Table) (s : Standing) (v : Value) (n : ℕ) → All table s.world.slots → Kept table (finish_thread s v n)
finish_keeps table s v zero all = all
finish_keeps table s v (suc n) all = set_keeps table s.world.slots s.slot (Over s.thread.serial v) all tt

return_to_keeps : (table : Table) (s : Standing) (v : Value) (below : List Frame) → All table s.world.slots → AllFrames table below
    → Kept table (return_to s v below)
return_to_keeps table s v [] all frames = finish_keeps table s v s.slot all
return_to_keeps table s v (f ∷ fs) all (here, rest) =
    set_keeps table s.world.slots s.slot (Live (record s.thread { frames = record f { values = v ∷ f.values } ∷ fs })) all
    (with_values table f (v ∷ f.values) here, rest)

return_keeps : (table : Table) (s : Standing) (values : List Value) → All table s.world.slots → AllFrames table s.below
    → Kept table (return s values)
return_keeps table s [] all frames = tt
return_keeps table s (v ∷ values) all frames = return_to_keeps table s v s.below all frames

begin_keeps : (table : Table) (s : Standing) (depth : ℕ) (th : Thread) → All table s.world.slots → AllFrames table th.frames
    → Kept table (begin_at s depth th)
begin_keeps table s zero th all frames = set_keeps table s.world.slots s.slot _ all frames
begin_keeps table s (suc depth) th all frames = set_keeps table s.world.slots s.slot _ all frames

end_keeps : (table : Table) (s : Standing) (depth : ℕ) (th : Thread) → All table s.world.slots → AllFrames table th.frames
    → Kept table (end_at s depth th)
end_keeps table s zero th all frames = tt
end_keeps table s (suc zero) th all frames = set_keeps table s.world.slots s.slot _ all frames
end_keeps table s (suc (suc depth)) th all frames = set_keeps table s.world.slots s.slot _ all frames

-- the frame after a stop other than a return
ready : (table : Table) (s : Standing) (x : Stop) → All table s.world.slots → (x ≢ Return → ComesThrough table s.frame)
    → AllFrames table s.below → x ≢ Return → Ready table s
ready table s x all top below not = record { all = all; top = top not; below = below }

perform_keeps : (table : Table) (x : Stop) (s : Standing) (values : List Value) → All table s.world.slots
    → (x ≢ Return → ComesThrough table s.frame) → AllFrames table s.below → Kept table (perform x s values)
perform_keeps table (ReadGlobal name) s values all top below =
    let r = ready table s _ all top below (λ e. cc) in goes table s _ r
perform_keeps table (WriteGlobal name) s values all top below = write_global_keeps table s name values (ready table s _ all top below (λ e. cc))
perform_keeps table (ReadElement name) s values all top below = read_element_keeps table s name values (ready table s _ all top below (λ e. cc))
perform_keeps table (WriteElement name) s values all top below = write_element_keeps table s name values (ready table s _ all top below (λ e. cc))
perform_keeps table (ReadField tag field) s values all top below = read_field_keeps table s field values (ready table s _ all top below (λ e. cc))
perform_keeps table (WriteField tag field) s values all top below = write_field_keeps table s field values (ready table s _ all top below (λ e. cc))
perform_keeps table (New tag) s values all top below = allocate_keeps table s tag values (ready table s _ all top below (λ e. cc))
perform_keeps table (Free tag) s values all top below = release_keeps table s values (ready table s _ all top below (λ e. cc))
perform_keeps table (Print format n) s values all top below =
    let r = ready table s _ all top below (λ e. cc) in goes table s _ r
perform_keeps table (InitMutex name) s values all top below = initialise_keeps table s values _ (ready table s _ all top below (λ e. cc))
perform_keeps table (Lock name) s values all top below = lock_keeps table s name values _ (ready table s _ all top below (λ e. cc))
perform_keeps table (Unlock name) s values all top below = unlock_keeps table s name values _ (ready table s _ all top below (λ e. cc))
perform_keeps table (Spawn name) s values all top below = spawn_keeps table s name values (ready table s _ all top below (λ e. cc))
perform_keeps table Join s values all top below = join_keeps table s values (ready table s _ all top below (λ e. cc))
perform_keeps table (Call name n) s values all top below =
    set_keeps table s.world.slots s.slot _ all (with_values table s.frame _ (top (λ e. cc)), below)
perform_keeps table Return s values all top below = return_keeps table s values all below
perform_keeps table Back s values all top below =
    let r = ready table s _ all top below (λ e. cc) in goes table s _ r
perform_keeps table Begin s values all top below =
    begin_keeps table s s.thread.depth _ all (with_values table s.frame values (top (λ e. cc)), below)
perform_keeps table End s values all top below =
    end_keeps table s s.thread.depth _ all (with_values table s.frame values (top (λ e. cc)), below)
perform_keeps table Update s values all top below =
    let r = ready table s _ all top below (λ e. cc) in goes table s _ r

using_keeps : (table : Table) (w : World) (th : Thread) (n : ℕ) (name : Bytes) (f : Thread → Option World) → All table w.slots
    → Kept table (f (recorded w.table name th)) → Kept table (using w th n name f)
using_keeps table w th n name f all keeps =
    either_way table (is_right w.table n name) (f (recorded w.table name th)) (Some (marked w)) keeps all

with_use_keeps : (table : Table) (x : Stop) (w : World) (t : ℕ) (th : Thread) (f : Frame) (below : List Frame) (name : Option Bytes)
    → All table w.slots → (x ≢ Return → ComesThrough table f) → AllFrames table below → Kept table (with_use x w t th f below name)
with_use_keeps table x w t th f fs None all top below =
    perform_keeps table x (record { world = w; slot = t; thread = th; frame = f; below = fs }) f.values all top below
with_use_keeps table x w t th f fs (Some name) all top below =
    using_keeps table w th f.version name
    (λ user. perform x (record { world = w; slot = t; thread = user; frame = f; below = fs }) f.values) all
    (perform_keeps table x (record { world = w; slot = t; thread = recorded w.table name th; frame = f; below = fs }) f.values all top below)

after_keeps : (table : Table) (w : World) (t : ℕ) (th : Thread) (f : Frame) (below : List Frame) (h : Halt) → next_of f ≡ h
    → All table w.slots → ComesThrough table f → AllFrames table below → Kept table (behind w t th f below h)
after_keeps table w t th f fs (Stopped x n rest values scopes) e all c below =
    let g : Frame = record f { standing = n; pieces = rest; values = values; scopes = scopes } in
    let gone : x ≢ Return → ComesThrough table g = λ not. record {
      depth = depth_after (kind_of x) c.depth;
      comes = stopped _ c.depth f.pieces f.values f.scopes x n rest values scopes c.comes not e;
      version = c.version;
    } in
    with_use_keeps table x w t th g fs (use_at x) all gone below
after_keeps table w t th f fs (Trapped kind) e all c below = all
after_keeps table w t th f fs Nothing e all c below = tt

enter_with_keeps : (w : World) (t : ℕ) (e : Enter) (th : Thread) → All w.table w.slots → AllFrames w.table th.frames
    → Kept w.table (enter_with w t e th)
enter_with_keeps w t e th all frames =
    either_way w.table (length th.frames == frame_count)
    (Some (record (with_thread t th w) { finish = Some (world.Trapped Depth t) }))
    (Some (with_thread t (record th { frames = frame_of w e ∷ th.frames; entering = None }) w))
    (set_keeps w.table w.slots t (Live th) all frames)
    (set_keeps w.table w.slots t (Live (record th { frames = frame_of w e ∷ th.frames; entering = None })) all (new, frames))
  where
    new : ComesThrough w.table (frame_of w e)
    new = record { depth = 0; comes = entered; version = le_refl (current w.table) }

frames_keep : (w : World) (t : ℕ) (th : Thread) (fs : List Frame) → All w.table w.slots → AllFrames w.table fs
    → Kept w.table (in_frames w t th fs)
frames_keep w t th [] all frames = tt
frames_keep w t th (f ∷ fs) all (here, below) = after_keeps w.table w t th f fs (next_of f) refl all here below

thread_keeps : (w : World) (t : ℕ) (th : Thread) (e : Option Enter) → All w.table w.slots → AllFrames w.table th.frames
    → Kept w.table (thread_move w t th e)
thread_keeps w t th None all frames = frames_keep w t th th.frames all frames
thread_keeps w t th (Some e) all frames =
    using_keeps w.table w th e.version e.function (enter_with w t e) all
    (enter_with_keeps w t e (recorded w.table e.function th) all frames)

slot_keeps : (w : World) (t : ℕ) (x : Slot) → All w.table w.slots → In w.table x → Kept w.table (move_of w t x)
slot_keeps w t (Live th) all frames = thread_keeps w t th th.entering all frames
slot_keeps w t world.Free all frames = tt
slot_keeps w t (Over serial result) all frames = tt

-- all frames of a world
abbrev Sound : World → Type 0
Sound w = All w.table w.slots

same_table : (t : ℕ) (w : World) (o : Option World) → Kept w.table o → AllOf (Keeps t w) o → AllOf Sound o
same_table t w None all keeps = tt
same_table t w (Some after) all keeps = subst (λ table. All table after.slots) (sym keeps.same_table) all

move_sound : (w : World) (t : ℕ) → Sound w → AllOf Sound (move w t)
move_sound w t all =
    same_table t w (move w t)
    (either_way w.table (is_over w || must_wait w t) None (move_of w t (in_slot w t)) tt
    (slot_keeps w t (in_slot w t) all (in_of w.table w.slots t all)))
    (move_keeps w t)

-- an install leaves the older versions, and so the bodies of all frames
module _ (table next : Table) (older : (v : ℕ) → v ≤ current table → in_version next v ≡ in_version table v)
    (grows : current table ≤ current next) where
  frame_still : (f : Frame) → ComesThrough table f → ComesThrough next f
  frame_still f c = record {
    depth = c.depth;
    comes = subst P (sym (older f.version c.version)) c.comes;
    version = le_trans c.version grows;
  }
    where
      P : Definitions → Type 0
      P look =
          Comes (resolved_body look (look f.function)) (result_type (look f.function))
          (stands_at (skeleton (resolved_body look (look f.function))) None f) c.depth f.pieces

  frames_still : (fs : List Frame) → AllFrames table fs → AllFrames next fs
  frames_still [] all = tt
  frames_still (f ∷ fs) (here, rest) = (frame_still f here, frames_still fs rest)

  slot_still : (x : Slot) → In table x → In next x
  slot_still (Live th) all = frames_still th.frames all
  slot_still world.Free all = tt
  slot_still (Over serial result) all = tt

  slots_still : (xs : List Slot) → All table xs → All next xs
  slots_still [] all = tt
  slots_still (x ∷ xs) (here, rest) = (slot_still x here, slots_still xs rest)

installed_sound : (q : List BareDef) (w : World) → Sound w → Sound (installed q w)
installed_sound q w all =
    slots_still w.table (installed q w).table (λ v h. older_stay v w.text q w.table h) (current_grows w.text q w.table) w.slots all

install_sound : (w : World) (q : Option (List BareDef)) → Sound w → AllOf Sound (install w q)
install_sound w None all = tt
install_sound w (Some q) all = unless (is_over w)
  where
    unless : (b : Bool) → AllOf Sound (if b then None else Some (installed q w))
    unless true = tt
    unless false = installed_sound q w all

step_sound : (texts : List (List BareDef)) (m : SourceMove) (w : World) → Sound w → AllOf Sound (step texts m w)
step_sound texts (Move t) w all = move_sound w t all
step_sound texts (Install k) w all = install_sound w _ all

and_then_sound : (f : World → Option World) (o : Option World) → AllOf Sound o → ((mid : World) → Sound mid → AllOf Sound (f mid))
    → AllOf Sound (option_and_then f o)
and_then_sound f None h g = tt
and_then_sound f (Some mid) h g = g mid h

run_sound : (texts : List (List BareDef)) (ms : List SourceMove) (w : World) → Sound w → AllOf Sound (run texts ms w)
run_sound texts [] w all = all
run_sound texts (m ∷ ms) w all =
    and_then_sound (run texts ms) (step texts m w) (step_sound texts m w all) (λ mid h. run_sound texts ms mid h)

-- at the start there is no frame
free_sound : (table : Table) (n : ℕ) → All table (replicate n world.Free)
free_sound table zero = tt
free_sound table (suc n) = (tt, free_sound table n)

start_sound : (texts : List (List BareDef)) (limits : Limits) → AllOf Sound (start texts limits)
start_sound [] limits = tt
start_sound (text ∷ texts) limits = (tt, free_sound _ (limits.slots - 1))

pub frames_come_through : FramesComeThrough
frames_come_through texts limits ms w after t th k f started ran lives is =
    let begun = of_outcome Sound (start texts limits) w started (start_sound texts limits) in
    let all = of_outcome Sound (run texts ms w) after ran (run_sound texts ms w begun) in
    frame_at after.table th.frames k f (subst (In after.table) lives (in_of after.table after.slots t all)) is
