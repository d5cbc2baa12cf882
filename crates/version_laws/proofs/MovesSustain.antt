-- What a move leaves as it was: the definitions, the text, the names of the globals, and the fields that each object has; at
-- most one object is new.
use Rattle.std.proofs.Common.{◌≡◌, ℕ, zero, suc, ◌==◌, Bool, true, false, ◌||◌, ◌⊎◌, inl, inr, List, [], ◌∷◌, ◌++◌, map, length, position, slice_get, slice_set, unwrap_or, unsigned_abs, Option, Some, None, refl, ap, subst, ◌∙◌, bytes_eq, if◌then◌else◌}
use Rattle.run_types.specs.declared.trap.TrapKind.{TrapKind}
use Rattle.run_types.specs.declared.trap.TrapKind.TheVariants.{Null, Stale, Index, Depth, Relock, Unlock as NotHeld, MutexHeld, Join as NotJoined}
use Rattle.c_ints.specs.Number.{value_of}
use Rattle.c_tree.specs.BareExpr.{Bytes}
use Rattle.c_semantics.specs.Values.{ThreadRef, Value, Number, Reference, Started, int_of}
use Rattle.c_semantics.specs.Stops.{Stop, ReadGlobal, WriteGlobal, ReadElement, WriteElement, ReadField, WriteField, New, Free, Print, InitMutex, Lock, Unlock, Spawn, Join, Call, Return, Back, Begin, End, Update}
use Rattle.c_semantics.specs.Pieces.{Variable, Halt, Stopped, Trapped, Nothing}
use Rattle.c_semantics.specs.Evaluation.{with_value}
use Rattle.c_semantics.specs.Threads.{Frame, Enter, Thread}
use Rattle.source_model.specs.Worlds.{World, Object, Slot, Live, Over, in_slot, with_slot, with_thread, is_over, cells_of, with_cells, with_cells_in, live_objects, released}
use Rattle.source_model.specs.Worlds as world
use Rattle.source_model.specs.Uses.{using, use_at, is_right, recorded, marked}
use Rattle.source_model.specs.Waits.{must_wait}
use Rattle.source_model.specs.Moves.{Standing, on_live, on_object, read_element, write_element, read_field, write_field, allocate, release, initialise, lock, unlock, start_in, spawn, join_slot, join, finish_thread, return_to, return, begin_at, end_at, write_global, print, call, perform, with_use, behind, enter_with, in_frames, thread_move, move_of, move, goes_on, traps, is_free, in_bounds, new_object, frame_count, frame_of}

-- an object's tag, and the names of its fields in order
abbrev pub shape : Object → Bytes × List Bytes
shape o = (o.tag, map (λ v. v.name) o.fields)

-- the objects are those of a world, with the shapes that they had, or there is a new one beside them
abbrev pub ObjectsAfter : World → List Object → Type 0
ObjectsAfter w os = (map shape os ≡ map shape w.objects) ⊎ ((tag : Bytes) × (os ≡ w.objects ++ new_object w tag ∷ []))

pub record Sustains (w after : World) : Type 0 where
  pub same_table : after.table ≡ w.table
  pub same_text : after.text ≡ w.text
  pub globals : map (λ g. g.name) after.globals ≡ map (λ g. g.name) w.globals
  pub objects : ObjectsAfter w after.objects

-- a world that is there satisfies P
abbrev AllOf : (World → Type 0) → Option World → Type 0
AllOf P None = Unit {0}
AllOf P (Some w) = P w

-- the outcome of a stop
abbrev Kept : Standing → Option World → Type 0
Kept s = AllOf (Sustains s.world)

untouched : (w after : World) → after.table ≡ w.table → after.text ≡ w.text → after.globals ≡ w.globals → after.objects ≡ w.objects
    → Sustains w after
untouched w after d t g o =
    record { same_table = d; same_text = t; globals = ap (map (λ x. x.name)) g; objects = inl (ap (map shape) o) }

-- one of two outcomes
either_way : (P : World → Type 0) (b : Bool) (x y : Option World) → AllOf P x → AllOf P y → AllOf P (if b then x else y)
either_way P true x y p q = p
either_way P false x y p q = q

goes : (s : Standing) (w : World) (values : List Value) → w.table ≡ s.world.table → w.text ≡ s.world.text
    → w.globals ≡ s.world.globals → w.objects ≡ s.world.objects → Kept s (goes_on s w values)
goes s w values d t g o = untouched s.world _ d t g o

goes_same : (s : Standing) (values : List Value) → Kept s (goes_on s s.world values)
goes_same s values = goes s s.world values refl refl refl refl

trapped : (s : Standing) (kind : TrapKind) → Kept s (traps s kind)
trapped s kind = untouched s.world _ refl refl refl refl

-- ---- objects

-- a write leaves the names of the fields
names_written : (name : Bytes) (v : Value) (fields : List Variable)
    → map (λ (x : Variable). x.name) (with_value name v fields) ≡ map (λ (x : Variable). x.name) fields
names_written name v [] = refl
names_written name v (x ∷ xs) = by (bytes_eq name x.name) (names_written name v xs)
  where
    by : (b : Bool) → map (λ (y : Variable). y.name) (with_value name v xs) ≡ map (λ (y : Variable). y.name) xs
        → map (λ (y : Variable). y.name) (if b then record x { value = v } ∷ xs else x ∷ with_value name v xs)
        ≡ x.name ∷ map (λ (y : Variable). y.name) xs
    by true rest = refl
    by false rest = ap (λ ns. x.name ∷ ns) rest

-- an object changed, with its shape as it was
shapes_set : (os : List Object) (n : ℕ) (o p : Object) → slice_get os n ≡ Some o → shape p ≡ shape o
    → map shape (slice_set os n p) ≡ map shape os
shapes_set [] n o p at same = refl
shapes_set (x ∷ os) zero o p at same = ap (λ y. y ∷ map shape os) (same ∙ ap shape (is x o at))
  where
    is : (y z : Object) → Some y ≡ Some z → z ≡ y
    is y z e = cc
shapes_set (x ∷ os) (suc n) o p at same = ap (λ ys. shape x ∷ ys) (shapes_set os n o p at same)

goes_with_object : (s : Standing) (n : ℕ) (o p : Object) (values : List Value) → slice_get s.world.objects n ≡ Some o
    → shape p ≡ shape o → Kept s (goes_on s (record s.world { objects = slice_set s.world.objects n p }) values)
goes_with_object s n o p values at same =
    record { same_table = refl; same_text = refl; globals = refl; objects = inl (shapes_set s.world.objects n o p at same) }

on_live_keeps : (s : Standing) (f : Object → Option World) (o : Option Object)
    → ((x : Object) → o ≡ Some x → Kept s (f x)) → Kept s (on_live s f o)
on_live_keeps s f None keeps = trapped s Stale
on_live_keeps s f (Some o) keeps = either_way _ o.live (f o) (traps s Stale) (keeps o refl) (trapped s Stale)

on_object_keeps : (s : Standing) (r : Option ℕ) (f : ℕ → Object → Option World)
    → ((n : ℕ) (x : Object) → slice_get s.world.objects n ≡ Some x → Kept s (f n x)) → Kept s (on_object s r f)
on_object_keeps s None f keeps = trapped s Null
on_object_keeps s (Some n) f keeps = on_live_keeps s (f n) (slice_get s.world.objects n) (keeps n)

read_field_keeps : (s : Standing) (field : Bytes) (values : List Value) → Kept s (read_field s field values)
read_field_keeps s field (Reference r ∷ values) = on_object_keeps s r _ (λ n o at. goes_same s _)
read_field_keeps s field [] = tt
read_field_keeps s field (Number i ∷ values) = tt
read_field_keeps s field (Started r ∷ values) = tt

write_field_keeps : (s : Standing) (field : Bytes) (values : List Value) → Kept s (write_field s field values)
write_field_keeps s field (v ∷ Reference r ∷ values) =
    on_object_keeps s r _ (λ n o at.
    goes_with_object s n o (record o { fields = with_value field v o.fields }) (v ∷ values) at
    (ap (λ ns. (o.tag, ns)) (names_written field v o.fields)))
write_field_keeps s field [] = tt
write_field_keeps s field (v ∷ []) = tt
write_field_keeps s field (v ∷ Number i ∷ values) = tt
write_field_keeps s field (v ∷ Started r ∷ values) = tt

allocate_keeps : (s : Standing) (tag : Bytes) (values : List Value) → Kept s (allocate s tag values)
allocate_keeps s tag values =
    let w = s.world in
    either_way _ (live_objects w == w.capacity) (goes_on s w (Reference None ∷ values))
    (goes_on s (record w { objects = w.objects ++ new_object w tag ∷ [] }) (Reference (Some (length w.objects)) ∷ values))
    (goes_same s _) (record { same_table = refl; same_text = refl; globals = refl; objects = inr (tag, refl) })

release_keeps : (s : Standing) (values : List Value) → Kept s (release s values)
release_keeps s (Reference None ∷ values) = goes_same s _
release_keeps s (Reference (Some n) ∷ values) =
    on_live_keeps s _ (slice_get s.world.objects n)
    (λ o at. goes_with_object s n o (record o { live = false }) (int_of 0 ∷ values) at refl)
release_keeps s [] = tt
release_keeps s (Number i ∷ values) = tt
release_keeps s (Started r ∷ values) = tt

-- ---- what touches no object

-- a write leaves the names of the globals
globals_written : (name : Bytes) (cells : List Value) (gs : List world.Cells)
    → map (λ (g : world.Cells). g.name) (with_cells_in name cells gs) ≡ map (λ (g : world.Cells). g.name) gs
globals_written name cells [] = refl
globals_written name cells (g ∷ gs) = by (bytes_eq name g.name) (globals_written name cells gs)
  where
    by : (b : Bool) → map (λ (x : world.Cells). x.name) (with_cells_in name cells gs) ≡ map (λ (x : world.Cells). x.name) gs
        → map (λ (x : world.Cells). x.name) (if b then record g { cells = cells } ∷ gs else g ∷ with_cells_in name cells gs)
        ≡ g.name ∷ map (λ (x : world.Cells). x.name) gs
    by true rest = refl
    by false rest = ap (λ ns. g.name ∷ ns) rest

goes_with_cells : (s : Standing) (name : Bytes) (cells values : List Value)
    → Kept s (goes_on s (with_cells name cells s.world) values)
goes_with_cells s name cells values = record {
  same_table = refl;
  same_text = refl;
  globals = globals_written name cells s.world.globals;
  objects = inl refl;
}

write_global_keeps : (s : Standing) (name : Bytes) (values : List Value) → Kept s (write_global s name values)
write_global_keeps s name [] = tt
write_global_keeps s name (v ∷ values) = goes_with_cells s name (v ∷ []) (v ∷ values)

read_element_keeps : (s : Standing) (name : Bytes) (values : List Value) → Kept s (read_element s name values)
read_element_keeps s name (Number i ∷ values) =
    let cells = cells_of s.world name in
    either_way _ (in_bounds (value_of i) cells)
    (goes_on s s.world (unwrap_or (slice_get cells (unsigned_abs (value_of i))) (int_of 0) ∷ values)) (traps s Index)
    (goes_same s _) (trapped s Index)
read_element_keeps s name [] = tt
read_element_keeps s name (Reference r ∷ values) = tt
read_element_keeps s name (Started r ∷ values) = tt

write_element_keeps : (s : Standing) (name : Bytes) (values : List Value) → Kept s (write_element s name values)
write_element_keeps s name (v ∷ Number i ∷ values) =
    let cells = cells_of s.world name in
    either_way _ (in_bounds (value_of i) cells)
    (goes_on s (with_cells name (slice_set cells (unsigned_abs (value_of i)) v) s.world) (v ∷ values)) (traps s Index)
    (goes_with_cells s name (slice_set cells (unsigned_abs (value_of i)) v) (v ∷ values)) (trapped s Index)
write_element_keeps s name [] = tt
write_element_keeps s name (v ∷ []) = tt
write_element_keeps s name (v ∷ Reference r ∷ values) = tt
write_element_keeps s name (v ∷ Started r ∷ values) = tt

initialise_keeps : (s : Standing) (values : List Value) (holder : Option ℕ) → Kept s (initialise s values holder)
initialise_keeps s values None = goes_same s _
initialise_keeps s values (Some slot) = trapped s MutexHeld

lock_keeps : (s : Standing) (name : Bytes) (values : List Value) (holder : Option ℕ) → Kept s (lock s name values holder)
lock_keeps s name values None = goes s _ _ refl refl refl refl
lock_keeps s name values (Some slot) = trapped s Relock

unlock_keeps : (s : Standing) (name : Bytes) (values : List Value) (holder : Option ℕ) → Kept s (unlock s name values holder)
unlock_keeps s name values None = trapped s NotHeld
unlock_keeps s name values (Some slot) =
    either_way _ (slot == s.slot) (goes_on s (released name s.world) (int_of 0 ∷ values)) (traps s NotHeld)
    (goes s _ _ refl refl refl refl) (trapped s NotHeld)

start_keeps : (s : Standing) (enter : Enter) (values : List Value) (place : Option ℕ) → Kept s (start_in s enter values place)
start_keeps s enter values None = goes_same s _
start_keeps s enter values (Some t) = goes s _ _ refl refl refl refl

spawn_keeps : (s : Standing) (name : Bytes) (values : List Value) → Kept s (spawn s name values)
spawn_keeps s name [] = tt
spawn_keeps s name (v ∷ values) = start_keeps s _ values (position is_free s.world.slots)

join_slot_keeps : (s : Standing) (ref : ThreadRef) (values : List Value) (x : Slot) → Kept s (join_slot s ref values x)
join_slot_keeps s ref values world.Free = trapped s NotJoined
join_slot_keeps s ref values (Live th) = trapped s NotJoined
join_slot_keeps s ref values (Over serial result) =
    either_way _ (serial == ref.serial) (goes_on s (with_slot ref.slot world.Free s.world) (result ∷ values)) (traps s NotJoined)
    (goes s _ _ refl refl refl refl) (trapped s NotJoined)

join_keeps : (s : Standing) (values : List Value) → Kept s (join s values)
join_keeps s (Started None ∷ values) = trapped s NotJoined
join_keeps s (Started (Some ref) ∷ values) = join_slot_keeps s ref values (in_slot s.world ref.slot)
join_keeps s [] = tt
join_keeps s (Number i ∷ values) = tt
join_keeps s (Reference r ∷ values) = tt

finish_keeps : (s : Standing) (v : Value) (n : ℕ) → Kept s (finish_thread s v n)
finish_keeps s v zero = untouched s.world _ refl refl refl refl
finish_keeps s v (suc n) = untouched s.world _ refl refl refl refl

return_to_keeps : (s : Standing) (v : Value) (below : List Frame) → Kept s (return_to s v below)
return_to_keeps s v [] = finish_keeps s v s.slot
return_to_keeps s v (f ∷ fs) = untouched s.world _ refl refl refl refl

return_keeps : (s : Standing) (values : List Value) → Kept s (return s values)
return_keeps s [] = tt
return_keeps s (v ∷ values) = return_to_keeps s v s.below

begin_keeps : (s : Standing) (depth : ℕ) (th : Thread) → Kept s (begin_at s depth th)
begin_keeps s zero th = untouched s.world _ refl refl refl refl
begin_keeps s (suc depth) th = untouched s.world _ refl refl refl refl

end_keeps : (s : Standing) (depth : ℕ) (th : Thread) → Kept s (end_at s depth th)
end_keeps s zero th = tt
end_keeps s (suc zero) th = untouched s.world _ refl refl refl refl
end_keeps s (suc (suc depth)) th = untouched s.world _ refl refl refl refl

print_keeps : (s : Standing) (format : Bytes) (n : ℕ) (values : List Value) → Kept s (print s format n values)
print_keeps s format n values = goes s _ _ refl refl refl refl

call_keeps : (s : Standing) (name : Bytes) (n : ℕ) (values : List Value) → Kept s (call s name n values)
call_keeps s name n values = untouched s.world _ refl refl refl refl

-- ---- a move

perform_keeps : (x : Stop) (s : Standing) (values : List Value) → Kept s (perform x s values)
perform_keeps (ReadGlobal name) s values = goes_same s _
perform_keeps (WriteGlobal name) s values = write_global_keeps s name values
perform_keeps (ReadElement name) s values = read_element_keeps s name values
perform_keeps (WriteElement name) s values = write_element_keeps s name values
perform_keeps (ReadField tag field) s values = read_field_keeps s field values
perform_keeps (WriteField tag field) s values = write_field_keeps s field values
perform_keeps (New tag) s values = allocate_keeps s tag values
perform_keeps (Free tag) s values = release_keeps s values
perform_keeps (Print format n) s values = print_keeps s format n values
perform_keeps (InitMutex name) s values = initialise_keeps s values _
perform_keeps (Lock name) s values = lock_keeps s name values _
perform_keeps (Unlock name) s values = unlock_keeps s name values _
perform_keeps (Spawn name) s values = spawn_keeps s name values
perform_keeps Join s values = join_keeps s values
perform_keeps (Call name n) s values = call_keeps s name n values
perform_keeps Return s values = return_keeps s values
perform_keeps Back s values = goes_same s _
perform_keeps Begin s values = begin_keeps s s.thread.depth _
perform_keeps End s values = end_keeps s s.thread.depth _
perform_keeps Update s values = goes_same s _

-- a use before what follows it
using_keeps : (w : World) (th : Thread) (n : ℕ) (name : Bytes) (f : Thread → Option World)
    → ((user : Thread) → AllOf (Sustains w) (f user)) → AllOf (Sustains w) (using w th n name f)
using_keeps w th n name f keeps =
    either_way _ (is_right w.table n name) (f (recorded w.table name th)) (Some (marked w))
    (keeps (recorded w.table name th)) (untouched w _ refl refl refl refl)

with_use_keeps : (x : Stop) (w : World) (t : ℕ) (th : Thread) (f : Frame) (below : List Frame) (name : Option Bytes)
    → AllOf (Sustains w) (with_use x w t th f below name)
with_use_keeps x w t th f below None =
    perform_keeps x (record { world = w; slot = t; thread = th; frame = f; below = below }) f.values
with_use_keeps x w t th f below (Some name) =
    using_keeps w th f.version name
    (λ user. perform x (record { world = w; slot = t; thread = user; frame = f; below = below }) f.values)
    (λ user. perform_keeps x (record { world = w; slot = t; thread = user; frame = f; below = below }) f.values)

after_keeps : (w : World) (t : ℕ) (th : Thread) (f : Frame) (below : List Frame) (h : Halt)
    → AllOf (Sustains w) (behind w t th f below h)
after_keeps w t th f below (Stopped x n rest values scopes) =
    let g : Frame = record f { standing = n; pieces = rest; values = values; scopes = scopes } in
    with_use_keeps x w t th g below (use_at x)
after_keeps w t th f below (Trapped kind) = untouched w _ refl refl refl refl
after_keeps w t th f below Nothing = tt

enter_with_keeps : (w : World) (t : ℕ) (e : Enter) (th : Thread) → AllOf (Sustains w) (enter_with w t e th)
enter_with_keeps w t e th =
    either_way _ (length th.frames == frame_count)
    (Some (record (with_thread t th w) { finish = Some (world.Trapped Depth t) }))
    (Some (with_thread t (record th { frames = frame_of w e ∷ th.frames; entering = None }) w))
    (untouched w _ refl refl refl refl) (untouched w _ refl refl refl refl)

frames_keep : (w : World) (t : ℕ) (th : Thread) (fs : List Frame) → AllOf (Sustains w) (in_frames w t th fs)
frames_keep w t th [] = tt
frames_keep w t th (f ∷ below) = after_keeps w t th f below _

thread_keeps : (w : World) (t : ℕ) (th : Thread) (e : Option Enter) → AllOf (Sustains w) (thread_move w t th e)
thread_keeps w t th None = frames_keep w t th th.frames
thread_keeps w t th (Some e) = using_keeps w th e.version e.function _ (enter_with_keeps w t e)

slot_keeps : (w : World) (t : ℕ) (x : Slot) → AllOf (Sustains w) (move_of w t x)
slot_keeps w t (Live th) = thread_keeps w t th th.entering
slot_keeps w t world.Free = tt
slot_keeps w t (Over serial result) = tt

all_keep : (w : World) (t : ℕ) → AllOf (Sustains w) (move w t)
all_keep w t = either_way _ (is_over w || must_wait w t) None (move_of w t (in_slot w t)) tt (slot_keeps w t (in_slot w t))

pub moves_sustain : (w after : World) (t : ℕ) → move w t ≡ Some after → Sustains w after
moves_sustain w after t e = subst (AllOf (Sustains w)) e (all_keep w t)
