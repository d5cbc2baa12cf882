-- What a stop makes of a world, as far as frames, enters, records and slots go.
use Rattle.std.proofs.Common.{◌≡◌, ℕ, zero, suc, Bool, true, false, ◌⊎◌, inl, inr, List, [], ◌∷◌, ◌++◌, length, position, slice_get, slice_set, unwrap_or, unsigned_abs, Option, Some, None, is_some, length-set, refl, ap, subst, ◌∙◌, if◌then◌else◌}
use Rattle.std.specs.Prelude.{◌==◌}
use Rattle.std.proofs.lemmas.List.Quantifiers.{position-Some}
use Rattle.run_types.specs.declared.trap.TrapKind.{TrapKind}
use Rattle.run_types.specs.declared.trap.TrapKind.TheVariants.{Null, Stale, Index, Relock, Unlock as NotHeld, MutexHeld, Join as NotJoined}
use Rattle.c_ints.specs.Number.{value_of}
use Rattle.c_tree.specs.BareExpr.{Bytes}
use Rattle.c_semantics.specs.Values.{ThreadRef, Value, Number, Reference, Started, int_of}
use Rattle.c_semantics.specs.Stops.{Stop, ReadGlobal, WriteGlobal, ReadElement, WriteElement, ReadField, WriteField, New, Free, Print, InitMutex, Lock, Unlock, Spawn, Join, Call, Return, Back, Begin, End, Update}
use Rattle.c_semantics.specs.Threads.{Frame, Enter, Thread, started}
use Rattle.source_model.specs.Worlds.{World, Object, Slot, Live, Over, Closed, in_slot, with_slot, cells_of, with_cells, live_objects, released}
use Rattle.source_model.specs.Worlds as world
use Rattle.source_model.specs.Runs.{is_live}
use Rattle.source_model.specs.Moves.{Standing, on_live, on_object, read_element, write_element, read_field, write_field, allocate, release, initialise, lock, unlock, start_in, spawn, join_slot, join, finish_thread, return_to, return, begin_at, end_at, write_global, call, perform, goes_on, gone_on, traps, is_free, in_bounds, new_object, arguments_of}

-- what no stop changes
pub record Same (w after : World) : Type 0 where
  pub table : after.table ≡ w.table
  pub text : after.text ≡ w.text
  pub misused : after.misused ≡ w.misused
  pub count : length after.slots ≡ length w.slots

-- another slot than the thread's own: it is as it was, or one without a live thread is free or has a started one
pub data Beside (s : Standing) (x : Stop) : List Slot → Type 0 where
  untouched : Beside s x s.world.slots
  freed : (u : ℕ) → is_live (in_slot s.world u) ≡ false → Beside s x (slice_set s.world.slots u world.Free)
  started_at : (u n : ℕ) (e : Enter) → is_live (in_slot s.world u) ≡ false → x ≡ Spawn e.function → e.version ≡ s.frame.version
      → Beside s x (slice_set s.world.slots u (Live (started n e)))

-- stops after which a thread goes on in its frame
abbrev pub goes_along : Stop → Bool
goes_along (Call name n) = false
goes_along Return = false
goes_along _ = true

-- stops that neither begin nor end a transaction
abbrev pub keeps_depth : Stop → Bool
keeps_depth Begin = false
keeps_depth End = false
keeps_depth _ = true

-- what becomes of a thread's depth and record
pub data Records (s : Standing) (th : Thread) (closed : List Closed) : Stop → Type 0 where
  stay : (x : Stop) → keeps_depth x ≡ true → th.depth ≡ s.thread.depth → th.uses ≡ s.thread.uses → closed ≡ s.world.closed → Records s th closed x
  begins : s.thread.depth ≡ 0 → th.depth ≡ 1 → th.uses ≡ [] → closed ≡ s.world.closed → Records s th closed Begin
  deeper : (d : ℕ) → s.thread.depth ≡ suc d → th.depth ≡ suc (suc d) → th.uses ≡ s.thread.uses → closed ≡ s.world.closed
      → Records s th closed Begin
  close : s.thread.depth ≡ 1 → th.depth ≡ 0 → th.uses ≡ [] → closed ≡ s.world.closed ++ record { slot = s.slot; uses = s.thread.uses } ∷ []
      → Records s th closed End
  shallower : (d : ℕ) → s.thread.depth ≡ suc (suc d) → th.depth ≡ suc d → th.uses ≡ s.thread.uses → closed ≡ s.world.closed
      → Records s th closed End

-- what a stop made
pub data Made (s : Standing) (x : Stop) (after : World) : Type 0 where
  -- the run ended: by a trap, or with main's return
  ends : Same s.world after → is_some after.finish ≡ true → after.closed ≡ s.world.closed
      → ((after.slots ≡ s.world.slots) ⊎ (after.slots ≡ slice_set s.world.slots s.slot (Live (gone_on s s.frame.values)))) → Made s x after
  -- the thread goes on in its frame
  goes : Same s.world after → after.finish ≡ s.world.finish → goes_along x ≡ true → (th : Thread) (values : List Value)
      → th.frames ≡ record s.frame { values = values } ∷ s.below → th.entering ≡ s.thread.entering → Records s th after.closed x
      → (slots : List Slot) → Beside s x slots → after.slots ≡ slice_set slots s.slot (Live th) → Made s x after
  -- a call: its enter is due
  calls : Same s.world after → after.finish ≡ s.world.finish → after.closed ≡ s.world.closed → (n : ℕ) (e : Enter) (values : List Value)
      → x ≡ Call e.function n → e.version ≡ s.frame.version
      → after.slots ≡ slice_set s.world.slots s.slot (Live (record (gone_on s values) { entering = Some e })) → Made s x after
  -- a return to the frame below, and from the first one
  returns : Same s.world after → after.finish ≡ s.world.finish → after.closed ≡ s.world.closed → x ≡ Return → (f : Frame) (fs : List Frame)
      (values : List Value) → s.below ≡ f ∷ fs
      → after.slots ≡ slice_set s.world.slots s.slot (Live (record s.thread { frames = record f { values = values } ∷ fs })) → Made s x after
  leaves : Same s.world after → after.finish ≡ s.world.finish → after.closed ≡ s.world.closed → x ≡ Return → (n : ℕ) (v : Value)
      → s.below ≡ [] → after.slots ≡ slice_set s.world.slots s.slot (Over n v) → Made s x after

-- a world that is there satisfies P
abbrev pub AllOf : (World → Type 0) → Option World → Type 0
AllOf P None = Unit {0}
AllOf P (Some w) = P w

pub of_outcome : (P : World → Type 0) (o : Option World) (after : World) → o ≡ Some after → AllOf P o → P after
of_outcome P o after e p = subst (AllOf P) e p

pub either_way : (P : World → Type 0) (b : Bool) (x y : Option World) → AllOf P x → AllOf P y → AllOf P (if b then x else y)
either_way P true x y p q = p
either_way P false x y p q = q

same : (w after : World) → after.table ≡ w.table → after.text ≡ w.text → after.misused ≡ w.misused → length after.slots ≡ length w.slots
    → Same w after
same w after d t m n = record { table = d; text = t; misused = m; count = n }

-- the thread goes on with these values, in a world that is another in its globals, objects, holders or output
goes_with : (s : Standing) (x : Stop) (w : World) (values : List Value) → goes_along x ≡ true → keeps_depth x ≡ true
    → w.table ≡ s.world.table → w.text ≡ s.world.text → w.misused ≡ s.world.misused → w.finish ≡ s.world.finish → w.closed ≡ s.world.closed
    → w.slots ≡ s.world.slots → AllOf (Made s x) (goes_on s w values)
goes_with s x w values along depth d t m f c e =
    goes (same s.world _ d t m (length-set w.slots s.slot _ ∙ ap length e)) f along (gone_on s values) values refl refl (stay x depth refl refl c)
    s.world.slots untouched (ap (λ slots. slice_set slots s.slot (Live (gone_on s values))) e)

goes_same : (s : Standing) (x : Stop) (values : List Value) → goes_along x ≡ true → keeps_depth x ≡ true → AllOf (Made s x) (goes_on s s.world values)
goes_same s x values along depth = goes_with s x s.world values along depth refl refl refl refl refl refl

trapped : (s : Standing) (x : Stop) (kind : TrapKind) → AllOf (Made s x) (traps s kind)
trapped s x kind = ends (same s.world _ refl refl refl (length-set s.world.slots s.slot _)) refl refl (inr refl)

write_global_made : (s : Standing) (name : Bytes) (values : List Value) → AllOf (Made s (WriteGlobal name)) (write_global s name values)
write_global_made s name [] = tt
write_global_made s name (v ∷ values) = goes_with s _ _ _ refl refl refl refl refl refl refl refl

read_element_made : (s : Standing) (name : Bytes) (values : List Value) → AllOf (Made s (ReadElement name)) (read_element s name values)
read_element_made s name (Number i ∷ values) =
    let cells = cells_of s.world name in
    either_way _ (in_bounds (value_of i) cells)
    (goes_on s s.world (unwrap_or (slice_get cells (unsigned_abs (value_of i))) (int_of 0) ∷ values)) (traps s Index)
    (goes_same s _ _ refl refl) (trapped s _ Index)
read_element_made s name [] = tt
read_element_made s name (Reference r ∷ values) = tt
read_element_made s name (Started r ∷ values) = tt

write_element_made : (s : Standing) (name : Bytes) (values : List Value) → AllOf (Made s (WriteElement name)) (write_element s name values)
write_element_made s name (v ∷ Number i ∷ values) =
    let cells = cells_of s.world name in
    either_way _ (in_bounds (value_of i) cells)
    (goes_on s (with_cells name (slice_set cells (unsigned_abs (value_of i)) v) s.world) (v ∷ values)) (traps s Index)
    (goes_with s _ _ _ refl refl refl refl refl refl refl refl) (trapped s _ Index)
write_element_made s name [] = tt
write_element_made s name (v ∷ []) = tt
write_element_made s name (v ∷ Reference r ∷ values) = tt
write_element_made s name (v ∷ Started r ∷ values) = tt

on_live_made : (s : Standing) (x : Stop) (f : Object → Option World) (o : Option Object)
    → ((y : Object) → AllOf (Made s x) (f y)) → AllOf (Made s x) (on_live s f o)
on_live_made s x f None made = trapped s x Stale
on_live_made s x f (Some o) made = either_way _ o.live (f o) (traps s Stale) (made o) (trapped s x Stale)

on_object_made : (s : Standing) (x : Stop) (r : Option ℕ) (f : ℕ → Object → Option World)
    → ((n : ℕ) (y : Object) → AllOf (Made s x) (f n y)) → AllOf (Made s x) (on_object s r f)
on_object_made s x None f made = trapped s x Null
on_object_made s x (Some n) f made = on_live_made s x (f n) (slice_get s.world.objects n) (made n)

read_field_made : (s : Standing) (tag field : Bytes) (values : List Value) → AllOf (Made s (ReadField tag field)) (read_field s field values)
read_field_made s tag field (Reference r ∷ values) = on_object_made s _ r _ (λ n o. goes_same s _ _ refl refl)
read_field_made s tag field [] = tt
read_field_made s tag field (Number i ∷ values) = tt
read_field_made s tag field (Started r ∷ values) = tt

write_field_made : (s : Standing) (tag field : Bytes) (values : List Value) → AllOf (Made s (WriteField tag field)) (write_field s field values)
write_field_made s tag field (v ∷ Reference r ∷ values) =
    on_object_made s _ r _ (λ n o. goes_with s _ _ _ refl refl refl refl refl refl refl refl)
write_field_made s tag field [] = tt
write_field_made s tag field (v ∷ []) = tt
write_field_made s tag field (v ∷ Number i ∷ values) = tt
write_field_made s tag field (v ∷ Started r ∷ values) = tt

allocate_made : (s : Standing) (tag : Bytes) (values : List Value) → AllOf (Made s (New tag)) (allocate s tag values)
allocate_made s tag values =
    let w = s.world in
    either_way _ (live_objects w == w.capacity) (goes_on s w (Reference None ∷ values))
    (goes_on s (record w { objects = w.objects ++ new_object w tag ∷ [] }) (Reference (Some (length w.objects)) ∷ values))
    (goes_same s _ _ refl refl) (goes_with s _ _ _ refl refl refl refl refl refl refl refl)

release_made : (s : Standing) (tag : Bytes) (values : List Value) → AllOf (Made s (Free tag)) (release s values)
release_made s tag (Reference None ∷ values) = goes_same s _ _ refl refl
release_made s tag (Reference (Some n) ∷ values) =
    on_live_made s _ _ (slice_get s.world.objects n) (λ o. goes_with s _ _ _ refl refl refl refl refl refl refl refl)
release_made s tag [] = tt
release_made s tag (Number i ∷ values) = tt
release_made s tag (Started r ∷ values) = tt

initialise_made : (s : Standing) (name : Bytes) (values : List Value) (holder : Option ℕ)
    → AllOf (Made s (InitMutex name)) (initialise s values holder)
initialise_made s name values None = goes_same s _ _ refl refl
initialise_made s name values (Some slot) = trapped s _ MutexHeld

lock_made : (s : Standing) (name : Bytes) (values : List Value) (holder : Option ℕ) → AllOf (Made s (Lock name)) (lock s name values holder)
lock_made s name values None = goes_with s _ _ _ refl refl refl refl refl refl refl refl
lock_made s name values (Some slot) = trapped s _ Relock

unlock_made : (s : Standing) (name : Bytes) (values : List Value) (holder : Option ℕ) → AllOf (Made s (Unlock name)) (unlock s name values holder)
unlock_made s name values None = trapped s _ NotHeld
unlock_made s name values (Some slot) =
    either_way _ (slot == s.slot) (goes_on s (released name s.world) (int_of 0 ∷ values)) (traps s NotHeld)
    (goes_with s _ _ _ refl refl refl refl refl refl refl refl) (trapped s _ NotHeld)

-- a slot that is free has no live thread
free_is_empty : (x : Slot) → is_free x ≡ true → is_live x ≡ false
free_is_empty world.Free h = refl
free_is_empty (Live th) h = cc
free_is_empty (Over n v) h = refl

over_is_empty : (x : Slot) (n : ℕ) (v : Value) → x ≡ Over n v → is_live x ≡ false
over_is_empty x n v e = ap is_live e

start_made : (s : Standing) (e : Enter) (values : List Value) (place : Option ℕ) → e.version ≡ s.frame.version
    → position is_free s.world.slots ≡ place → AllOf (Made s (Spawn e.function)) (start_in s e values place)
start_made s e values None version at = goes_same s _ _ refl refl
start_made s e values (Some t) version at =
    goes (same s.world _ refl refl refl (length-set (slice_set s.world.slots t _) s.slot _ ∙ length-set s.world.slots t _)) refl refl
    (gone_on s (Started (Some (record { slot = t; serial = s.world.threads })) ∷ values)) _ refl refl (stay _ refl refl refl refl) _
    (started_at t s.world.threads e (free_is_empty _ (position-Some is_free s.world.slots t world.Free at).1) refl version) refl

spawn_made : (s : Standing) (name : Bytes) (values : List Value) → AllOf (Made s (Spawn name)) (spawn s name values)
spawn_made s name [] = tt
spawn_made s name (v ∷ values) =
    start_made s (record { function = name; arguments = v ∷ []; version = s.frame.version }) values (position is_free s.world.slots) refl refl

join_slot_made : (s : Standing) (ref : ThreadRef) (values : List Value) (x : Slot) → in_slot s.world ref.slot ≡ x
    → AllOf (Made s Join) (join_slot s ref values x)
join_slot_made s ref values world.Free e = trapped s _ NotJoined
join_slot_made s ref values (Live th) e = trapped s _ NotJoined
join_slot_made s ref values (Over serial result) e =
    either_way _ (serial == ref.serial) (goes_on s (with_slot ref.slot world.Free s.world) (result ∷ values)) (traps s NotJoined)
    (goes (same s.world _ refl refl refl (length-set (slice_set s.world.slots ref.slot _) s.slot _ ∙ length-set s.world.slots ref.slot _)) refl refl
    (gone_on s (result ∷ values)) _ refl refl (stay _ refl refl refl refl) _ (freed ref.slot (over_is_empty _ serial result e)) refl)
    (trapped s _ NotJoined)

join_made : (s : Standing) (values : List Value) → AllOf (Made s Join) (join s values)
join_made s (Started None ∷ values) = trapped s _ NotJoined
join_made s (Started (Some ref) ∷ values) = join_slot_made s ref values (in_slot s.world ref.slot) refl
join_made s [] = tt
join_made s (Number i ∷ values) = tt
join_made s (Reference r ∷ values) = tt

finish_made : (s : Standing) (v : Value) (n : ℕ) → s.below ≡ [] → AllOf (Made s Return) (finish_thread s v n)
finish_made s v zero none = ends (same s.world _ refl refl refl refl) refl refl (inl refl)
finish_made s v (suc n) none =
    leaves (same s.world _ refl refl refl (length-set s.world.slots s.slot _)) refl refl refl s.thread.serial v none refl

return_to_made : (s : Standing) (v : Value) (below : List Frame) → s.below ≡ below → AllOf (Made s Return) (return_to s v below)
return_to_made s v [] e = finish_made s v s.slot e
return_to_made s v (f ∷ fs) e =
    returns (same s.world _ refl refl refl (length-set s.world.slots s.slot _)) refl refl refl f fs (v ∷ f.values) e refl

return_made : (s : Standing) (values : List Value) → AllOf (Made s Return) (return s values)
return_made s [] = tt
return_made s (v ∷ values) = return_to_made s v s.below refl

begin_made : (s : Standing) (values : List Value) (depth : ℕ) → s.thread.depth ≡ depth
    → AllOf (Made s Begin) (begin_at s depth (gone_on s values))
begin_made s values zero e =
    goes (same s.world _ refl refl refl (length-set s.world.slots s.slot _)) refl refl (record (gone_on s values) { depth = 1; uses = [] }) values
    refl refl (begins e refl refl refl) _ untouched refl
begin_made s values (suc d) e =
    goes (same s.world _ refl refl refl (length-set s.world.slots s.slot _)) refl refl (record (gone_on s values) { depth = suc (suc d) }) values
    refl refl (deeper d e refl refl refl) _ untouched refl

end_made : (s : Standing) (values : List Value) (depth : ℕ) → s.thread.depth ≡ depth → AllOf (Made s End) (end_at s depth (gone_on s values))
end_made s values zero e = tt
end_made s values (suc zero) e =
    goes (same s.world _ refl refl refl (length-set s.world.slots s.slot _)) refl refl (record (gone_on s values) { depth = 0; uses = [] }) values
    refl refl (close e refl refl refl) _ untouched refl
end_made s values (suc (suc d)) e =
    goes (same s.world _ refl refl refl (length-set s.world.slots s.slot _)) refl refl (record (gone_on s values) { depth = suc d }) values
    refl refl (shallower d e refl refl refl) _ untouched refl

call_made : (s : Standing) (name : Bytes) (n : ℕ) (values : List Value) → AllOf (Made s (Call name n)) (call s name n values)
call_made s name n values =
    calls (same s.world _ refl refl refl (length-set s.world.slots s.slot _)) refl refl n
    (record { function = name; arguments = arguments_of n values; version = s.frame.version }) _ refl refl refl

pub perform_made : (x : Stop) (s : Standing) (values : List Value) → AllOf (Made s x) (perform x s values)
perform_made (ReadGlobal name) s values = goes_same s _ _ refl refl
perform_made (WriteGlobal name) s values = write_global_made s name values
perform_made (ReadElement name) s values = read_element_made s name values
perform_made (WriteElement name) s values = write_element_made s name values
perform_made (ReadField tag field) s values = read_field_made s tag field values
perform_made (WriteField tag field) s values = write_field_made s tag field values
perform_made (New tag) s values = allocate_made s tag values
perform_made (Free tag) s values = release_made s tag values
perform_made (Print format n) s values = goes_with s _ _ _ refl refl refl refl refl refl refl refl
perform_made (InitMutex name) s values = initialise_made s name values _
perform_made (Lock name) s values = lock_made s name values _
perform_made (Unlock name) s values = unlock_made s name values _
perform_made (Spawn name) s values = spawn_made s name values
perform_made Join s values = join_made s values
perform_made (Call name n) s values = call_made s name n values
perform_made Return s values = return_made s values
perform_made Back s values = goes_same s _ _ refl refl
perform_made Begin s values = begin_made s values s.thread.depth refl
perform_made End s values = end_made s values s.thread.depth refl
perform_made Update s values = goes_same s _ _ refl refl
