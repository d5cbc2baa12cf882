-- What each stop and each enter does to the records of transactions.
use Rattle.std.proofs.Common.{◌≡◌, ℕ, zero, suc, ◌<◌, Bool, true, false, List, [], ◌∷◌, ◌++◌, Option, Some, None, refl, sym, ◌∙◌, ap, subst, arith}
use Rattle.std.proofs.lemmas.Bool.Decides.{nat_tests}
use Rattle.std.proofs.lemmas.List.{get_or-set_other, get_or-set_same, length-set, append-nil}
use Rattle.std.proofs.lemmas.List.Quantifiers.{position-Some}
use Rattle.std.specs.Prelude.{◌||◌, ◌&&◌, not, ◌≢◌, ◌==◌, nat_lt, length, position, slice_get, slice_index_or, slice_set, unwrap_or, unsigned_abs, option_map, if◌then◌else◌}
use Rattle.std.specs.Option.{is_some, option_or}
use Rattle.run_types.specs.declared.trap.TrapKind.{TrapKind}
use Rattle.run_types.specs.declared.trap.TrapKind.TheVariants.{Null, Stale, Index, Depth, Relock, Unlock as NotHeld, MutexHeld, Join as NotJoined}
use Rattle.c_ints.specs.Number.{value_of}
use Rattle.c_tree.specs.BareExpr.{Bytes}
use Rattle.c_tree.specs.BareDef.{BareDef}
use Rattle.c_semantics.specs.Changes.{agree, same_interface}
use Rattle.c_semantics.specs.Values.{Value, Number, Reference, Started, ThreadRef, int_of}
use Rattle.c_semantics.specs.Stops.{Stop, ReadGlobal, WriteGlobal, ReadElement, WriteElement, ReadField, WriteField, New, Free, Print, InitMutex, Lock, Unlock, Spawn, Join, Call, Return, Back, Begin, End, Update}
use Rattle.c_semantics.specs.Pieces.{Halt, Stopped, Trapped, Nothing}
use Rattle.c_semantics.specs.Threads.{Frame, Enter, Thread, Record, next_of, started}
use Rattle.source_model.specs.Versions.{Table, in_version}
use Rattle.source_model.specs.Worlds.{World, Object, Slot, Live, Over, Closed, in_slot, now, with_slot, with_thread, is_over, cells_of, with_cells, live_objects, released}
use Rattle.source_model.specs.Worlds as world
use Rattle.source_model.specs.Uses.{use_at, use_of, recorded_at, is_right, recorded, marked}
use Rattle.source_model.specs.Waits.{must_wait}
use Rattle.source_model.specs.Moves.{Standing, on_live, on_object, read_element, write_element, read_field, write_field, allocate, release, initialise, lock, unlock, start_in, spawn, join_slot, join, finish_thread, return_to, return, begin_at, end_at, write_global, perform, with_use, behind, enter, enter_with, in_frames, thread_move, move_of, move, goes_on, gone_on, traps, is_free, in_bounds, new_object, frame_count, frame_of}
use Rattle.source_model.specs.Runs.{open_of, open_of_thread}
use Rattle.source_model.specs.Guards.{in_transaction}
use Rattle.source_model.proofs.Moved.{AllOf, of_outcome}
use Rattle.source_runner.specs.Queries.{use_of_halt, use_in, use_due}
use Rattle.recorded_runs.specs.MoveRecords.{uses_by, with_uses, open_by, is_outside, closed_by, RecordsMoved, RecordsStay, MovesKeepRecords}

-- the open record of a thread
abbrev opened : Thread → Option Record
opened th = open_of_thread th th.depth

-- what a stop does to the records, by the record that its thread has at it
record Follows (s : Standing) (after : World) : Type 0 where
  misused : after.misused ≡ s.world.misused
  others : (k : ℕ) → k ≢ s.slot → open_of (in_slot after k) ≡ open_of (in_slot s.world k)
  own : open_of (in_slot after s.slot) ≡ open_by (in_transaction (in_slot after s.slot)) (opened s.thread)
  closed : after.closed ≡ closed_by (is_outside (in_slot after s.slot)) s.slot (opened s.thread) s.world.closed

-- a thread lives in the slot
abbrev Home : Standing → Type 0
Home s = (before : Thread) × (in_slot s.world s.slot ≡ Live before)

-- a slot where a thread lives is there
pub within : (slots : List Slot) (t : ℕ) (th : Thread) → slice_index_or slots t world.Free ≡ Live th → t < length slots
within [] t th e = absurd (free_isnt_live e)
  where
    free_isnt_live : world.Free ≡ Live th → ⊥
    free_isnt_live e = cc
within (x ∷ slots) zero th e = omega arith
within (x ∷ slots) (suc t) th e = omega (arith, within slots t th e)

-- the records of slots of which one was set
from_slots : (s : Standing) (after : World) (mid : List Slot) (x : Slot) → Home s → length mid ≡ length s.world.slots
    → ((k : ℕ) → open_of (slice_index_or mid k world.Free) ≡ open_of (in_slot s.world k)) → after.slots ≡ slice_set mid s.slot x
    → after.misused ≡ s.world.misused → open_of x ≡ open_by (in_transaction x) (opened s.thread)
    → after.closed ≡ closed_by (is_outside x) s.slot (opened s.thread) s.world.closed → Follows s after
from_slots s after mid x home count same e m o c = record {
  misused = m;
  others = λ k other.
      ap (λ slots. open_of (slice_index_or slots k world.Free)) e
      ∙ ap open_of (get_or-set_other mid s.slot k x world.Free other)
      ∙ same k;
  own = subst (λ y. open_of y ≡ open_by (in_transaction y) (opened s.thread)) (sym at) o;
  closed = c ∙ ap (λ y. closed_by (is_outside y) s.slot (opened s.thread) s.world.closed) (sym at);
}
  where
    at : in_slot after s.slot ≡ x
    at =
        ap (λ slots. slice_index_or slots s.slot world.Free) e
        ∙ get_or-set_same mid s.slot x world.Free (subst (λ n. s.slot < n) (sym count) (within s.world.slots s.slot home.0 home.1))

-- only the thread's slot is another
one_slot : (s : Standing) (after : World) (x : Slot) → Home s → after.slots ≡ slice_set s.world.slots s.slot x
    → after.misused ≡ s.world.misused → open_of x ≡ open_by (in_transaction x) (opened s.thread)
    → after.closed ≡ closed_by (is_outside x) s.slot (opened s.thread) s.world.closed → Follows s after
one_slot s after x home e m o c = from_slots s after s.world.slots x home refl (λ k. refl) e m o c

-- ---- a thread whose depth and record stay

deep : (n : ℕ) → nat_lt 0 (suc n) ≡ true
deep n = grind (arith, nat_tests)

own_stays : (a x : Thread) (n : ℕ) → x.uses ≡ a.uses → open_of_thread x n ≡ open_by (nat_lt 0 n) (open_of_thread a n)
own_stays a x zero e = refl
own_stays a x (suc n) e = ap Some e ∙ ap (λ b. open_by b (Some a.uses)) (sym (deep n))

closed_stays : (a : Thread) (n t : ℕ) (closed : List Closed) → closed ≡ closed_by (true && not (nat_lt 0 n)) t (open_of_thread a n) closed
closed_stays a zero t closed = refl
closed_stays a (suc n) t closed = ap (λ b. closed_by (true && not b) t (Some a.uses) closed) (sym (deep n))

-- the thread in its slot again, in a world whose other slots have the same records
in_place : (s : Standing) (mid : World) (th : Thread) → Home s → length mid.slots ≡ length s.world.slots
    → ((k : ℕ) → open_of (in_slot mid k) ≡ open_of (in_slot s.world k)) → mid.misused ≡ s.world.misused → mid.closed ≡ s.world.closed
    → th.depth ≡ s.thread.depth → th.uses ≡ s.thread.uses → Follows s (with_slot s.slot (Live th) mid)
in_place s mid th home count same m c d u =
    from_slots s (with_slot s.slot (Live th) mid) mid.slots (Live th) home count same refl m
    (subst (λ n. open_of_thread th th.depth ≡ open_by (nat_lt 0 th.depth) (open_of_thread s.thread n)) d (own_stays s.thread th th.depth u))
    (c ∙ subst (λ n. s.world.closed ≡ closed_by (true && not (nat_lt 0 th.depth)) s.slot (open_of_thread s.thread n) s.world.closed) d
    (closed_stays s.thread th.depth s.slot s.world.closed))

-- the outcome of a stop
abbrev Followed : Standing → Option World → Type 0
Followed s = AllOf (Follows s)

either_way : (P : World → Type 0) (b : Bool) (x y : Option World) → AllOf P x → AllOf P y → AllOf P (if b then x else y)
either_way P true x y p q = p
either_way P false x y p q = q

goes : (s : Standing) (w : World) (values : List Value) → Home s → w.slots ≡ s.world.slots → w.misused ≡ s.world.misused
    → w.closed ≡ s.world.closed → Followed s (goes_on s w values)
goes s w values home e m c =
    in_place s w (gone_on s values) home (ap length e) (λ k. ap (λ slots. open_of (slice_index_or slots k world.Free)) e) m c refl refl

goes_same : (s : Standing) (values : List Value) → Home s → Followed s (goes_on s s.world values)
goes_same s values home = goes s s.world values home refl refl refl

trapped : (s : Standing) (kind : TrapKind) → Home s → Followed s (traps s kind)
trapped s kind home =
    one_slot s _ (Live (gone_on s s.frame.values)) home refl refl
    (own_stays s.thread (gone_on s s.frame.values) s.thread.depth refl) (closed_stays s.thread s.thread.depth s.slot s.world.closed)

-- ---- each stop

write_global_follows : (s : Standing) (name : Bytes) (values : List Value) → Home s → Followed s (write_global s name values)
write_global_follows s name [] home = tt
write_global_follows s name (v ∷ values) home = goes s _ _ home refl refl refl

read_element_follows : (s : Standing) (name : Bytes) (values : List Value) → Home s → Followed s (read_element s name values)
read_element_follows s name (Number i ∷ values) home =
    let cells = cells_of s.world name in
    either_way _ (in_bounds (value_of i) cells)
    (goes_on s s.world (unwrap_or (slice_get cells (unsigned_abs (value_of i))) (int_of 0) ∷ values)) (traps s Index)
    (goes_same s _ home) (trapped s Index home)
read_element_follows s name [] home = tt
read_element_follows s name (Reference r ∷ values) home = tt
read_element_follows s name (Started r ∷ values) home = tt

write_element_follows : (s : Standing) (name : Bytes) (values : List Value) → Home s → Followed s (write_element s name values)
write_element_follows s name (v ∷ Number i ∷ values) home =
    let cells = cells_of s.world name in
    either_way _ (in_bounds (value_of i) cells)
    (goes_on s (with_cells name (slice_set cells (unsigned_abs (value_of i)) v) s.world) (v ∷ values)) (traps s Index)
    (goes s _ _ home refl refl refl) (trapped s Index home)
write_element_follows s name [] home = tt
write_element_follows s name (v ∷ []) home = tt
write_element_follows s name (v ∷ Reference r ∷ values) home = tt
write_element_follows s name (v ∷ Started r ∷ values) home = tt

on_live_follows : (s : Standing) (f : Object → Option World) (o : Option Object) → Home s
    → ((x : Object) → Followed s (f x)) → Followed s (on_live s f o)
on_live_follows s f None home follows = trapped s Stale home
on_live_follows s f (Some o) home follows = either_way _ o.live (f o) (traps s Stale) (follows o) (trapped s Stale home)

on_object_follows : (s : Standing) (r : Option ℕ) (f : ℕ → Object → Option World) → Home s
    → ((n : ℕ) (x : Object) → Followed s (f n x)) → Followed s (on_object s r f)
on_object_follows s None f home follows = trapped s Null home
on_object_follows s (Some n) f home follows = on_live_follows s (f n) (slice_get s.world.objects n) home (follows n)

read_field_follows : (s : Standing) (field : Bytes) (values : List Value) → Home s → Followed s (read_field s field values)
read_field_follows s field (Reference r ∷ values) home = on_object_follows s r _ home (λ n o. goes_same s _ home)
read_field_follows s field [] home = tt
read_field_follows s field (Number i ∷ values) home = tt
read_field_follows s field (Started r ∷ values) home = tt

write_field_follows : (s : Standing) (field : Bytes) (values : List Value) → Home s → Followed s (write_field s field values)
write_field_follows s field (v ∷ Reference r ∷ values) home = on_object_follows s r _ home (λ n o. goes s _ _ home refl refl refl)
write_field_follows s field [] home = tt
write_field_follows s field (v ∷ []) home = tt
write_field_follows s field (v ∷ Number i ∷ values) home = tt
write_field_follows s field (v ∷ Started r ∷ values) home = tt

allocate_follows : (s : Standing) (tag : Bytes) (values : List Value) → Home s → Followed s (allocate s tag values)
allocate_follows s tag values home =
    let w = s.world in
    either_way _ (live_objects w == w.capacity) (goes_on s w (Reference None ∷ values))
    (goes_on s (record w { objects = w.objects ++ new_object w tag ∷ [] }) (Reference (Some (length w.objects)) ∷ values))
    (goes_same s _ home) (goes s _ _ home refl refl refl)

release_follows : (s : Standing) (values : List Value) → Home s → Followed s (release s values)
release_follows s (Reference None ∷ values) home = goes_same s _ home
release_follows s (Reference (Some n) ∷ values) home =
    on_live_follows s _ (slice_get s.world.objects n) home (λ o. goes s _ _ home refl refl refl)
release_follows s [] home = tt
release_follows s (Number i ∷ values) home = tt
release_follows s (Started r ∷ values) home = tt

initialise_follows : (s : Standing) (values : List Value) (holder : Option ℕ) → Home s → Followed s (initialise s values holder)
initialise_follows s values None home = goes_same s _ home
initialise_follows s values (Some slot) home = trapped s MutexHeld home

lock_follows : (s : Standing) (name : Bytes) (values : List Value) (holder : Option ℕ) → Home s → Followed s (lock s name values holder)
lock_follows s name values None home = goes s _ _ home refl refl refl
lock_follows s name values (Some slot) home = trapped s Relock home

unlock_follows : (s : Standing) (name : Bytes) (values : List Value) (holder : Option ℕ) → Home s → Followed s (unlock s name values holder)
unlock_follows s name values None home = trapped s NotHeld home
unlock_follows s name values (Some slot) home =
    either_way _ (slot == s.slot) (goes_on s (released name s.world) (int_of 0 ∷ values)) (traps s NotHeld)
    (goes s _ _ home refl refl refl) (trapped s NotHeld home)

-- another slot is set, where no record is open before or after
set_beside : (slots : List Slot) (u : ℕ) (b : Slot) → open_of (slice_index_or slots u world.Free) ≡ None → open_of b ≡ None
    → (k : ℕ) → open_of (slice_index_or (slice_set slots u b) k world.Free) ≡ open_of (slice_index_or slots k world.Free)
set_beside [] u b before after k = refl
set_beside (x ∷ slots) zero b before after zero = after ∙ sym before
set_beside (x ∷ slots) zero b before after (suc k) = refl
set_beside (x ∷ slots) (suc u) b before after zero = refl
set_beside (x ∷ slots) (suc u) b before after (suc k) = set_beside slots u b before after k

-- a slot that is free has no record
free_has_none : (x : Slot) → is_free x ≡ true → open_of x ≡ None
free_has_none world.Free e = refl
free_has_none (Live th) e = absurd (not_free e)
  where
    not_free : false ≡ true → ⊥
    not_free e = cc
free_has_none (Over serial result) e = refl

start_follows : (s : Standing) (e : Enter) (values : List Value) (place : Option ℕ) → Home s → position is_free s.world.slots ≡ place
    → Followed s (start_in s e values place)
start_follows s e values None home at = goes_same s _ home
start_follows s e values (Some t) home at =
    in_place s (with_thread t (started s.world.threads e) (record s.world { threads = suc s.world.threads })) _ home
    (length-set s.world.slots t _)
    (set_beside s.world.slots t _ (free_has_none _ (position-Some is_free s.world.slots t world.Free at).1) refl) refl refl refl refl

spawn_follows : (s : Standing) (name : Bytes) (values : List Value) → Home s → Followed s (spawn s name values)
spawn_follows s name [] home = tt
spawn_follows s name (v ∷ values) home = start_follows s _ values (position is_free s.world.slots) home refl

join_slot_follows : (s : Standing) (ref : ThreadRef) (values : List Value) (x : Slot) → Home s → in_slot s.world ref.slot ≡ x
    → Followed s (join_slot s ref values x)
join_slot_follows s ref values world.Free home e = trapped s NotJoined home
join_slot_follows s ref values (Live th) home e = trapped s NotJoined home
join_slot_follows s ref values (Over serial result) home e =
    either_way _ (serial == ref.serial) (goes_on s (with_slot ref.slot world.Free s.world) (result ∷ values)) (traps s NotJoined)
    (in_place s (with_slot ref.slot world.Free s.world) _ home (length-set s.world.slots ref.slot _)
    (set_beside s.world.slots ref.slot _ (ap open_of e) refl) refl refl refl refl)
    (trapped s NotJoined home)

join_follows : (s : Standing) (values : List Value) → Home s → Followed s (join s values)
join_follows s (Started None ∷ values) home = trapped s NotJoined home
join_follows s (Started (Some ref) ∷ values) home = join_slot_follows s ref values (in_slot s.world ref.slot) home refl
join_follows s [] home = tt
join_follows s (Number i ∷ values) home = tt
join_follows s (Reference r ∷ values) home = tt

-- the end of a thread takes its record with it; main's leaves its slot as it is, where no use came before it
over_closes_none : (o : Option Record) (t : ℕ) (closed : List Closed) → closed ≡ closed_by false t o closed
over_closes_none None t closed = refl
over_closes_none (Some uses) t closed = refl

finish_follows : (s : Standing) (v : Value) (n : ℕ) → in_slot s.world s.slot ≡ Live s.thread → Followed s (finish_thread s v n)
finish_follows s v zero own = record {
  misused = refl;
  others = λ k other. refl;
  own = subst (λ y. open_of y ≡ open_by (in_transaction y) (opened s.thread)) (sym own) (own_stays s.thread s.thread s.thread.depth refl);
  closed =
      subst (λ y. s.world.closed ≡ closed_by (is_outside y) s.slot (opened s.thread) s.world.closed) (sym own)
      (closed_stays s.thread s.thread.depth s.slot s.world.closed);
}
finish_follows s v (suc n) own =
    one_slot s _ (Over s.thread.serial v) (s.thread, own) refl refl refl (over_closes_none (opened s.thread) s.slot s.world.closed)

return_to_follows : (s : Standing) (v : Value) (below : List Frame) → in_slot s.world s.slot ≡ Live s.thread
    → Followed s (return_to s v below)
return_to_follows s v [] own = finish_follows s v s.slot own
return_to_follows s v (f ∷ fs) own =
    in_place s s.world (record s.thread { frames = record f { values = v ∷ f.values } ∷ fs }) (s.thread, own) refl (λ k. refl) refl refl refl refl

return_follows : (s : Standing) (values : List Value) → in_slot s.world s.slot ≡ Live s.thread → Followed s (return s values)
return_follows s [] own = tt
return_follows s (v ∷ values) own = return_to_follows s v s.below own

-- transactions
begin_follows : (s : Standing) (depth : ℕ) (values : List Value) → Home s → s.thread.depth ≡ depth
    → Followed s (begin_at s depth (gone_on s values))
begin_follows s zero values home e =
    one_slot s _ (Live (record (gone_on s values) { depth = 1; uses = [] })) home refl refl
    (ap (λ n. open_by true (open_of_thread s.thread n)) (sym e)) (ap (λ n. closed_by false s.slot (open_of_thread s.thread n) s.world.closed) (sym e))
begin_follows s (suc depth) values home e =
    one_slot s _ (Live (record (gone_on s values) { depth = suc (suc depth) })) home refl refl
    (ap (λ b. open_by b (Some s.thread.uses)) (sym (deep (suc depth)))
    ∙ ap (λ n. open_by (nat_lt 0 (suc (suc depth))) (open_of_thread s.thread n)) (sym e))
    (ap (λ b. closed_by (true && not b) s.slot (Some s.thread.uses) s.world.closed) (sym (deep (suc depth)))
    ∙ ap (λ n. closed_by (true && not (nat_lt 0 (suc (suc depth)))) s.slot (open_of_thread s.thread n) s.world.closed) (sym e))

end_follows : (s : Standing) (depth : ℕ) (values : List Value) → Home s → s.thread.depth ≡ depth
    → Followed s (end_at s depth (gone_on s values))
end_follows s zero values home e = tt
end_follows s (suc zero) values home e =
    one_slot s _ (Live (record (gone_on s values) { depth = 0; uses = [] })) home refl refl
    (ap (λ n. open_by false (open_of_thread s.thread n)) (sym e))
    (ap (λ n. closed_by true s.slot (open_of_thread s.thread n) s.world.closed) (sym e))
end_follows s (suc (suc depth)) values home e =
    one_slot s _ (Live (record (gone_on s values) { depth = suc depth })) home refl refl
    (ap (λ b. open_by b (Some s.thread.uses)) (sym (deep depth))
    ∙ ap (λ n. open_by (nat_lt 0 (suc depth)) (open_of_thread s.thread n)) (sym e))
    (ap (λ b. closed_by (true && not b) s.slot (Some s.thread.uses) s.world.closed) (sym (deep depth))
    ∙ ap (λ n. closed_by (true && not (nat_lt 0 (suc depth))) s.slot (open_of_thread s.thread n) s.world.closed) (sym e))

perform_follows : (x : Stop) (s : Standing) (values : List Value) → Home s → (x ≡ Return → in_slot s.world s.slot ≡ Live s.thread)
    → Followed s (perform x s values)
perform_follows (ReadGlobal name) s values home own = goes_same s _ home
perform_follows (WriteGlobal name) s values home own = write_global_follows s name values home
perform_follows (ReadElement name) s values home own = read_element_follows s name values home
perform_follows (WriteElement name) s values home own = write_element_follows s name values home
perform_follows (ReadField tag field) s values home own = read_field_follows s field values home
perform_follows (WriteField tag field) s values home own = write_field_follows s field values home
perform_follows (New tag) s values home own = allocate_follows s tag values home
perform_follows (Free tag) s values home own = release_follows s values home
perform_follows (Print format n) s values home own = goes s _ _ home refl refl refl
perform_follows (InitMutex name) s values home own = initialise_follows s values _ home
perform_follows (Lock name) s values home own = lock_follows s name values _ home
perform_follows (Unlock name) s values home own = unlock_follows s name values _ home
perform_follows (Spawn name) s values home own = spawn_follows s name values home
perform_follows Join s values home own = join_follows s values home
perform_follows (Call name n) s values home own = in_place s s.world _ home refl (λ k. refl) refl refl refl refl
perform_follows Return s values home own = return_follows s values (own refl)
perform_follows Back s values home own = goes_same s _ home
perform_follows Begin s values home own = begin_follows s s.thread.depth values home refl
perform_follows End s values home own = end_follows s s.thread.depth values home refl
perform_follows Update s values home own = goes_same s _ home

-- ---- a move

-- what a move does, by the name that it uses: it misuses it, or makes its use
record Does (t : ℕ) (w : World) (th : Thread) (name : Option Bytes) (after : World) : Type 0 where
  misuses : after.misused ≡ true → after ≡ marked w
  others : after.misused ≡ false → (k : ℕ) → k ≢ t → open_of (in_slot after k) ≡ open_of (in_slot w k)
  own : after.misused ≡ false
      → open_of (in_slot after t) ≡ open_by (in_transaction (in_slot after t)) (with_uses (uses_by w.table name) (opened th))
  closed : after.misused ≡ false
      → after.closed ≡ closed_by (is_outside (in_slot after t)) t (with_uses (uses_by w.table name) (opened th)) w.closed
  defined : after.misused ≡ false → (n : Bytes) → name ≡ Some n → is_some (now w n) ≡ true

false_isnt_true : false ≡ true → ⊥
false_isnt_true e = cc

-- a stop or an enter whose use was made
made_use : (s : Standing) (th : Thread) (name : Option Bytes) (after : World) → s.world.misused ≡ false
    → ((n : Bytes) → name ≡ Some n → is_some (now s.world n) ≡ true)
    → opened s.thread ≡ with_uses (uses_by s.world.table name) (opened th) → Follows s after → Does s.slot s.world th name after
made_use s th name after right defined o f = record {
  misuses = λ m. absurd (false_isnt_true (sym right ∙ sym f.misused ∙ m));
  others = λ m. f.others;
  own = λ m. f.own ∙ ap (open_by (in_transaction (in_slot after s.slot))) o;
  closed = λ m. f.closed ∙ ap (λ r. closed_by (is_outside (in_slot after s.slot)) s.slot r s.world.closed) o;
  defined = λ m. defined;
}

marks : (t : ℕ) (w : World) (th : Thread) (name : Option Bytes) → Does t w th name (marked w)
marks t w th name = record {
  misuses = λ m. refl;
  others = λ m. absurd (false_isnt_true (sym m));
  own = λ m. absurd (false_isnt_true (sym m));
  closed = λ m. absurd (false_isnt_true (sym m));
  defined = λ m. absurd (false_isnt_true (sym m));
}

-- a name that is rightly used has a definition
agree_there : (same : BareDef → BareDef → Bool) (a b : Option BareDef) → agree same a b ≡ true → is_some b ≡ true
agree_there same a (Some b) e = refl
agree_there same None None e = absurd (false_isnt_true e)
agree_there same (Some a) None e = absurd (false_isnt_true e)

right_is_defined : (w : World) (version : ℕ) (name : Bytes) → is_right w.table version name ≡ true
    → (n : Bytes) → Some name ≡ Some n → is_some (now w n) ≡ true
right_is_defined w version name right n e =
    subst (λ x. is_some (now w x) ≡ true) (same e) (agree_there same_interface (in_version w.table version name) (now w name) right)
  where
    same : Some name ≡ Some n → name ≡ n
    same e = cc

none_defined : (w : World) (n : Bytes) → None ≡ Some n → is_some (now w n) ≡ true
none_defined w n e = absurd (no e)
  where
    no : None ≡ Some n → ⊥
    no e = cc

-- by whether a use is right
where_right : (P : World → Type 0) (b : Bool) (x y : Option World) → (b ≡ true → AllOf P x) → AllOf P y → AllOf P (if b then x else y)
where_right P true x y p q = p refl
where_right P false x y p q = q

weaker : (P Q : World → Type 0) (o : Option World) → ((w : World) → P w → Q w) → AllOf P o → AllOf Q o
weaker P Q None f h = tt
weaker P Q (Some w) f h = f w h

-- the record of a thread without a use, and with one
without : (o : Option Record) → o ≡ with_uses [] o
without None = refl
without (Some uses) = ap Some (sym (append-nil uses))

with_one : (table : Table) (name : Bytes) (th : Thread) (n : ℕ) → th.depth ≡ n
    → opened (recorded table name th) ≡ with_uses (use_of table name ∷ []) (opened th)
with_one table name th zero e =
    ap (open_of_thread (recorded table name th)) e ∙ ap (λ n. with_uses (use_of table name ∷ []) (open_of_thread th n)) (sym e)
with_one table name th (suc n) e =
    ap (open_of_thread (recorded table name th)) e
    ∙ ap (λ m. Some (recorded_at m th.uses (use_of table name))) e
    ∙ ap (λ m. with_uses (use_of table name ∷ []) (open_of_thread th m)) (sym e)

-- a stop that uses nothing isn't a return that uses a name
not_return : (x : Stop) (name : Bytes) → use_at x ≡ Some name → x ≡ Return → ⊥
not_return x name e is = none_isnt_some (sym (ap use_at is) ∙ e)
  where
    none_isnt_some : None ≡ Some name → ⊥
    none_isnt_some e = cc

with_use_does : (x : Stop) (w : World) (t : ℕ) (th : Thread) (f : Frame) (below : List Frame) (name : Option Bytes)
    → w.misused ≡ false → in_slot w t ≡ Live th → use_at x ≡ name → AllOf (Does t w th name) (with_use x w t th f below name)
with_use_does x w t th f below None right there uses =
    weaker _ _ _ (λ after. made_use s th None after right (none_defined w) (without (opened th)))
    (perform_follows x s f.values (th, there) (λ is. there))
  where
    s : Standing
    s = record { world = w; slot = t; thread = th; frame = f; below = below }
with_use_does x w t th f below (Some name) right there uses =
    where_right _ (is_right w.table f.version name) (perform x s f.values) (Some (marked w))
    (λ is. weaker _ _ _ (λ after. made_use s th (Some name) after right (right_is_defined w f.version name is) (with_one w.table name th th.depth refl))
    (perform_follows x s f.values (th, there) (λ is. absurd (not_return x name uses is))))
    (marks t w th (Some name))
  where
    s : Standing
    s = record { world = w; slot = t; thread = recorded w.table name th; frame = f; below = below }

-- the record of a thread that stays where it is
does_nothing : (t : ℕ) (w after : World) (th : Thread) → after.slots ≡ w.slots → after.closed ≡ w.closed → after.misused ≡ w.misused
    → w.misused ≡ false → in_slot w t ≡ Live th → Does t w th None after
does_nothing t w after th e c m right there =
    made_use s th None after right (none_defined w) (without (opened th)) (record {
      misused = m;
      others = λ k other. ap (λ slots. open_of (slice_index_or slots k world.Free)) e;
      own = subst (λ y. open_of y ≡ open_by (in_transaction y) (opened th)) (sym at) (own_stays th th th.depth refl);
      closed =
          c ∙ subst (λ y. w.closed ≡ closed_by (is_outside y) t (opened th) w.closed) (sym at) (closed_stays th th.depth t w.closed);
    })
  where
    s : Standing
    s = record { world = w; slot = t; thread = th; frame = frame_of w (record { function = []; arguments = []; version = 0 }); below = [] }

    at : in_slot after t ≡ Live th
    at = ap (λ slots. slice_index_or slots t world.Free) e ∙ there

behind_does : (w : World) (t : ℕ) (th : Thread) (f : Frame) (below : List Frame) (h : Halt) → w.misused ≡ false → in_slot w t ≡ Live th
    → AllOf (Does t w th (use_of_halt h)) (behind w t th f below h)
behind_does w t th f below (Stopped x n rest values scopes) right there =
    let g : Frame = record f { standing = n; pieces = rest; values = values; scopes = scopes } in
    with_use_does x w t th g below (use_at x) right there refl
behind_does w t th f below (Trapped kind) right there = does_nothing t w _ th refl refl refl right there
behind_does w t th f below Nothing right there = tt

frames_do : (w : World) (t : ℕ) (th : Thread) (fs : List Frame) → w.misused ≡ false → in_slot w t ≡ Live th
    → AllOf (Does t w th (use_in fs)) (in_frames w t th fs)
frames_do w t th [] right there = tt
frames_do w t th (f ∷ below) right there = behind_does w t th f below (next_of f) right there

enter_does : (w : World) (t : ℕ) (th : Thread) (e : Enter) → w.misused ≡ false → in_slot w t ≡ Live th
    → AllOf (Does t w th (Some e.function)) (enter w t th e)
enter_does w t th e right there =
    where_right _ (is_right w.table e.version e.function) (enter_with w t e user) (Some (marked w))
    (λ is. weaker _ _ _ (λ after. made_use s th (Some e.function) after right (right_is_defined w e.version e.function is) (with_one w.table e.function th th.depth refl))
    (either_way (Follows s) (length user.frames == frame_count)
    (Some (record (with_thread t user w) { finish = Some (world.Trapped Depth t) }))
    (Some (with_thread t (record user { frames = frame_of w e ∷ user.frames; entering = None }) w))
    (one_slot s _ (Live user) (th, there) refl refl (own_stays user user user.depth refl) (closed_stays user user.depth t w.closed))
    (in_place s w _ (th, there) refl (λ k. refl) refl refl refl refl)))
    (marks t w th (Some e.function))
  where
    user : Thread
    user = recorded w.table e.function th

    s : Standing
    s = record { world = w; slot = t; thread = user; frame = frame_of w e; below = [] }

thread_does : (w : World) (t : ℕ) (th : Thread) (due : Option Enter) → w.misused ≡ false → in_slot w t ≡ Live th
    → AllOf (Does t w th (option_or (option_map (λ e. e.function) due) (use_in th.frames))) (thread_move w t th due)
thread_does w t th None right there = frames_do w t th th.frames right there
thread_does w t th (Some e) right there = enter_does w t th e right there

-- in terms of what is in the slot
record Changes (t : ℕ) (w after : World) : Type 0 where
  misuses : after.misused ≡ true → RecordsStay w after
  makes : after.misused ≡ false → RecordsMoved t w after

changes : (t : ℕ) (w after : World) (th : Thread) → in_slot w t ≡ Live th → Does t w th (use_due (Live th)) after → Changes t w after
changes t w after th there d = record {
  misuses = λ m. record {
    each = λ k. ap (λ v. open_of (in_slot v k)) (d.misuses m);
    closed = ap (λ v. v.closed) (d.misuses m);
  };
  makes = λ m. record {
    others = d.others m;
    own =
        subst (λ y. open_of (in_slot after t) ≡ open_by (in_transaction (in_slot after t)) (with_uses (uses_by w.table (use_due y)) (open_of y)))
        (sym there) (d.own m);
    closed =
        subst (λ y. after.closed ≡ closed_by (is_outside (in_slot after t)) t (with_uses (uses_by w.table (use_due y)) (open_of y)) w.closed)
        (sym there) (d.closed m);
    defined = λ n e. d.defined m n (ap use_due (sym there) ∙ e);
  };
}

slot_changes : (w : World) (t : ℕ) (x : Slot) → w.misused ≡ false → in_slot w t ≡ x → AllOf (Changes t w) (move_of w t x)
slot_changes w t (Live th) right there =
    weaker _ _ _ (λ after. changes t w after th there) (thread_does w t th th.entering right there)
slot_changes w t world.Free right there = tt
slot_changes w t (Over serial result) right there = tt

-- by whether the world is over
where_going : (P : World → Type 0) (b : Bool) (o : Option World) → (b ≡ false → AllOf P o) → AllOf P (if b then None else o)
where_going P true o p = tt
where_going P false o p = p refl

not_misused : (a b c : Bool) → ((a || b) || c) ≡ false → a ≡ false
not_misused true b c e = e
not_misused false b c e = refl

pub moves_keep_records : MovesKeepRecords
moves_keep_records w after t moved =
    let c = of_outcome (Changes t w) (move w t) after moved
    (where_going (Changes t w) (is_over w || must_wait w t) (move_of w t (in_slot w t))
    (λ going. slot_changes w t (in_slot w t) (not_misused w.misused _ (must_wait w t) going) refl)) in
    (c.misuses, c.makes)

-- the thread that moves lives in its slot
pub mover_lives : (w after : World) (t : ℕ) → move w t ≡ Some after → (th : Thread) × (in_slot w t ≡ Live th)
mover_lives w after t moved =
    of_outcome (λ v. (th : Thread) × (in_slot w t ≡ Live th)) (move w t) after moved
    (where_going (λ v. (th : Thread) × (in_slot w t ≡ Live th)) (is_over w || must_wait w t) (move_of w t (in_slot w t))
    (λ going. by (in_slot w t) refl))
  where
    each : (th : Thread) (o : Option World) → in_slot w t ≡ Live th → AllOf (λ v. (own : Thread) × (in_slot w t ≡ Live own)) o
    each th None e = tt
    each th (Some v) e = (th, e)

    by : (x : Slot) → in_slot w t ≡ x → AllOf (λ v. (th : Thread) × (in_slot w t ≡ Live th)) (move_of w t x)
    by (Live th) e = each th (move_of w t (Live th)) e
    by world.Free e = tt
    by (Over serial result) e = tt

-- a move is made in a world that isn't over
pub mover_goes : (w after : World) (t : ℕ) → move w t ≡ Some after → is_over w ≡ false
mover_goes w after t moved =
    of_outcome (λ v. is_over w ≡ false) (move w t) after moved
    (where_going (λ v. is_over w ≡ false) (is_over w || must_wait w t) (move_of w t (in_slot w t))
    (λ going. each (move_of w t (in_slot w t)) (left_of (is_over w) (must_wait w t) going)))
  where
    each : (o : Option World) → is_over w ≡ false → AllOf (λ v. is_over w ≡ false) o
    each None e = tt
    each (Some v) e = e

    left_of : (a b : Bool) → (a || b) ≡ false → a ≡ false
    left_of true b e = e
    left_of false b e = refl
