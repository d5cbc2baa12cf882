-- What a move leaves as it was.
use Rattle.std.proofs.Common.{◌≡◌, ℕ, zero, suc, ◌⊎◌, inl, inr, Bool, true, false, List, [], ◌∷◌, ◌++◌, Option, Some, None, refl, sym, ◌∙◌, ap, subst, arith}
use Rattle.std.proofs.lemmas.Bool.{cases_eq}
use Rattle.std.specs.Prelude.{◌||◌, ◌≢◌, ◌==◌, length, position, slice_get, slice_index_or, slice_set, unwrap_or, unsigned_abs, if◌then◌else◌}
use Rattle.std.proofs.lemmas.List.{get_or-set_other, length-set, append-nil}
use Rattle.std.proofs.lemmas.List.Quantifiers.{position-Some}
use Rattle.run_types.specs.declared.trap.TrapKind.{TrapKind}
use Rattle.run_types.specs.declared.trap.TrapKind.TheVariants.{Null, Stale, Index, Depth, Relock, Unlock as NotHeld, MutexHeld, Join as NotJoined}
use Rattle.c_ints.specs.Number.{value_of}
use Rattle.c_tree.specs.BareExpr.{Bytes}
use Rattle.c_semantics.specs.Values.{Value, Number, Reference, Started, ThreadRef, int_of}
use Rattle.c_semantics.specs.Stops.{Stop, ReadGlobal, WriteGlobal, ReadElement, WriteElement, ReadField, WriteField, New, Free, Print, InitMutex, Lock, Unlock, Spawn, Join, Call, Return, Back, Begin, End, Update}
use Rattle.c_semantics.specs.Pieces.{Halt, Stopped, Trapped, Nothing}
use Rattle.c_semantics.specs.Threads.{Frame, Enter, Thread}
use Rattle.source_model.specs.Worlds.{World, Object, Slot, Live, Over, Closed, in_slot, with_slot, with_thread, is_over, cells_of, with_cells, live_objects, released}
use Rattle.source_model.specs.Worlds as world
use Rattle.source_model.specs.Uses.{using, use_at, is_right, recorded, marked}
use Rattle.source_model.specs.Waits.{must_wait}
use Rattle.source_model.specs.Moves.{Standing, on_live, on_object, read_element, write_element, read_field, write_field, allocate, release, initialise, lock, unlock, start_in, spawn, join_slot, join, finish_thread, return_to, return, begin_at, end_at, write_global, print, call, perform, with_use, behind, enter, enter_with, in_frames, thread_move, move_of, move, goes_on, traps, is_free, in_bounds, new_object, frame_count, frame_of}
use Rattle.source_model.specs.Runs.{is_live}
use Rattle.source_model.specs.Laws.{Grows}

-- records are closed after those that were
abbrev pub Closes : List Closed → List Closed → Type 0
Closes before after = (more : List Closed) × (after ≡ before ++ more)

-- what a move of slot t does to a world: it prints more, and the definitions, the records that were closed, the
-- number of slots and the other live threads stay; unless a thread is started, no other slot gets one
pub record Keeps (t : ℕ) (w after : World) : Type 0 where
  pub grows : Grows w after
  pub same_table : after.table ≡ w.table
  pub closes : Closes w.closed after.closed
  pub count : length after.slots ≡ length w.slots
  pub others : (k : ℕ) (th : Thread) → k ≢ t → in_slot w k ≡ Live th → in_slot after k ≡ Live th
  pub main : is_live (in_slot w 0) ≡ true → is_live (in_slot after 0) ≡ true
  pub settled : after.threads ≡ w.threads → (k : ℕ) → k ≢ t → is_live (in_slot after k) ≡ true → is_live (in_slot w k) ≡ true

-- a world that is there satisfies P
abbrev pub AllOf : (World → Type 0) → Option World → Type 0
AllOf P None = Unit {0}
AllOf P (Some w) = P w

-- no record is closed
none_closed : (before after : List Closed) → after ≡ before → Closes before after
none_closed before after e = ([], e ∙ sym (append-nil before))

-- nothing more is printed
quiet : (w after : World) → after.output ≡ w.output → Grows w after
quiet w after e = ([], e ∙ sym (append-nil w.output))

-- main's slot has a live thread where what is put there is one
none_is_live : is_live world.Free ≡ true → ⊥
none_is_live h = cc

set_main : (slots : List Slot) (t : ℕ) (s : Slot) → (t ≡ 0 → is_live s ≡ true) → is_live (slice_index_or slots 0 world.Free) ≡ true
    → is_live (slice_index_or (slice_set slots t s) 0 world.Free) ≡ true
set_main [] t s lives h = absurd (none_is_live h)
set_main (x ∷ slots) zero s lives h = lives refl
set_main (x ∷ slots) (suc t) s lives h = h

-- only slot t is another
abbrev one_slot : (t : ℕ) (w after : World) (s : Slot) → after.slots ≡ slice_set w.slots t s → Grows w after
    → after.table ≡ w.table → Closes w.closed after.closed → (t ≡ 0 → is_live s ≡ true) → Keeps t w after
one_slot t w after s e g d c lives = record {
  grows = g;
  same_table = d;
  closes = c;
  count = ap length e ∙ length-set w.slots t s;
  others = λ k th other is.
      ap (λ slots. slice_index_or slots k world.Free) e ∙ get_or-set_other w.slots t k s world.Free other ∙ is;
  main = λ h. ap (λ slots. is_live (slice_index_or slots 0 world.Free)) e ∙ set_main w.slots t s lives h;
  settled = λ same k other is.
      ap is_live (sym (get_or-set_other w.slots t k s world.Free other))
      ∙ ap (λ slots. is_live (slice_index_or slots k world.Free)) (sym e)
      ∙ is;
}

-- and nothing more is printed
one_slot_quiet : (t : ℕ) (w after : World) (s : Slot) → after.slots ≡ slice_set w.slots t s → after.output ≡ w.output
    → after.table ≡ w.table → Closes w.closed after.closed → (t ≡ 0 → is_live s ≡ true) → Keeps t w after
one_slot_quiet t w after s e o d c lives = one_slot t w after s e (quiet w after o) d c lives

-- no slot is another
no_slot : (t : ℕ) (w after : World) → after.slots ≡ w.slots → after.output ≡ w.output → after.table ≡ w.table
    → after.closed ≡ w.closed → Keeps t w after
no_slot t w after e o d c = record {
  grows = quiet w after o;
  same_table = d;
  closes = none_closed w.closed after.closed c;
  count = ap length e;
  others = λ k th other is. ap (λ slots. slice_index_or slots k world.Free) e ∙ is;
  main = λ h. ap (λ slots. is_live (slice_index_or slots 0 world.Free)) e ∙ h;
  settled = λ same k other is. ap (λ slots. is_live (slice_index_or slots k world.Free)) (sym e) ∙ is;
}

-- one of two outcomes
either_way : (t : ℕ) (w : World) (b : Bool) (x y : Option World)
    → AllOf (Keeps t w) x → AllOf (Keeps t w) y → AllOf (Keeps t w) (if b then x else y)
either_way t w true x y p q = p
either_way t w false x y p q = q

-- the outcome of a stop
abbrev Kept : Standing → Option World → Type 0
Kept s = AllOf (Keeps s.slot s.world)

-- the thread in its slot again, in a world whose slots are the same
in_place : (t : ℕ) (w mid : World) (th : Thread) → mid.slots ≡ w.slots → Grows w mid
    → mid.table ≡ w.table → mid.closed ≡ w.closed → Keeps t w (with_slot t (Live th) mid)
in_place t w mid th e g d c =
    one_slot t w (with_slot t (Live th) mid) (Live th) (ap (λ slots. slice_set slots t (Live th)) e) g d
    (none_closed w.closed mid.closed c) (λ zeroth. refl)

goes : (s : Standing) (w : World) (values : List Value) → w.slots ≡ s.world.slots → Grows s.world w
    → w.table ≡ s.world.table → w.closed ≡ s.world.closed → Kept s (goes_on s w values)
goes s w values e g d c = in_place s.slot s.world w _ e g d c

-- in the same world
goes_same : (s : Standing) (values : List Value) → Kept s (goes_on s s.world values)
goes_same s values = goes s s.world values refl (quiet s.world s.world refl) refl refl

-- in a world that printed nothing
goes_quiet : (s : Standing) (w : World) (values : List Value) → w.slots ≡ s.world.slots → w.output ≡ s.world.output
    → w.table ≡ s.world.table → w.closed ≡ s.world.closed → Kept s (goes_on s w values)
goes_quiet s w values e o d c = goes s w values e (quiet s.world w o) d c

trapped : (s : Standing) (kind : TrapKind) → Kept s (traps s kind)
trapped s kind = one_slot_quiet s.slot s.world _ _ refl refl refl (none_closed _ _ refl) (λ zeroth. refl)

write_global_keeps : (s : Standing) (name : Bytes) (values : List Value) → Kept s (write_global s name values)
write_global_keeps s name [] = tt
write_global_keeps s name (v ∷ values) = goes_quiet s _ _ refl refl refl refl

read_element_keeps : (s : Standing) (name : Bytes) (values : List Value) → Kept s (read_element s name values)
read_element_keeps s name (Number i ∷ values) =
    let cells = cells_of s.world name in
    either_way s.slot s.world (in_bounds (value_of i) cells)
    (goes_on s s.world (unwrap_or (slice_get cells (unsigned_abs (value_of i))) (int_of 0) ∷ values)) (traps s Index)
    (goes_same s _) (trapped s Index)
read_element_keeps s name [] = tt
read_element_keeps s name (Reference r ∷ values) = tt
read_element_keeps s name (Started r ∷ values) = tt

write_element_keeps : (s : Standing) (name : Bytes) (values : List Value) → Kept s (write_element s name values)
write_element_keeps s name (v ∷ Number i ∷ values) =
    let cells = cells_of s.world name in
    either_way s.slot s.world (in_bounds (value_of i) cells)
    (goes_on s (with_cells name (slice_set cells (unsigned_abs (value_of i)) v) s.world) (v ∷ values)) (traps s Index)
    (goes_quiet s _ _ refl refl refl refl) (trapped s Index)
write_element_keeps s name [] = tt
write_element_keeps s name (v ∷ []) = tt
write_element_keeps s name (v ∷ Reference r ∷ values) = tt
write_element_keeps s name (v ∷ Started r ∷ values) = tt

on_live_keeps : (s : Standing) (f : Object → Option World) (o : Option Object)
    → ((x : Object) → Kept s (f x)) → Kept s (on_live s f o)
on_live_keeps s f None keeps = trapped s Stale
on_live_keeps s f (Some o) keeps = either_way s.slot s.world o.live (f o) (traps s Stale) (keeps o) (trapped s Stale)

on_object_keeps : (s : Standing) (r : Option ℕ) (f : ℕ → Object → Option World)
    → ((n : ℕ) (x : Object) → Kept s (f n x)) → Kept s (on_object s r f)
on_object_keeps s None f keeps = trapped s Null
on_object_keeps s (Some n) f keeps = on_live_keeps s (f n) (slice_get s.world.objects n) (keeps n)

read_field_keeps : (s : Standing) (field : Bytes) (values : List Value) → Kept s (read_field s field values)
read_field_keeps s field (Reference r ∷ values) = on_object_keeps s r _ (λ n o. goes_same s _)
read_field_keeps s field [] = tt
read_field_keeps s field (Number i ∷ values) = tt
read_field_keeps s field (Started r ∷ values) = tt

write_field_keeps : (s : Standing) (field : Bytes) (values : List Value) → Kept s (write_field s field values)
write_field_keeps s field (v ∷ Reference r ∷ values) = on_object_keeps s r _ (λ n o. goes_quiet s _ _ refl refl refl refl)
write_field_keeps s field [] = tt
write_field_keeps s field (v ∷ []) = tt
write_field_keeps s field (v ∷ Number i ∷ values) = tt
write_field_keeps s field (v ∷ Started r ∷ values) = tt

allocate_keeps : (s : Standing) (tag : Bytes) (values : List Value) → Kept s (allocate s tag values)
allocate_keeps s tag values =
    let w = s.world in
    either_way s.slot w (live_objects w == w.capacity) (goes_on s w (Reference None ∷ values))
    (goes_on s (record w { objects = w.objects ++ new_object w tag ∷ [] }) (Reference (Some (length w.objects)) ∷ values))
    (goes_same s _) (goes_quiet s _ _ refl refl refl refl)

release_keeps : (s : Standing) (values : List Value) → Kept s (release s values)
release_keeps s (Reference None ∷ values) = goes_same s _
release_keeps s (Reference (Some n) ∷ values) = on_live_keeps s _ (slice_get s.world.objects n) (λ o. goes_quiet s _ _ refl refl refl refl)
release_keeps s [] = tt
release_keeps s (Number i ∷ values) = tt
release_keeps s (Started r ∷ values) = tt

initialise_keeps : (s : Standing) (values : List Value) (holder : Option ℕ) → Kept s (initialise s values holder)
initialise_keeps s values None = goes_same s _
initialise_keeps s values (Some slot) = trapped s MutexHeld

lock_keeps : (s : Standing) (name : Bytes) (values : List Value) (holder : Option ℕ) → Kept s (lock s name values holder)
lock_keeps s name values None = goes_quiet s _ _ refl refl refl refl
lock_keeps s name values (Some slot) = trapped s Relock

unlock_keeps : (s : Standing) (name : Bytes) (values : List Value) (holder : Option ℕ) → Kept s (unlock s name values holder)
unlock_keeps s name values None = trapped s NotHeld
unlock_keeps s name values (Some slot) =
    either_way s.slot s.world (slot == s.slot) (goes_on s (released name s.world) (int_of 0 ∷ values)) (traps s NotHeld)
    (goes_quiet s _ _ refl refl refl refl) (trapped s NotHeld)

-- a slot without a live thread that is set has none
dead_there : (slots : List Slot) (u : ℕ) (b : Slot) → is_live b ≡ false
    → is_live (slice_index_or (slice_set slots u b) u world.Free) ≡ false
dead_there [] u b dead = refl
dead_there (x ∷ slots) zero b dead = dead
dead_there (x ∷ slots) (suc u) b dead = dead_there slots u b dead

not_both : (b : Bool) → b ≡ true → b ≡ false → ⊥
not_both b on off = cc

-- two slots are another, of which no live thread was in the second
two_slots : (t u : ℕ) (w after : World) (a b : Slot) → after.slots ≡ slice_set (slice_set w.slots u b) t a → after.output ≡ w.output
    → after.table ≡ w.table → after.closed ≡ w.closed → (t ≡ 0 → is_live a ≡ true) → ((th : Thread) → in_slot w u ≡ Live th → ⊥)
    → (after.threads ≡ w.threads → is_live b ≡ false) → Keeps t w after
two_slots t u w after a b e o d c lives empty starts = record {
  grows = quiet w after o;
  same_table = d;
  closes = none_closed w.closed after.closed c;
  count = ap length e ∙ length-set (slice_set w.slots u b) t a ∙ length-set w.slots u b;
  others = λ k th other is.
      ap (λ slots. slice_index_or slots k world.Free) e
      ∙ get_or-set_other (slice_set w.slots u b) t k a world.Free other
      ∙ get_or-set_other w.slots u k b world.Free (λ same. empty th (subst (λ n. in_slot w n ≡ Live th) same is))
      ∙ is;
  main = λ h.
      ap (λ slots. is_live (slice_index_or slots 0 world.Free)) e
      ∙ set_main (slice_set w.slots u b) t a lives
      (set_main w.slots u b (λ zeroth. absurd (empty_or_live (in_slot w u) empty (ap (λ n. is_live (in_slot w n)) zeroth ∙ h))) h);
  settled = λ same k other is. was (starts same) k (before k other is) (cases_eq k u);
}
  where
    -- what lives in another slot lives there before slot t was set
    before : (k : ℕ) → k ≢ t → is_live (in_slot after k) ≡ true → is_live (slice_index_or (slice_set w.slots u b) k world.Free) ≡ true
    before k other is =
        ap is_live (sym (get_or-set_other (slice_set w.slots u b) t k a world.Free other))
        ∙ ap (λ slots. is_live (slice_index_or slots k world.Free)) (sym e)
        ∙ is

    was : is_live b ≡ false → (k : ℕ) → is_live (slice_index_or (slice_set w.slots u b) k world.Free) ≡ true → (k ≡ u) ⊎ (k ≡ u → ⊥)
        → is_live (in_slot w k) ≡ true
    was dead k is (inl same) =
        absurd (not_both _ is
        (ap (λ n. is_live (slice_index_or (slice_set w.slots u b) n world.Free)) same ∙ dead_there w.slots u b dead))
    was dead k is (inr apart) = ap is_live (sym (get_or-set_other w.slots u k b world.Free apart)) ∙ is

    empty_or_live : (x : Slot) → ((th : Thread) → x ≡ Live th → ⊥) → is_live x ≡ true → ⊥
    empty_or_live (Live th) none h = none th refl
    empty_or_live world.Free none h = none_is_live h
    empty_or_live (Over serial result) none h = none_is_live h

-- a slot that is free has no live thread
free_is_empty : (x : Slot) (th : Thread) → is_free x ≡ true → x ≡ Live th → ⊥
free_is_empty x th free is = live_isnt_free (ap is_free (sym is) ∙ free)
  where
    live_isnt_free : false ≡ true → ⊥
    live_isnt_free e = cc

one_more : (n : ℕ) → suc n ≡ n → ⊥
one_more n same = omega (arith, same)

start_keeps : (s : Standing) (enter : Enter) (values : List Value) (place : Option ℕ) → position is_free s.world.slots ≡ place
    → Kept s (start_in s enter values place)
start_keeps s enter values None e = goes_same s _
start_keeps s enter values (Some t) e =
    two_slots s.slot t s.world _ _ _ refl refl refl refl (λ zeroth. refl)
    (λ th is. free_is_empty _ th (position-Some is_free s.world.slots t world.Free e).1 is)
    (λ same. absurd (one_more s.world.threads same))

spawn_keeps : (s : Standing) (name : Bytes) (values : List Value) → Kept s (spawn s name values)
spawn_keeps s name [] = tt
spawn_keeps s name (v ∷ values) = start_keeps s _ values (position is_free s.world.slots) refl

-- a slot whose thread has ended has no live thread
over_is_empty : (x : Slot) (n : ℕ) (v : Value) (th : Thread) → x ≡ Over n v → x ≡ Live th → ⊥
over_is_empty x n v th over is = cc

join_slot_keeps : (s : Standing) (ref : ThreadRef) (values : List Value) (x : Slot) → in_slot s.world ref.slot ≡ x
    → Kept s (join_slot s ref values x)
join_slot_keeps s ref values world.Free e = trapped s NotJoined
join_slot_keeps s ref values (Live th) e = trapped s NotJoined
join_slot_keeps s ref values (Over serial result) e =
    either_way s.slot s.world (serial == ref.serial)
    (goes_on s (with_slot ref.slot world.Free s.world) (result ∷ values)) (traps s NotJoined)
    (two_slots s.slot ref.slot s.world _ _ _ refl refl refl refl (λ zeroth. refl) (λ th is. over_is_empty _ serial result th e is) (λ same. refl))
    (trapped s NotJoined)

join_keeps : (s : Standing) (values : List Value) → Kept s (join s values)
join_keeps s (Started None ∷ values) = trapped s NotJoined
join_keeps s (Started (Some ref) ∷ values) = join_slot_keeps s ref values (in_slot s.world ref.slot) refl
join_keeps s [] = tt
join_keeps s (Number i ∷ values) = tt
join_keeps s (Reference r ∷ values) = tt

not_main : (t n : ℕ) → t ≡ suc n → t ≡ 0 → ⊥
not_main t n e f = cc

finish_keeps : (s : Standing) (v : Value) (n : ℕ) → s.slot ≡ n → Kept s (finish_thread s v n)
finish_keeps s v zero e = no_slot s.slot s.world _ refl refl refl refl
finish_keeps s v (suc n) e =
    one_slot_quiet s.slot s.world _ _ refl refl refl (none_closed _ _ refl) (λ zeroth. absurd (not_main s.slot n e zeroth))

return_to_keeps : (s : Standing) (v : Value) (below : List Frame) → Kept s (return_to s v below)
return_to_keeps s v [] = finish_keeps s v s.slot refl
return_to_keeps s v (f ∷ fs) = one_slot_quiet s.slot s.world _ _ refl refl refl (none_closed _ _ refl) (λ zeroth. refl)

return_keeps : (s : Standing) (values : List Value) → Kept s (return s values)
return_keeps s [] = tt
return_keeps s (v ∷ values) = return_to_keeps s v s.below

begin_keeps : (s : Standing) (depth : ℕ) (th : Thread) → Kept s (begin_at s depth th)
begin_keeps s zero th = one_slot_quiet s.slot s.world _ _ refl refl refl (none_closed _ _ refl) (λ zeroth. refl)
begin_keeps s (suc depth) th = one_slot_quiet s.slot s.world _ _ refl refl refl (none_closed _ _ refl) (λ zeroth. refl)

end_keeps : (s : Standing) (depth : ℕ) (th : Thread) → Kept s (end_at s depth th)
end_keeps s zero th = tt
end_keeps s (suc zero) th = one_slot_quiet s.slot s.world _ _ refl refl refl (_, refl) (λ zeroth. refl)
end_keeps s (suc (suc depth)) th = one_slot_quiet s.slot s.world _ _ refl refl refl (none_closed _ _ refl) (λ zeroth. refl)

print_keeps : (s : Standing) (format : Bytes) (n : ℕ) (values : List Value) → Kept s (print s format n values)
print_keeps s format n values = goes s _ _ refl (_, refl) refl refl

call_keeps : (s : Standing) (name : Bytes) (n : ℕ) (values : List Value) → Kept s (call s name n values)
call_keeps s name n values = one_slot_quiet s.slot s.world _ _ refl refl refl (none_closed _ _ refl) (λ zeroth. refl)

perform_keeps : (x : Stop) (s : Standing) (values : List Value) → Kept s (perform x s values)
perform_keeps (ReadGlobal name) s values = goes_same s _
perform_keeps (WriteGlobal name) s values = write_global_keeps s name values
perform_keeps (ReadElement name) s values = read_element_keeps s name values
perform_keeps (WriteElement name) s values = write_element_keeps s name values
perform_keeps (ReadField tag field) s values = read_field_keeps s field values
perform_keeps (WriteField tag field) s values = write_field_keeps s field values
perform_keeps (New tag) s values = allocate_keeps s tag values
perform_keeps (Free tag) s values = release_keeps s values
perform_keeps (Print format n) s values = print_keeps s format n values
perform_keeps (InitMutex name) s values = initialise_keeps s values _
perform_keeps (Lock name) s values = lock_keeps s name values _
perform_keeps (Unlock name) s values = unlock_keeps s name values _
perform_keeps (Spawn name) s values = spawn_keeps s name values
perform_keeps Join s values = join_keeps s values
perform_keeps (Call name n) s values = call_keeps s name n values
perform_keeps Return s values = return_keeps s values
perform_keeps Back s values = goes_same s _
perform_keeps Begin s values = begin_keeps s s.thread.depth _
perform_keeps End s values = end_keeps s s.thread.depth _
perform_keeps Update s values = goes_same s _

-- a use before what follows it
using_keeps : (t : ℕ) (w : World) (th : Thread) (n : ℕ) (name : Bytes) (f : Thread → Option World)
    → ((user : Thread) → AllOf (Keeps t w) (f user)) → AllOf (Keeps t w) (using w th n name f)
using_keeps t w th n name f keeps =
    either_way t w (is_right w.table n name) (f (recorded w.table name th)) (Some (marked w))
    (keeps (recorded w.table name th)) (no_slot t w _ refl refl refl refl)

with_use_keeps : (x : Stop) (w : World) (t : ℕ) (th : Thread) (f : Frame) (below : List Frame) (name : Option Bytes)
    → AllOf (Keeps t w) (with_use x w t th f below name)
with_use_keeps x w t th f below None =
    perform_keeps x (record { world = w; slot = t; thread = th; frame = f; below = below }) f.values
with_use_keeps x w t th f below (Some name) =
    using_keeps t w th f.version name
    (λ user. perform x (record { world = w; slot = t; thread = user; frame = f; below = below }) f.values)
    (λ user. perform_keeps x (record { world = w; slot = t; thread = user; frame = f; below = below }) f.values)

after_keeps : (w : World) (t : ℕ) (th : Thread) (f : Frame) (below : List Frame) (h : Halt)
    → AllOf (Keeps t w) (behind w t th f below h)
after_keeps w t th f below (Stopped x n rest values scopes) =
    let g : Frame = record f { standing = n; pieces = rest; values = values; scopes = scopes } in
    with_use_keeps x w t th g below (use_at x)
after_keeps w t th f below (Trapped kind) = no_slot t w _ refl refl refl refl
after_keeps w t th f below Nothing = tt

enter_with_keeps : (w : World) (t : ℕ) (e : Enter) (th : Thread) → AllOf (Keeps t w) (enter_with w t e th)
enter_with_keeps w t e th =
    either_way t w (length th.frames == frame_count)
    (Some (record (with_thread t th w) { finish = Some (world.Trapped Depth t) }))
    (Some (with_thread t (record th { frames = frame_of w e ∷ th.frames; entering = None }) w))
    (one_slot_quiet t w _ _ refl refl refl (none_closed _ _ refl) (λ zeroth. refl))
    (one_slot_quiet t w _ _ refl refl refl (none_closed _ _ refl) (λ zeroth. refl))

frames_keep : (w : World) (t : ℕ) (th : Thread) (fs : List Frame) → AllOf (Keeps t w) (in_frames w t th fs)
frames_keep w t th [] = tt
frames_keep w t th (f ∷ below) = after_keeps w t th f below _

thread_keeps : (w : World) (t : ℕ) (th : Thread) (e : Option Enter) → AllOf (Keeps t w) (thread_move w t th e)
thread_keeps w t th None = frames_keep w t th th.frames
thread_keeps w t th (Some e) = using_keeps t w th e.version e.function _ (enter_with_keeps w t e)

slot_keeps : (w : World) (t : ℕ) (x : Slot) → AllOf (Keeps t w) (move_of w t x)
slot_keeps w t (Live th) = thread_keeps w t th th.entering
slot_keeps w t world.Free = tt
slot_keeps w t (Over serial result) = tt

pub move_keeps : (w : World) (t : ℕ) → AllOf (Keeps t w) (move w t)
move_keeps w t =
    either_way t w (is_over w || must_wait w t) None (move_of w t (in_slot w t)) tt (slot_keeps w t (in_slot w t))

-- what holds of the outcome holds of the world that it is
pub of_outcome : (P : World → Type 0) (o : Option World) (after : World) → o ≡ Some after → AllOf P o → P after
of_outcome P o after e p = subst (AllOf P) e p
