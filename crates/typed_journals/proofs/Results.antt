-- What main returned is an int, in the world of each guard that a legal journal of accepted texts comes to.
use Rattle.std.proofs.Common.{◌≡◌, ℕ, zero, suc, ◌==◌, ◌||◌, ◌⊎◌, inl, inr, Bool, true, false, List, [], ◌∷◌, ◌++◌, length, Option, Some, None, is_some, option_and_then, slice_get, unwrap_or, unsigned_abs, refl, sym, ap, subst, ◌∙◌, if◌then◌else◌}
use Rattle.std.specs.Prelude.{map, position, slice_set}
use Rattle.std.proofs.lemmas.Option.{none-some, same_Some}
use Rattle.run_types.specs.declared.run.Event.{Event}
use Rattle.run_types.specs.declared.run.Ending.TheVariants as ending
use Rattle.run_types.specs.declared.trap.TrapKind.TheVariants.{Depth, Null, Stale, Index, Relock, Unlock as NotHeld, MutexHeld, Join as NotJoined}
use Rattle.c_ints.specs.declared.kind.Kind.TheVariants.{I32}
use Rattle.c_ints.specs.Kind.{InRange}
use Rattle.c_ints.specs.Number.{value_of}
use Rattle.c_ints.proofs.Reduction.{reduced_same}
use Rattle.c_tree.specs.BareExpr.{Bytes}
use Rattle.c_tree.specs.BareDef.{BareDef}
use Rattle.c_tree.specs.declared.def.Def.{Def}
use Rattle.c_semantics.specs.SkeletonLaws.{DepthIsLexical}
use Rattle.c_semantics.specs.SourceTexts.{Text}
use Rattle.c_semantics.specs.Texts.{int}
use Rattle.c_semantics.specs.Values.{Value, Number, Reference, Started, ThreadRef, int_of}
use Rattle.c_semantics.specs.Stops.{Stop, ReadGlobal, WriteGlobal, ReadElement, WriteElement, ReadField, WriteField, New, Free, Print, InitMutex, Lock, Unlock, Spawn, Join, Call, Return, Back, Begin, End, Update}
use Rattle.c_semantics.specs.Pieces.{Halt, Piece, Scopes, Stopped, Trapped, Nothing}
use Rattle.c_semantics.specs.Threads.{Enter, Frame, Thread, next_of, started}
use Rattle.source_model.specs.Worlds.{World, Object, Limits, Slot, Live, Over, Finish, cells_of, first_world, holder_of, in_slot, is_over, live_objects, released, with_cells, with_slot, with_thread}
use Rattle.source_model.specs.Worlds as world
use Rattle.source_model.specs.Uses.{is_right, marked, recorded, use_at, using}
use Rattle.source_model.specs.Waits.{must_wait}
use Rattle.source_model.specs.Installs.{installed}
use Rattle.source_model.specs.Moves.{Standing, allocate, begin_at, behind, call, end_at, enter_with, finish_thread, frame_count, frame_of, goes_on, gone_on, in_bounds, in_frames, initialise, is_free, join, join_slot, lock, move, move_of, new_object, number_of, on_live, on_object, perform, read_element, read_field, release, return, return_to, spawn, start_in, thread_move, traps, unlock, with_use, write_element, write_field, write_global}
use Rattle.source_model.specs.Runs.{SourceMove, Move, Install, install, run, step}
use Rattle.source_model.specs.Endings.{ending_by, int_ending, is_stuck}
use Rattle.source_model.specs.Guards.{Guard, Offer, Rules, Setup}
use Rattle.source_model.specs.Journals.{guard_after}
use Rattle.version_laws.specs.Histories.{versions_by}
use Rattle.frame_bodies.specs.AcceptedTexts.{AreAccepted, definitions_of}
use Rattle.typed_runs.specs.TypedFrames.{Below, FramesTyped, result_in, version_in}
use Rattle.typed_runs.specs.TypedWorlds.{SlotTyped, WorldTyped, tags_of}
use Rattle.typed_runs.specs.TypedRunLaws.{FitAfter, tree_at}
use Rattle.typed_runs.proofs.Installed.{Transforms}
use Rattle.typed_runs.proofs.Runs.{runs_are_typed, two_parts}
use Rattle.typed_runs.proofs.Stops.{Outcome, either_way, slot_at}
use Rattle.progress_laws.specs.Depths.{DepthsAddUp, SumsTo}
use Rattle.progress_laws.proofs.Runs.{runs_add_up}
use Rattle.returned_ints.specs.ReturnedInts.{IsInt, NewestIsInt, ReturnsAreInts}
use Rattle.typed_journals.specs.TypedJournals.{MainsResultIsAnInt}
use Rattle.typed_journals.proofs.Journals.{all_accepted, journal_ran}

-- the number that main returned, if it did, is one of an int
abbrev IsDue : Option Finish → Type 0
IsDue None = Unit {0}
IsDue (Some (world.Finished r)) = InRange I32 r
IsDue (Some (world.Trapped kind t)) = Unit {0}

abbrev IsIn : World → Type 0
IsIn w = IsDue w.finish

abbrev Kept : Option World → Type 0
Kept = Outcome (Unit {0}) IsIn

-- ---- stops: but for a return each leaves what main returned, or traps

write_global_keeps : (s : Standing) (name : Bytes) (values : List Value) → IsIn s.world → Kept (write_global s name values)
write_global_keeps s name [] h = tt
write_global_keeps s name (v ∷ values) h = h

read_element_keeps : (s : Standing) (name : Bytes) (values : List Value) → IsIn s.world → Kept (read_element s name values)
read_element_keeps s name (Number i ∷ values) h =
    let cells = cells_of s.world name in
    either_way (Unit {0}) IsIn (in_bounds (value_of i) cells)
    (goes_on s s.world (unwrap_or (slice_get cells (unsigned_abs (value_of i))) (int_of 0) ∷ values)) (traps s Index) h tt
read_element_keeps s name [] h = tt
read_element_keeps s name (Reference o ∷ values) h = tt
read_element_keeps s name (Started o ∷ values) h = tt

write_element_keeps : (s : Standing) (name : Bytes) (values : List Value) → IsIn s.world → Kept (write_element s name values)
write_element_keeps s name (v ∷ Number i ∷ values) h =
    let cells = cells_of s.world name in
    either_way (Unit {0}) IsIn (in_bounds (value_of i) cells)
    (goes_on s (with_cells name (slice_set cells (unsigned_abs (value_of i)) v) s.world) (v ∷ values)) (traps s Index) h tt
write_element_keeps s name [] h = tt
write_element_keeps s name (v ∷ []) h = tt
write_element_keeps s name (v ∷ Reference o ∷ values) h = tt
write_element_keeps s name (v ∷ Started o ∷ values) h = tt

on_live_keeps : (s : Standing) (f : Object → Option World) (o : Option Object) → ((x : Object) → Kept (f x)) → Kept (on_live s f o)
on_live_keeps s f None keeps = tt
on_live_keeps s f (Some o) keeps = either_way (Unit {0}) IsIn o.live (f o) (traps s Stale) (keeps o) tt

on_object_keeps : (s : Standing) (o : Option ℕ) (f : ℕ → Object → Option World) → ((n : ℕ) (x : Object) → Kept (f n x))
    → Kept (on_object s o f)
on_object_keeps s None f keeps = tt
on_object_keeps s (Some n) f keeps = on_live_keeps s (f n) (slice_get s.world.objects n) (keeps n)

read_field_keeps : (s : Standing) (field : Bytes) (values : List Value) → IsIn s.world → Kept (read_field s field values)
read_field_keeps s field (Reference o ∷ values) h = on_object_keeps s o _ (λ n x. h)
read_field_keeps s field [] h = tt
read_field_keeps s field (Number i ∷ values) h = tt
read_field_keeps s field (Started o ∷ values) h = tt

write_field_keeps : (s : Standing) (field : Bytes) (values : List Value) → IsIn s.world → Kept (write_field s field values)
write_field_keeps s field (v ∷ Reference o ∷ values) h = on_object_keeps s o _ (λ n x. h)
write_field_keeps s field [] h = tt
write_field_keeps s field (v ∷ []) h = tt
write_field_keeps s field (v ∷ Number i ∷ values) h = tt
write_field_keeps s field (v ∷ Started o ∷ values) h = tt

allocate_keeps : (s : Standing) (tag : Bytes) (values : List Value) → IsIn s.world → Kept (allocate s tag values)
allocate_keeps s tag values h =
    let w = s.world in
    either_way (Unit {0}) IsIn (live_objects w == w.capacity) (goes_on s w (Reference None ∷ values))
    (goes_on s (record w { objects = w.objects ++ new_object w tag ∷ [] }) (Reference (Some (length w.objects)) ∷ values)) h h

release_keeps : (s : Standing) (values : List Value) → IsIn s.world → Kept (release s values)
release_keeps s (Reference None ∷ values) h = h
release_keeps s (Reference (Some n) ∷ values) h = on_live_keeps s _ (slice_get s.world.objects n) (λ o. h)
release_keeps s [] h = tt
release_keeps s (Number i ∷ values) h = tt
release_keeps s (Started o ∷ values) h = tt

initialise_keeps : (s : Standing) (values : List Value) (holder : Option ℕ) → IsIn s.world → Kept (initialise s values holder)
initialise_keeps s values None h = h
initialise_keeps s values (Some slot) h = tt

lock_keeps : (s : Standing) (name : Bytes) (values : List Value) (holder : Option ℕ) → IsIn s.world → Kept (lock s name values holder)
lock_keeps s name values None h = h
lock_keeps s name values (Some slot) h = tt

unlock_keeps : (s : Standing) (name : Bytes) (values : List Value) (holder : Option ℕ) → IsIn s.world
    → Kept (unlock s name values holder)
unlock_keeps s name values None h = tt
unlock_keeps s name values (Some slot) h =
    either_way (Unit {0}) IsIn (slot == s.slot) (goes_on s (released name s.world) (int_of 0 ∷ values)) (traps s NotHeld) h tt

start_keeps : (s : Standing) (enter : Enter) (values : List Value) (place : Option ℕ) → IsIn s.world → Kept (start_in s enter values place)
start_keeps s enter values None h = h
start_keeps s enter values (Some t) h = h

spawn_keeps : (s : Standing) (name : Bytes) (values : List Value) → IsIn s.world → Kept (spawn s name values)
spawn_keeps s name [] h = tt
spawn_keeps s name (v ∷ values) h = start_keeps s _ values (position is_free s.world.slots) h

join_slot_keeps : (s : Standing) (ref : ThreadRef) (values : List Value) (x : Slot) → IsIn s.world → Kept (join_slot s ref values x)
join_slot_keeps s ref values world.Free h = tt
join_slot_keeps s ref values (Live th) h = tt
join_slot_keeps s ref values (Over serial result) h =
    either_way (Unit {0}) IsIn (serial == ref.serial) (goes_on s (with_slot ref.slot world.Free s.world) (result ∷ values))
    (traps s NotJoined) h tt

join_keeps : (s : Standing) (values : List Value) → IsIn s.world → Kept (join s values)
join_keeps s (Started None ∷ values) h = tt
join_keeps s (Started (Some ref) ∷ values) h = join_slot_keeps s ref values (in_slot s.world ref.slot) h
join_keeps s [] h = tt
join_keeps s (Number i ∷ values) h = tt
join_keeps s (Reference o ∷ values) h = tt

begin_keeps : (s : Standing) (depth : ℕ) (th : Thread) → IsIn s.world → Kept (begin_at s depth th)
begin_keeps s zero th h = h
begin_keeps s (suc depth) th h = h

end_keeps : (s : Standing) (depth : ℕ) (th : Thread) → IsIn s.world → Kept (end_at s depth th)
end_keeps s zero th h = tt
end_keeps s (suc zero) th h = h
end_keeps s (suc (suc depth)) th h = h

-- the last frame of a thread returns an int
number_is_in : (v : Value) → IsInt v → InRange I32 (number_of v)
number_is_in (Number n) h = h.1
number_is_in (Reference o) h = absurd h
number_is_in (Started o) h = absurd h

finish_keeps : (s : Standing) (v : Value) (n : ℕ) → IsIn s.world → IsInt v → Kept (finish_thread s v n)
finish_keeps s v zero h is = number_is_in v is
finish_keeps s v (suc n) h is = h

return_to_keeps : (s : Standing) (v : Value) (below : List Frame) → IsIn s.world → (below ≡ [] → IsInt v) → Kept (return_to s v below)
return_to_keeps s v [] h is = finish_keeps s v s.slot h (is refl)
return_to_keeps s v (f ∷ fs) h is = h

return_keeps : (s : Standing) (values : List Value) → IsIn s.world → (s.below ≡ [] → NewestIsInt values) → Kept (return s values)
return_keeps s [] h is = tt
return_keeps s (v ∷ values) h is = return_to_keeps s v s.below h is

perform_keeps : (x : Stop) (s : Standing) (values : List Value) → IsIn s.world → (x ≡ Return → s.below ≡ [] → NewestIsInt values)
    → Kept (perform x s values)
perform_keeps (ReadGlobal name) s values h is = h
perform_keeps (WriteGlobal name) s values h is = write_global_keeps s name values h
perform_keeps (ReadElement name) s values h is = read_element_keeps s name values h
perform_keeps (WriteElement name) s values h is = write_element_keeps s name values h
perform_keeps (ReadField tag field) s values h is = read_field_keeps s field values h
perform_keeps (WriteField tag field) s values h is = write_field_keeps s field values h
perform_keeps (New tag) s values h is = allocate_keeps s tag values h
perform_keeps (Free tag) s values h is = release_keeps s values h
perform_keeps (Print format n) s values h is = h
perform_keeps (InitMutex name) s values h is = initialise_keeps s values (holder_of s.world name) h
perform_keeps (Lock name) s values h is = lock_keeps s name values (holder_of s.world name) h
perform_keeps (Unlock name) s values h is = unlock_keeps s name values (holder_of s.world name) h
perform_keeps (Spawn name) s values h is = spawn_keeps s name values h
perform_keeps Join s values h is = join_keeps s values h
perform_keeps (Call name n) s values h is = h
perform_keeps Return s values h is = return_keeps s values h (is refl)
perform_keeps Back s values h is = h
perform_keeps Begin s values h is = begin_keeps s s.thread.depth (gone_on s values) h
perform_keeps End s values h is = end_keeps s s.thread.depth (gone_on s values) h
perform_keeps Update s values h is = h

-- ---- moves

using_keeps : (w : World) (th : Thread) (n : ℕ) (name : Bytes) (f : Thread → Option World) → IsIn w
    → Kept (f (recorded w.table name th)) → Kept (using w th n name f)
using_keeps w th n name f h keeps =
    either_way (Unit {0}) IsIn (is_right w.table n name) (f (recorded w.table name th)) (Some (marked w)) keeps h

with_use_keeps : (x : Stop) (w : World) (t : ℕ) (th : Thread) (f : Frame) (below : List Frame) (name : Option Bytes) → IsIn w
    → (x ≡ Return → below ≡ [] → NewestIsInt f.values) → Kept (with_use x w t th f below name)
with_use_keeps x w t th f below None h is =
    perform_keeps x (record { world = w; slot = t; thread = th; frame = f; below = below }) f.values h is
with_use_keeps x w t th f below (Some name) h is =
    using_keeps w th f.version name
    (λ user. perform x (record { world = w; slot = t; thread = user; frame = f; below = below }) f.values) h
    (perform_keeps x (record { world = w; slot = t; thread = recorded w.table name th; frame = f; below = below }) f.values h is)

-- where a frame stops at a return, its newest value is an int
abbrev ReturnsInt : Frame → Type 0
ReturnsInt f =
    (n : ℕ) (rest : List Piece) (values : List Value) (scopes : Scopes) → next_of f ≡ Stopped Return n rest values scopes
    → NewestIsInt values

after_keeps : (w : World) (t : ℕ) (th : Thread) (f : Frame) (below : List Frame) (h : Halt) → next_of f ≡ h → IsIn w
    → (below ≡ [] → ReturnsInt f) → Kept (behind w t th f below h)
after_keeps w t th f below (Stopped x n rest values scopes) e h is =
    with_use_keeps x w t th (record f { standing = n; pieces = rest; values = values; scopes = scopes }) below (use_at x) h
    (λ at last. is last n rest values scopes (e ∙ ap (λ y. Stopped y n rest values scopes) at))
after_keeps w t th f below (Trapped kind) e h is = tt
after_keeps w t th f below Nothing e h is = tt

enter_keeps : (w : World) (t : ℕ) (e : Enter) (th : Thread) → IsIn w → Kept (enter_with w t e th)
enter_keeps w t e th h =
    either_way (Unit {0}) IsIn (length th.frames == frame_count)
    (Some (record (with_thread t th w) { finish = Some (world.Trapped Depth t) }))
    (Some (with_thread t (record th { frames = frame_of w e ∷ th.frames; entering = None }) w)) tt h

module _ (ints : ReturnsAreInts) (versions : List (List BareDef)) (w : World) where
  frames_keep : (t : ℕ) (th : Thread) (fs : List Frame) (depth : ℕ) → IsIn w → FramesTyped versions (tags_of w.objects) None fs
      → SumsTo versions fs depth → Kept (in_frames w t th fs)
  frames_keep t th [] depth h typed sums = tt
  frames_keep t th (f ∷ below) depth h typed sums =
      after_keeps w t th f below (next_of f) refl h
      (λ last n rest values scopes e.
      ints (version_in versions f.version) (version_in versions f.version f.function) _ sums.0 f.pieces f.values f.scopes n rest values scopes
      (subst (Below versions (tags_of w.objects) (result_in versions f.version f.function)) last typed.1) sums.3.comes e)

  thread_keeps : (t : ℕ) (th : Thread) (e : Option Enter) → IsIn w → FramesTyped versions (tags_of w.objects) e th.frames
      → SumsTo versions th.frames th.depth → Kept (thread_move w t th e)
  thread_keeps t th None h typed sums = frames_keep t th th.frames th.depth h typed sums
  thread_keeps t th (Some e) h typed sums =
      using_keeps w th e.version e.function (enter_with w t e) h (enter_keeps w t e (recorded w.table e.function th) h)

  slot_keeps : (t : ℕ) (x : Slot) → in_slot w t ≡ x → IsIn w → SlotTyped versions (tags_of w.objects) x → DepthsAddUp versions w
      → Kept (move_of w t x)
  slot_keeps t (Live th) is h typed sums = thread_keeps t th th.entering h typed (sums t th is)
  slot_keeps t world.Free is h typed sums = tt
  slot_keeps t (Over serial v) is h typed sums = tt

  move_keeps : (t : ℕ) → w.finish ≡ None → WorldTyped versions w → DepthsAddUp versions w → Kept (move w t)
  move_keeps t going typed sums =
      either_way (Unit {0}) IsIn (is_over w || must_wait w t) None (move_of w t (in_slot w t)) tt
      (slot_keeps t (in_slot w t) refl (subst IsDue (sym going) tt)
      (slot_at versions (tags_of w.objects) w.slots t (typed.slots going)) sums)

-- a world that isn't over hasn't finished
running : (w : World) → is_over w ≡ false → w.finish ≡ None
running w = by w.misused w.finish
  where
    by : (m : Bool) (f : Option Finish) → (m || is_some f) ≡ false → f ≡ None
    by true f e = cc
    by false None e = refl
    by false (Some f) e = cc

-- nor has one that a move can be made in
before_move : (w after : World) (t : ℕ) → move w t ≡ Some after → is_over w ≡ false
before_move w after t = by (is_over w)
  where
    by : (b : Bool) → (if b || must_wait w t then None else move_of w t (in_slot w t)) ≡ Some after → b ≡ false
    by true e = absurd (none-some after e)
    by false e = refl

-- ---- the last move of a run

-- there is none, or it is after some others
data Last : List SourceMove → Type 0 where
  none : Last []
  after : (ms : List SourceMove) (m : SourceMove) → Last (ms ++ m ∷ [])

last_of : (ms : List SourceMove) → Last ms
last_of [] = none
last_of (m ∷ ms) = by ms (last_of ms)
  where
    by : (ms : List SourceMove) → Last ms → Last (m ∷ ms)
    by _ none = after [] m
    by _ (after ns n) = after (m ∷ ns) n

fit_before : (texts : List Text) (p : List Def) (ms : List SourceMove) (m : SourceMove) → FitAfter texts p (ms ++ m ∷ [])
    → FitAfter texts p ms
fit_before texts p [] m h = tt
fit_before texts p (Move t ∷ ms) m h = fit_before texts p ms m h
fit_before texts p (Install k ∷ ms) m h = (h.0, fit_before texts (tree_at texts k) ms m h.1)

module _ (lexical : DepthIsLexical) (transforms : Transforms) (ints : ReturnsAreInts) (first : Text) (offered : List Text)
    (limits : Limits) (accepted : AreAccepted (first ∷ offered)) where
  abbrev all : List Text
  all = first ∷ offered

  abbrev defs : List (List BareDef)
  defs = definitions_of all

  abbrev start : World
  start = first_world first.definitions limits

  -- one move after others
  step_keeps : (ms : List SourceMove) (m : SourceMove) (w v : World) → run defs ms start ≡ Some w → FitAfter all first.tree.definitions ms
      → step defs m w ≡ Some v → IsIn v
  step_keeps ms (Move t) w v ran fits e =
      subst Kept e
      (move_keeps ints (versions_by defs ms) w t (running w (before_move w v t e))
      (runs_are_typed transforms all limits ms w accepted fits ran) (runs_add_up lexical all limits ms w accepted ran))
  step_keeps ms (Install k) w v ran fits e = by (slice_get defs k) e
    where
      over : (b : Bool) (q : List BareDef) → is_over w ≡ b → (if b then None else Some (installed q w)) ≡ Some v → IsIn v
      over true q going e = absurd (none-some v e)
      over false q going e = subst IsIn (same_Some (installed q w) v e) (subst IsDue (sym (running w going)) tt)

      by : (o : Option (List BareDef)) → install w o ≡ Some v → IsIn v
      by None e = absurd (none-some v e)
      by (Some q) e = over (is_over w) q refl e

  run_keeps : (ms : List SourceMove) (v : World) → run defs ms start ≡ Some v → FitAfter all first.tree.definitions ms → IsIn v
  run_keeps ms v ran fits = by ms (last_of ms) ran fits
    where
      stepped : (ms : List SourceMove) (m : SourceMove) (o : Option World) → run defs ms start ≡ o → FitAfter all first.tree.definitions ms
          → option_and_then (run defs (m ∷ [])) o ≡ Some v → IsIn v
      stepped ms m None ran fits e = absurd (none-some v e)
      stepped ms m (Some w) ran fits e = made (step defs m w) refl e
        where
          made : (o : Option World) → step defs m w ≡ o → option_and_then (run defs []) o ≡ Some v → IsIn v
          made None is e = absurd (none-some v e)
          made (Some u) is e = subst IsIn (same_Some u v e) (step_keeps ms m w u ran fits is)

      by : (ms : List SourceMove) → Last ms → run defs ms start ≡ Some v → FitAfter all first.tree.definitions ms → IsIn v
      by _ none ran fits = subst IsIn (same_Some start v ran) tt
      by _ (after ms m) ran fits =
          stepped ms m (run defs ms start) refl (fit_before all first.tree.definitions ms m fits)
          (sym (two_parts defs ms (m ∷ []) start) ∙ ran)

-- ---- the ending

same_ending : (stuck : Bool) (f : Option Finish) → IsDue f → int_ending (ending_by stuck f) ≡ ending_by stuck f
same_ending stuck (Some (world.Finished r)) h = ap ending.Finished (reduced_same I32 r h)
same_ending stuck (Some (world.Trapped kind t)) h = refl
same_ending true None h = refl
same_ending false None h = refl

pub mains_result_is_an_int : DepthIsLexical → Transforms → ReturnsAreInts → MainsResultIsAnInt
mains_result_is_an_int lexical transforms ints rules setup events g accepted legal =
    let r = journal_ran setup rules events g legal in
    same_ending (is_stuck g) g.world.finish
    (run_keeps lexical transforms ints setup.first (map (λ (o : Offer). o.text) setup.offers) setup.limits (all_accepted setup accepted) r.ms g.world r.ran r.fits)
