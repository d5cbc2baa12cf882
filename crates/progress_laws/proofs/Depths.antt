-- Each move keeps it that a thread is in as many transactions as its frames together.
use Rattle.std.proofs.Common.{◌≡◌, ◌≢◌, ℕ, zero, suc, ◌<◌, ◌+◌, List, [], ◌∷◌, ◌++◌, length, Option, Some, None, refl, sym, ap, subst, ◌∙◌, le_refl, arith}
use Rattle.std.specs.Prelude.{IsTrue, ◌||◌, ◌==◌, position, replicate, slice_get, slice_index_or, slice_set, unwrap_or, unsigned_abs}
use Rattle.run_types.specs.Skeleton.{depth_after}
use Rattle.run_types.specs.Skeleton as point
use Rattle.run_types.specs.declared.trap.TrapKind.{TrapKind}
use Rattle.run_types.specs.declared.trap.TrapKind.TheVariants.{Null, Stale, Index, Depth, Relock, Unlock as NotHeld, MutexHeld, Join as NotJoined}
use Rattle.c_ints.specs.Number.{value_of}
use Rattle.c_tree.specs.BareExpr.{Bytes}
use Rattle.c_tree.specs.BareDef.{BareDef}
use Rattle.c_semantics.specs.Texts.{definition, result_type}
use Rattle.c_semantics.specs.Leaving.{leaves_at_ends}
use Rattle.c_semantics.specs.Resolution.{resolved_body}
use Rattle.c_semantics.specs.Skeletons.{skeleton}
use Rattle.c_semantics.specs.Standing.{stands_at}
use Rattle.c_semantics.specs.SkeletonLaws.{Comes, DepthIsLexical, entered, stopped}
use Rattle.c_semantics.specs.Values.{Value, Number, Reference, Started, ThreadRef, int_of}
use Rattle.c_semantics.specs.Stops.{Stop, ReadGlobal, WriteGlobal, ReadElement, WriteElement, ReadField, WriteField, New, Free, Print, InitMutex, Lock, Unlock, Spawn, Join, Call, Return, Back, Begin, End, Update, kind_of}
use Rattle.c_semantics.specs.Pieces.{Halt, Piece, Scopes, Stopped, Trapped, Nothing}
use Rattle.c_semantics.specs.Threads.{Frame, Enter, Thread, started, next_of}
use Rattle.c_semantics.specs.Threads as threads
use Rattle.source_model.specs.Versions.{current}
use Rattle.source_model.specs.Worlds.{World, Object, Slot, Live, Over, in_slot, with_slot, with_thread, is_over, cells_of, with_cells, live_objects, now, released}
use Rattle.source_model.specs.Worlds as world
use Rattle.source_model.specs.Uses.{using, use_at, is_right, recorded, marked}
use Rattle.source_model.specs.Waits.{must_wait}
use Rattle.source_model.specs.Moves.{Standing, on_live, on_object, read_element, write_element, read_field, write_field, allocate, release, initialise, lock, unlock, start_in, spawn, join_slot, join, finish_thread, return_to, return, begin_at, end_at, write_global, perform, with_use, behind, enter_with, in_frames, thread_move, move_of, move, goes_on, gone_on, traps, is_free, in_bounds, new_object, frame_count, frame_of}
use Rattle.version_laws.specs.Histories.{last_text, text_in}
use Rattle.version_laws.proofs.EntersAlike.{enters_alike}
use Rattle.version_laws.proofs.RunHistories.{IsOf}
use Rattle.version_laws.proofs.TableHistories.{last_as_current, one_longer, text_as_before}
use Rattle.frame_bodies.proofs.Shapes.{each_depth_follows}
use Rattle.typed_runs.specs.TypedFrames.{result_in}
use Rattle.typed_runs.proofs.Stops.{Outcome, either_way}
use Rattle.progress_laws.specs.Depths.{ComesIn, SumsTo, body_in}

-- the bodies of a text leave transactions at their ends
abbrev pub BodiesLeave : List BareDef → Type 0
BodiesLeave text = let look = definition text in (f : Bytes) → IsTrue (leaves_at_ends (resolved_body look (look f)))

module _ (texts : List (List BareDef)) where
  abbrev Nothing_is : Type 0
  Nothing_is = Unit {0}

  -- of a slot, of slots and of a world
  abbrev pub SlotSums : Slot → Type 0
  SlotSums (Live th) = SumsTo texts th.frames th.depth
  SlotSums world.Free = Unit {0}
  SlotSums (Over serial result) = Unit {0}

  abbrev pub AllIn : List Slot → Type 0
  AllIn [] = Unit {0}
  AllIn (x ∷ xs) = SlotSums x × AllIn xs

  abbrev Sound : World → Type 0
  Sound w = AllIn w.slots

  abbrev Kept : Option World → Type 0
  Kept = Outcome Nothing_is Sound

  set_keeps : (xs : List Slot) (t : ℕ) (x : Slot) → AllIn xs → SlotSums x → AllIn (slice_set xs t x)
  set_keeps [] t x all here = tt
  set_keeps (y ∷ ys) zero x (first, rest) here = (here, rest)
  set_keeps (y ∷ ys) (suc t) x (first, rest) here = (first, set_keeps ys t x rest here)

  pub in_of : (xs : List Slot) (t : ℕ) → AllIn xs → SlotSums (slice_index_or xs t world.Free)
  in_of [] t all = tt
  in_of (x ∷ xs) zero (first, rest) = first
  in_of (x ∷ xs) (suc t) (first, rest) = in_of xs t rest

  -- other values say nothing
  with_values : (own : ℕ) (f : Frame) (values : List Value) → ComesIn texts own f → ComesIn texts own (record f { values = values })
  with_values own f values c = record { known = c.known; comes = c.comes }

  -- what is known before a stop other than of a transaction or a return
  record Ready (s : Standing) : Type 0 where
    all : AllIn s.world.slots
    own : ℕ
    lower : ℕ
    total : s.thread.depth ≡ own + lower
    top : ComesIn texts own s.frame
    below : SumsTo texts s.below lower

  goes_in : (s : Standing) (slots : List Slot) (values : List Value) → Ready s → AllIn slots
      → AllIn (slice_set slots s.slot (Live (gone_on s values)))
  goes_in s slots values r all =
      set_keeps slots s.slot (Live (gone_on s values)) all (r.own, r.lower, r.total, with_values r.own s.frame values r.top, r.below)

  goes : (s : Standing) (values : List Value) → Ready s → AllIn (slice_set s.world.slots s.slot (Live (gone_on s values)))
  goes s values r = goes_in s s.world.slots values r r.all

  trapped : (s : Standing) (kind : TrapKind) → Ready s → Kept (traps s kind)
  trapped s kind r = goes s s.frame.values r

  write_global_keeps : (s : Standing) (name : Bytes) (values : List Value) → Ready s
      → Kept (write_global s name values)
  write_global_keeps s name [] r = tt
  write_global_keeps s name (v ∷ values) r = goes s (v ∷ values) r

  read_element_keeps : (s : Standing) (name : Bytes) (values : List Value) → Ready s
      → Kept (read_element s name values)
  read_element_keeps s name (Number i ∷ values) r =
      let cells = cells_of s.world name in
      either_way Nothing_is Sound (in_bounds (value_of i) cells)
      (goes_on s s.world (unwrap_or (slice_get cells (unsigned_abs (value_of i))) (int_of 0) ∷ values)) (traps s Index)
      (goes s _ r) (trapped s Index r)
  read_element_keeps s name [] r = tt
  read_element_keeps s name (Reference o ∷ values) r = tt
  read_element_keeps s name (Started o ∷ values) r = tt

  write_element_keeps : (s : Standing) (name : Bytes) (values : List Value) → Ready s
      → Kept (write_element s name values)
  write_element_keeps s name (v ∷ Number i ∷ values) r =
      let cells = cells_of s.world name in
      either_way Nothing_is Sound (in_bounds (value_of i) cells)
      (goes_on s (with_cells name (slice_set cells (unsigned_abs (value_of i)) v) s.world) (v ∷ values)) (traps s Index)
      (goes s _ r) (trapped s Index r)
  write_element_keeps s name [] r = tt
  write_element_keeps s name (v ∷ []) r = tt
  write_element_keeps s name (v ∷ Reference o ∷ values) r = tt
  write_element_keeps s name (v ∷ Started o ∷ values) r = tt

  on_live_keeps : (s : Standing) (f : Object → Option World) (o : Option Object) → Ready s
      → ((x : Object) → Kept (f x)) → Kept (on_live s f o)
  on_live_keeps s f None r keeps = trapped s Stale r
  on_live_keeps s f (Some o) r keeps = either_way Nothing_is Sound o.live (f o) (traps s Stale) (keeps o) (trapped s Stale r)

  on_object_keeps : (s : Standing) (o : Option ℕ) (f : ℕ → Object → Option World) → Ready s
      → ((n : ℕ) (x : Object) → Kept (f n x)) → Kept (on_object s o f)
  on_object_keeps s None f r keeps = trapped s Null r
  on_object_keeps s (Some n) f r keeps = on_live_keeps s (f n) (slice_get s.world.objects n) r (keeps n)

  read_field_keeps : (s : Standing) (field : Bytes) (values : List Value) → Ready s
      → Kept (read_field s field values)
  read_field_keeps s field (Reference o ∷ values) r = on_object_keeps s o _ r (λ n x. goes s _ r)
  read_field_keeps s field [] r = tt
  read_field_keeps s field (Number i ∷ values) r = tt
  read_field_keeps s field (Started o ∷ values) r = tt

  write_field_keeps : (s : Standing) (field : Bytes) (values : List Value) → Ready s
      → Kept (write_field s field values)
  write_field_keeps s field (v ∷ Reference o ∷ values) r = on_object_keeps s o _ r (λ n x. goes s _ r)
  write_field_keeps s field [] r = tt
  write_field_keeps s field (v ∷ []) r = tt
  write_field_keeps s field (v ∷ Number i ∷ values) r = tt
  write_field_keeps s field (v ∷ Started o ∷ values) r = tt

  allocate_keeps : (s : Standing) (tag : Bytes) (values : List Value) → Ready s → Kept (allocate s tag values)
  allocate_keeps s tag values r =
      let w = s.world in
      either_way Nothing_is Sound (live_objects w == w.capacity) (goes_on s w (Reference None ∷ values))
      (goes_on s (record w { objects = w.objects ++ new_object w tag ∷ [] }) (Reference (Some (length w.objects)) ∷ values))
      (goes s _ r) (goes s _ r)

  release_keeps : (s : Standing) (values : List Value) → Ready s → Kept (release s values)
  release_keeps s (Reference None ∷ values) r = goes s _ r
  release_keeps s (Reference (Some n) ∷ values) r =
      on_live_keeps s _ (slice_get s.world.objects n) r (λ o. goes s _ r)
  release_keeps s [] r = tt
  release_keeps s (Number i ∷ values) r = tt
  release_keeps s (Started o ∷ values) r = tt

  initialise_keeps : (s : Standing) (values : List Value) (holder : Option ℕ) → Ready s
      → Kept (initialise s values holder)
  initialise_keeps s values None r = goes s _ r
  initialise_keeps s values (Some slot) r = trapped s MutexHeld r

  lock_keeps : (s : Standing) (name : Bytes) (values : List Value) (holder : Option ℕ) → Ready s
      → Kept (lock s name values holder)
  lock_keeps s name values None r = goes s _ r
  lock_keeps s name values (Some slot) r = trapped s Relock r

  unlock_keeps : (s : Standing) (name : Bytes) (values : List Value) (holder : Option ℕ) → Ready s
      → Kept (unlock s name values holder)
  unlock_keeps s name values None r = trapped s NotHeld r
  unlock_keeps s name values (Some slot) r =
      either_way Nothing_is Sound (slot == s.slot) (goes_on s (released name s.world) (int_of 0 ∷ values)) (traps s NotHeld)
      (goes s _ r) (trapped s NotHeld r)

  start_keeps : (s : Standing) (enter : Enter) (values : List Value) (place : Option ℕ) → Ready s
      → Kept (start_in s enter values place)
  start_keeps s enter values None r = goes s _ r
  start_keeps s enter values (Some t) r = goes_in s (slice_set s.world.slots t (Live (started s.world.threads enter))) _ r (set_keeps s.world.slots t (Live (started s.world.threads enter)) r.all refl)

  spawn_keeps : (s : Standing) (name : Bytes) (values : List Value) → Ready s → Kept (spawn s name values)
  spawn_keeps s name [] r = tt
  spawn_keeps s name (v ∷ values) r = start_keeps s _ values (position is_free s.world.slots) r

  join_slot_keeps : (s : Standing) (ref : ThreadRef) (values : List Value) (x : Slot) → Ready s
      → Kept (join_slot s ref values x)
  join_slot_keeps s ref values world.Free r = trapped s NotJoined r
  join_slot_keeps s ref values (Live th) r = trapped s NotJoined r
  join_slot_keeps s ref values (Over serial result) r =
      either_way Nothing_is Sound (serial == ref.serial)
      (goes_on s (with_slot ref.slot world.Free s.world) (result ∷ values)) (traps s NotJoined)
      (goes_in s (slice_set s.world.slots ref.slot world.Free) _ r (set_keeps s.world.slots ref.slot world.Free r.all tt)) (trapped s NotJoined r)

  join_keeps : (s : Standing) (values : List Value) → Ready s → Kept (join s values)
  join_keeps s (Started None ∷ values) r = trapped s NotJoined r
  join_keeps s (Started (Some ref) ∷ values) r = join_slot_keeps s ref values (in_slot s.world ref.slot) r
  join_keeps s [] r = tt
  join_keeps s (Number i ∷ values) r = tt
  join_keeps s (Reference o ∷ values) r = tt

  -- ---- returns and transactions

  finish_keeps : (s : Standing) (v : Value) (n : ℕ) → AllIn s.world.slots → Kept (finish_thread s v n)
  finish_keeps s v zero all = all
  finish_keeps s v (suc n) all = set_keeps s.world.slots s.slot (Over s.thread.serial v) all tt

  return_to_keeps : (s : Standing) (v : Value) (below : List Frame) → AllIn s.world.slots → SumsTo texts below s.thread.depth
      → Kept (return_to s v below)
  return_to_keeps s v [] all sums = finish_keeps s v s.slot all
  return_to_keeps s v (f ∷ fs) all sums =
      set_keeps s.world.slots s.slot (Live (record s.thread { frames = record f { values = v ∷ f.values } ∷ fs })) all
      (sums.0, sums.1, sums.2, with_values sums.0 f (v ∷ f.values) sums.3, sums.4)

  return_keeps : (s : Standing) (values : List Value) → AllIn s.world.slots → SumsTo texts s.below s.thread.depth → Kept (return s values)
  return_keeps s [] all sums = tt
  return_keeps s (v ∷ values) all sums = return_to_keeps s v s.below all sums

  begin_keeps : (s : Standing) (values : List Value) (depth own lower : ℕ) → depth ≡ own + lower → AllIn s.world.slots
      → ComesIn texts (suc own) s.frame → SumsTo texts s.below lower → Kept (begin_at s depth (gone_on s values))
  begin_keeps s values zero own lower total all top below =
      set_keeps s.world.slots s.slot _ all (suc own, lower, omega (arith, total), with_values (suc own) s.frame values top, below)
  begin_keeps s values (suc depth) own lower total all top below =
      set_keeps s.world.slots s.slot _ all (suc own, lower, omega (arith, total), with_values (suc own) s.frame values top, below)

  end_keeps : (s : Standing) (values : List Value) (depth own lower : ℕ) → depth ≡ suc own + lower → AllIn s.world.slots
      → ComesIn texts own s.frame → SumsTo texts s.below lower → Kept (end_at s depth (gone_on s values))
  end_keeps s values zero own lower total all top below = tt
  end_keeps s values (suc zero) own lower total all top below =
      set_keeps s.world.slots s.slot _ all (own, lower, omega (arith, total), with_values own s.frame values top, below)
  end_keeps s values (suc (suc depth)) own lower total all top below =
      set_keeps s.world.slots s.slot _ all (own, lower, omega (arith, total), with_values own s.frame values top, below)

  -- ---- each stop

  -- what is known of a stop: the transactions of its frame before it, and of the frames below
  record AtStop (x : Stop) (s : Standing) : Type 0 where
    all : AllIn s.world.slots
    own : ℕ
    lower : ℕ
    total : s.thread.depth ≡ own + lower
    top : x ≢ Return → ComesIn texts (depth_after (kind_of x) own) s.frame
    below : SumsTo texts s.below lower
    ends : x ≡ End → 0 < own
    returns : x ≡ Return → own ≡ 0

  ready : (x : Stop) (s : Standing) (a : AtStop x s) → x ≢ Return → depth_after (kind_of x) a.own ≡ a.own → Ready s
  ready x s a other same = record {
    all = a.all;
    own = a.own;
    lower = a.lower;
    total = a.total;
    top = subst (λ n. ComesIn texts n s.frame) same (a.top other);
    below = a.below;
  }

  -- the transactions below are all of a frame that returns
  rest_sums : (x : Stop) (s : Standing) (a : AtStop x s) → x ≡ Return → SumsTo texts s.below s.thread.depth
  rest_sums x s a is =
      let none = a.returns is in
      let total = a.total in
      subst (SumsTo texts s.below) (omega (arith, none, total)) a.below

  one_less : (s : Standing) (a : AtStop End s) → (own : ℕ) × (a.own ≡ suc own)
  one_less s a = by a.own (a.ends refl)
    where
      by : (n : ℕ) → 0 < n → (own : ℕ) × (n ≡ suc own)
      by zero h = absurd (omega (arith, h))
      by (suc n) h = (n, refl)

  perform_keeps : (x : Stop) (s : Standing) (values : List Value) → AtStop x s → Kept (perform x s values)
  perform_keeps (ReadGlobal name) s values a =
      goes s _ (ready _ s a (λ e. cc) refl)
  perform_keeps (WriteGlobal name) s values a =
      write_global_keeps s name values (ready _ s a (λ e. cc) refl)
  perform_keeps (ReadElement name) s values a =
      read_element_keeps s name values (ready _ s a (λ e. cc) refl)
  perform_keeps (WriteElement name) s values a =
      write_element_keeps s name values (ready _ s a (λ e. cc) refl)
  perform_keeps (ReadField tag field) s values a =
      read_field_keeps s field values (ready _ s a (λ e. cc) refl)
  perform_keeps (WriteField tag field) s values a =
      write_field_keeps s field values (ready _ s a (λ e. cc) refl)
  perform_keeps (New tag) s values a =
      allocate_keeps s tag values (ready _ s a (λ e. cc) refl)
  perform_keeps (Free tag) s values a =
      release_keeps s values (ready _ s a (λ e. cc) refl)
  perform_keeps (Print format n) s values a =
      goes s _ (ready _ s a (λ e. cc) refl)
  perform_keeps (InitMutex name) s values a =
      initialise_keeps s values _ (ready _ s a (λ e. cc) refl)
  perform_keeps (Lock name) s values a =
      lock_keeps s name values _ (ready _ s a (λ e. cc) refl)
  perform_keeps (Unlock name) s values a =
      unlock_keeps s name values _ (ready _ s a (λ e. cc) refl)
  perform_keeps (Spawn name) s values a =
      spawn_keeps s name values (ready _ s a (λ e. cc) refl)
  perform_keeps Join s values a =
      join_keeps s values (ready _ s a (λ e. cc) refl)
  perform_keeps (Call name n) s values a =
      let r = ready (Call name n) s a (λ e. cc) refl in
      set_keeps s.world.slots s.slot _ r.all (r.own, r.lower, r.total, with_values r.own s.frame _ r.top, r.below)
  perform_keeps Return s values a =
      return_keeps s values a.all (rest_sums Return s a refl)
  perform_keeps Back s values a =
      goes s _ (ready _ s a (λ e. cc) refl)
  perform_keeps Begin s values a =
      begin_keeps s values s.thread.depth a.own a.lower a.total a.all (a.top (λ e. cc)) a.below
  perform_keeps End s values a =
      let less = one_less s a in
      end_keeps s values s.thread.depth less.0 a.lower (a.total ∙ ap (λ n. n + a.lower) less.1) a.all
      (subst (λ n. ComesIn texts n s.frame) (ap (depth_after point.End) less.1) (a.top (λ e. cc))) a.below
  perform_keeps Update s values a =
      goes s _ (ready _ s a (λ e. cc) refl)

  -- ---- moves

  using_keeps : (w : World) (th : Thread) (n : ℕ) (name : Bytes) (f : Thread → Option World) → AllIn w.slots
      → Kept (f (recorded w.table name th)) → Kept (using w th n name f)
  using_keeps w th n name f all keeps =
      either_way Nothing_is Sound (is_right w.table n name) (f (recorded w.table name th)) (Some (marked w)) keeps all

  with_use_keeps : (x : Stop) (w : World) (t : ℕ) (th : Thread) (f : Frame) (below : List Frame) (name : Option Bytes)
      → AllIn w.slots
      → ((user : Thread) → user.depth ≡ th.depth → AtStop x (record { world = w; slot = t; thread = user; frame = f; below = below }))
      → Kept (with_use x w t th f below name)
  with_use_keeps x w t th f below None all at =
      perform_keeps x (record { world = w; slot = t; thread = th; frame = f; below = below }) f.values (at th refl)
  with_use_keeps x w t th f below (Some name) all at =
      using_keeps w th f.version name
      (λ user. perform x (record { world = w; slot = t; thread = user; frame = f; below = below }) f.values) all
      (perform_keeps x (record { world = w; slot = t; thread = recorded w.table name th; frame = f; below = below }) f.values
      (at (recorded w.table name th) refl))

  module _ (lexical : DepthIsLexical) (bodies : (n : ℕ) → BodiesLeave (text_in texts n)) where
    -- where a frame stops, the transactions that it is in are those that enclose the point
    pub ends_in_one : (f : Frame) (own : ℕ) (x : Stop) (n : ℕ) (rest : List Piece) (values : List Value) (scopes : Scopes)
        → ComesIn texts own f → next_of f ≡ Stopped x n rest values scopes → (x ≡ End → 0 < own) × (x ≡ Return → own ≡ 0)
    ends_in_one f own x n rest values scopes c e =
        let leaves = bodies f.version f.function in
        let at = lexical (body_in texts f) (result_in texts f.version f.function) _ own f.pieces f.values f.scopes x n rest values scopes leaves c.comes e in
        (λ is. (each_depth_follows (body_in texts f) leaves).ends n (record { kind = kind_of x; depth = own }) at.0 (ap kind_of is), at.1)

    after_keeps : (w : World) (t : ℕ) (th : Thread) (f : Frame) (below : List Frame) (h : Halt) → next_of f ≡ h
        → AllIn w.slots → SumsTo texts (f ∷ below) th.depth → Kept (behind w t th f below h)
    after_keeps w t th f below (Stopped x n rest values scopes) e all sums =
        let known = ends_in_one f sums.0 x n rest values scopes sums.3 e in
        with_use_keeps x w t th (record f { standing = n; pieces = rest; values = values; scopes = scopes }) below (use_at x) all
        (λ user same. record {
          all = all;
          own = sums.0;
          lower = sums.1;
          total = same ∙ sums.2;
          top = λ other. record {
            known = sums.3.known;
            comes = stopped _ sums.0 f.pieces f.values f.scopes x n rest values scopes sums.3.comes other e;
          };
          below = sums.4;
          ends = known.0;
          returns = known.1;
        })
    after_keeps w t th f below (Trapped kind) e all sums = all
    after_keeps w t th f below Nothing e all sums = tt

    frame_comes : (w : World) (e : Enter) → IsOf texts w → ComesIn texts 0 (frame_of w e)
    frame_comes w e of =
        subst (ComesIn texts 0)
        (sym (enters_alike (now w) (definition (last_text texts)) (last_as_current texts w.table of.history) e.function (current w.table) e.arguments))
        (subst (λ n. ComesIn texts 0 (threads.entered (definition (last_text texts)) e.function n e.arguments)) (sym of.history.count)
        (record { known = le_refl (length texts); comes = entered }))

    enter_keeps : (w : World) (t : ℕ) (e : Enter) (th : Thread) → IsOf texts w → AllIn w.slots → SumsTo texts th.frames th.depth
        → Kept (enter_with w t e th)
    enter_keeps w t e th of all sums =
        either_way Nothing_is Sound (length th.frames == frame_count)
        (Some (record (with_thread t th w) { finish = Some (world.Trapped Depth t) }))
        (Some (with_thread t (record th { frames = frame_of w e ∷ th.frames; entering = None }) w))
        (set_keeps w.slots t (Live th) all sums)
        (set_keeps w.slots t (Live (record th { frames = frame_of w e ∷ th.frames; entering = None })) all
        (0, th.depth, omega arith, frame_comes w e of, sums))

    frames_keep : (w : World) (t : ℕ) (th : Thread) (fs : List Frame) → AllIn w.slots → SumsTo texts fs th.depth
        → Kept (in_frames w t th fs)
    frames_keep w t th [] all sums = tt
    frames_keep w t th (f ∷ fs) all sums = after_keeps w t th f fs (next_of f) refl all sums

    thread_keeps : (w : World) (t : ℕ) (th : Thread) (e : Option Enter) → IsOf texts w → AllIn w.slots → SumsTo texts th.frames th.depth
        → Kept (thread_move w t th e)
    thread_keeps w t th None of all sums = frames_keep w t th th.frames all sums
    thread_keeps w t th (Some e) of all sums =
        using_keeps w th e.version e.function (enter_with w t e) all (enter_keeps w t e (recorded w.table e.function th) of all sums)

    slot_keeps : (w : World) (t : ℕ) (x : Slot) → IsOf texts w → AllIn w.slots → SlotSums x → Kept (move_of w t x)
    slot_keeps w t (Live th) of all sums = thread_keeps w t th th.entering of all sums
    slot_keeps w t world.Free of all sums = tt
    slot_keeps w t (Over serial result) of all sums = tt

    pub move_sound : (w : World) (t : ℕ) → IsOf texts w → AllIn w.slots → Outcome (Unit {0}) (λ after. AllIn after.slots) (move w t)
    move_sound w t of all =
        either_way Nothing_is Sound (is_over w || must_wait w t) None (move_of w t (in_slot w t)) tt
        (slot_keeps w t (in_slot w t) of all (in_of w.slots t all))

-- ---- an install leaves the older versions

module _ (texts : List (List BareDef)) (q : List BareDef) where
  abbrev longer : List (List BareDef)
  longer = texts ++ q ∷ []

  frame_still : (own : ℕ) (f : Frame) → ComesIn texts own f → ComesIn longer own f
  frame_still own f c = record {
    known = let e = one_longer texts q in let h = c.known in omega (arith, h, e);
    comes = subst P (sym (text_as_before texts q f.version c.known)) c.comes;
  }
    where
      P : List BareDef → Type 0
      P text =
          let look = definition text in
          Comes (resolved_body look (look f.function)) (result_type (look f.function))
          (stands_at (skeleton (resolved_body look (look f.function))) None f) own f.pieces

  frames_still : (fs : List Frame) (n : ℕ) → SumsTo texts fs n → SumsTo longer fs n
  frames_still [] n h = h
  frames_still (f ∷ fs) n h = (h.0, h.1, h.2, frame_still h.0 f h.3, frames_still fs h.1 h.4)

  slot_still : (x : Slot) → SlotSums texts x → SlotSums longer x
  slot_still (Live th) h = frames_still th.frames th.depth h
  slot_still world.Free h = tt
  slot_still (Over serial v) h = tt

  pub slots_still : (xs : List Slot) → AllIn texts xs → AllIn longer xs
  slots_still [] h = tt
  slots_still (x ∷ xs) h = (slot_still x h.0, slots_still xs h.1)

-- at the start there is no frame
pub free_sound : (texts : List (List BareDef)) (n : ℕ) → AllIn texts (replicate n world.Free)
free_sound texts zero = tt
free_sound texts (suc n) = (tt, free_sound texts n)
