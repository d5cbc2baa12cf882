-- Each move keeps what is sustained of a world, and each world that a run of accepted texts comes to is sustained.
use Rattle.std.proofs.Common.{◌≡◌, ℕ, zero, suc, ◌≤◌, ◌==◌, ◌||◌, Bool, true, false, List, [], ◌∷◌, ◌++◌, length, Option, Some, None, is_some, All, refl, sym, ap, subst, ◌∙◌, arith, le_refl, ◌-◌, if◌then◌else◌}
use Rattle.std.specs.Prelude.{slice_get, slice_index_or, replicate}
use Rattle.std.specs.Option.{option_and_then}
use Rattle.std.proofs.lemmas.List.Elements.{All-get_or}
use Rattle.std.proofs.lemmas.Option.{none-some, same_Some, get_or_from_slice_get, slice_get_within}
use Rattle.run_types.specs.declared.trap.TrapKind.TheVariants.{Depth}
use Rattle.c_tree.specs.BareExpr.{Bytes, BareType}
use Rattle.c_tree.specs.BareStmt.{BareStmts}
use Rattle.c_tree.specs.BareDef.{BareBinding, BareDef, Struct, Mutex, Function, Global, Array}
use Rattle.c_semantics.specs.Texts.{definition, result_type}
use Rattle.c_semantics.specs.Changes.{agree, same_interface}
use Rattle.c_semantics.specs.Stops.{Stop}
use Rattle.c_semantics.specs.Pieces.{Halt, Stopped, Trapped, Nothing}
use Rattle.c_semantics.specs.Evaluation.{local}
use Rattle.c_semantics.specs.Values.{Value}
use Rattle.c_semantics.specs.Threads.{Enter, Frame, Thread, entered}
use Rattle.world_laws.proofs.TypedValues.{zero_has_type}
use Rattle.source_model.specs.Versions.{current}
use Rattle.source_model.specs.Worlds.{World, Limits, Slot, Live, Over, Finish, first_world, in_slot, is_over, main_enter, now, with_thread}
use Rattle.source_model.specs.Worlds as world
use Rattle.source_model.specs.Installs.{installed}
use Rattle.source_model.specs.Uses.{is_right, marked, recorded, use_at, using}
use Rattle.source_model.specs.Waits.{must_wait}
use Rattle.source_model.specs.Moves.{behind, enter_with, frame_count, frame_of, in_frames, move, move_of, perform, thread_move, with_use}
use Rattle.source_model.specs.Runs.{SourceMove, run, start}
use Rattle.source_model.specs.JournalLaws.{HasMain}
use Rattle.version_laws.specs.Histories.{last_text, versions_by}
use Rattle.version_laws.proofs.EntersAlike.{enters_alike}
use Rattle.version_laws.proofs.RunHistories.{first_is_of, holds_in_runs, install_is_of}
use Rattle.version_laws.proofs.TableHistories.{last_as_current, one_longer, right_by_texts, text_as_before}
use Rattle.definition_laws.specs.EqualParts.{HaveEqualInterfaces}
use Rattle.definition_laws.proofs.SameDefinitions.{interface_equal_if_same}
use Rattle.world_laws.proofs.Cells.{first_globals, globals_after, mutexes_after, no_mutexes}
use Rattle.world_laws.proofs.Storing.{HaltStores, Newest, asked, PiecesStore}
use Rattle.world_laws.proofs.StoresOn.{halts_well}
use Rattle.world_laws.proofs.Threads.{AllWait, FrameStores, Goes, Returns, SeatStores, SlotStores, SlotsStore, ThreadStores, asked_of, result_in, root_same, root_type, slot_changed, version_in}
use Rattle.world_laws.proofs.TypedBodies.{BodiesStore}
use Rattle.world_laws.proofs.WorldsStore.{AllOf, Ready, Sustained, changed, either_way, perform_kept}

no : false ≡ true → ⊥
no e = cc

-- ---- interfaces

-- functions with the same interface return values of one type
result_now : (o u : Option BareDef) → agree same_interface o u ≡ true → result_type o ≡ result_type u
result_now (Some a) (Some b) h = by a b (interface_equal_if_same a b h)
  where
    of_results : (r q : Option BareType) (n m : Bytes) → r ≡ q
        → (ps qs : List BareBinding) (body code : BareStmts) → result_type (Some (Function r n ps body)) ≡ result_type (Some (Function q m qs code))
    of_results r q n m e ps qs body code = ap (λ x. result_type (Some (Function x n ps body))) e ∙ same q
      where
        same : (q : Option BareType) → result_type (Some (Function q n ps body)) ≡ result_type (Some (Function q m qs code))
        same None = refl
        same (Some t) = refl

    by : (a b : BareDef) → HaveEqualInterfaces a b → result_type (Some a) ≡ result_type (Some b)
    by (Function r n ps body) (Function q m qs code) h = of_results r q n m h.0 ps qs body code
    by (Struct tag members) (Struct other ms) h = refl
    by (Mutex n) (Mutex m) h = refl
    by (Global d) (Global e) h = refl
    by (Array t n k values) (Array u m l vs) h = refl
    by _ _ h = absurd h
result_now (Some a) None h = absurd (no h)
result_now None u h = absurd (no h)

module _ (texts : List (List BareDef)) where
  abbrev Kept : Option World → Type 0
  Kept = AllOf (Sustained texts)

  -- ---- a use, and what follows it

  using_kept : (w : World) (th : Thread) (n : ℕ) (name : Bytes) (f : Thread → Option World) → Sustained texts w
      → (is_right w.table n name ≡ true → Kept (f (recorded w.table name th))) → Kept (using w th n name f)
  using_kept w th n name f h then_do = by (is_right w.table n name) refl
    where
      by : (b : Bool) → is_right w.table n name ≡ b → Kept (if b then f (recorded w.table name th) else Some (marked w))
      by true e = then_do e
      by false e = changed texts w (marked w) h refl refl h.globals h.mutexes h.slots

  -- a thread that moves, with its innermost frame
  record Moving (w : World) (t : ℕ) (th : Thread) (f : Frame) (below : List Frame) : Type 0 where
    world : Sustained texts w
    going : w.finish ≡ None
    known : f.version ≤ length texts
    below_wait : AllWait texts below
    root : Returns texts t (root_type texts (f ∷ below) None)
    entering : th.entering ≡ None

  stop_kept : (x : Stop) (w : World) (t : ℕ) (th : Thread) (f : Frame) (below : List Frame) (used : Option Bytes) → use_at x ≡ used
      → ((user : Thread) → user.entering ≡ None
      → ((name : Bytes) → use_at x ≡ Some name → is_right w.table f.version name ≡ true)
      → Ready texts (record { world = w; slot = t; thread = user; frame = f; below = below }) x f.values)
      → Sustained texts w → th.entering ≡ None → Kept (with_use x w t th f below used)
  stop_kept x w t th f below None is ready h entering =
      perform_kept texts x (record { world = w; slot = t; thread = th; frame = f; below = below }) f.values
      (ready th entering (λ name e. absurd (none-some name (sym is ∙ e))))
  stop_kept x w t th f below (Some name) is ready h entering =
      using_kept w th f.version name
      (λ user. perform x (record { world = w; slot = t; thread = user; frame = f; below = below }) f.values) h (λ right.
      perform_kept texts x (record { world = w; slot = t; thread = recorded w.table name th; frame = f; below = below }) f.values
      (ready (recorded w.table name th) entering
      (λ other e. subst (λ n. is_right w.table f.version n ≡ true) (same_Some name other (sym is ∙ e)) right)))

  after_kept : (w : World) (t : ℕ) (th : Thread) (f : Frame) (below : List Frame) (m : Moving w t th f below) (h : Halt)
      → HaltStores (version_in texts f.version) (result_in texts f.version f.function) h → Kept (behind w t th f below h)
  after_kept w t th f below m (Stopped x n rest values scopes) h =
      let g : Frame = record f { standing = n; pieces = rest; values = values; scopes = scopes } in
      stop_kept x w t th g below (use_at x) refl
      (λ user entering right. record {
        world = m.world;
        going = m.going;
        frame = record { known = m.known; pieces = h.3 };
        fits = h.0;
        newest = h.1;
        serves = h.2;
        below = m.below_wait;
        root = subst (Returns texts t) (root_same texts f g below None None refl refl) m.root;
        entering = entering;
        right = right;
      }) m.world m.entering
  after_kept w t th f below m (Trapped kind) h =
      changed texts w (record w { finish = Some (world.Trapped kind t) }) m.world refl refl m.world.globals m.world.mutexes
      (λ e. absurd (none-some (world.Trapped kind t) (sym e)))
  after_kept w t th f below m Nothing h = tt

  -- ---- an enter

  -- what a function of the newest text has to evaluate
  entered_stores : (n : ℕ) (f : Bytes) (arguments : List Value) → n ≡ length texts → BodiesStore (last_text texts)
      → Goes texts (entered (definition (last_text texts)) f n arguments)
  entered_stores n f arguments is bodies =
      subst (λ m. Goes texts (entered (definition (last_text texts)) f m arguments)) (sym is)
      (record {
        stores = record {
          known = le_refl (length texts);
          pieces = (bodies f, tt, (tt, zero_has_type (result_type (definition (last_text texts) f)), (tt, tt, tt)));
        };
        newest = tt;
      })

  frame_kept : (w : World) (e : Enter) → Sustained texts w → Goes texts (frame_of w e)
  frame_kept w e h =
      subst (Goes texts) (sym (enters_alike (now w) (definition (last_text texts)) (last_as_current texts w.table h.is_of.history) e.function (current w.table) e.arguments))
      (entered_stores (current w.table) e.function e.arguments h.is_of.history.count (subst BodiesStore h.is_of.last h.bodies))

  -- it returns what the function returned in the version that called or spawned it
  enter_returns : (w : World) (t : ℕ) (e : Enter) (frames : List Frame) → Sustained texts w → is_right w.table e.version e.function ≡ true
      → Returns texts t (root_type texts frames (Some e)) → Returns texts t (root_type texts (frame_of w e ∷ frames) None)
  enter_returns w t e [] h right root = subst (Returns texts t) same root
    where
      agreed : agree same_interface (version_in texts e.version e.function) (version_in texts (length texts) e.function) ≡ true
      agreed = sym (right_by_texts texts w.table h.is_of.history e.version e.function) ∙ right

      same : result_in texts e.version e.function ≡ result_in texts (current w.table) e.function
      same =
          result_now (version_in texts e.version e.function) (version_in texts (length texts) e.function) agreed
          ∙ ap (λ n. result_in texts n e.function) (sym h.is_of.history.count)
  enter_returns w t e (f ∷ fs) h right root = subst (Returns texts t) (root_same texts f f fs (Some e) None refl refl) root

  enter_kept : (w : World) (t : ℕ) (e : Enter) (th : Thread) → Sustained texts w → w.finish ≡ None
      → is_right w.table e.version e.function ≡ true → SeatStores texts t th.frames (Some e) → Kept (enter_with w t e th)
  enter_kept w t e th h going right seat =
      either_way (Sustained texts) (length th.frames == frame_count)
      (Some (record (with_thread t th w) { finish = Some (world.Trapped Depth t) }))
      (Some (with_thread t (record th { frames = frame_of w e ∷ th.frames; entering = None }) w))
      (changed texts w _ h refl refl h.globals h.mutexes (λ f. absurd (none-some (world.Trapped Depth t) (sym f))))
      (changed texts w _ h refl refl h.globals h.mutexes
      (λ f. slot_changed texts w.slots t (Live _) (h.slots going)
      (record { stores = (frame_kept w e h, seat.stores.1); returns = enter_returns w t e th.frames h right seat.returns })))

  -- ---- a move

  frames_kept : (w : World) (t : ℕ) (th : Thread) (fs : List Frame) → Sustained texts w → w.finish ≡ None → th.entering ≡ None
      → SeatStores texts t fs None → Kept (in_frames w t th fs)
  frames_kept w t th [] h going entering seat = tt
  frames_kept w t th (f ∷ below) h going entering seat =
      let top = seat.stores.0 in
      after_kept w t th f below
      (record { world = h; going = going; known = top.stores.known; below_wait = seat.stores.1; root = seat.returns; entering = entering })
      (local f.pieces f.values f.scopes)
      (halts_well (version_in texts f.version) (result_in texts f.version f.function) f.pieces top.stores.pieces f.values f.scopes top.newest)

  thread_kept : (w : World) (t : ℕ) (th : Thread) (e : Option Enter) → th.entering ≡ e → Sustained texts w → w.finish ≡ None
      → SeatStores texts t th.frames e → Kept (thread_move w t th e)
  thread_kept w t th None is h going seat = frames_kept w t th th.frames h going is seat
  thread_kept w t th (Some e) is h going seat =
      using_kept w th e.version e.function (enter_with w t e) h
      (λ right. enter_kept w t e (recorded w.table e.function th) h going right seat)

  slot_kept : (w : World) (t : ℕ) (x : Slot) → Sustained texts w → w.finish ≡ None → SlotStores texts t x → Kept (move_of w t x)
  slot_kept w t (Live th) h going seat = thread_kept w t th th.entering refl h going seat
  slot_kept w t world.Free h going seat = tt
  slot_kept w t (Over serial v) h going seat = tt

  move_kept : (w after : World) (t : ℕ) → move w t ≡ Some after → Sustained texts w → Sustained texts after
  move_kept w after t e h = subst Kept e (by (is_over w || must_wait w t) refl)
    where
      first : (m f b : Bool) → (m || f || b) ≡ false → f ≡ false
      first true f b e = cc
      first false true b e = cc
      first false false b e = refl

      ended : (o : Option Finish) → is_some o ≡ false → o ≡ None
      ended None e = refl
      ended (Some f) e = cc

      by : (b : Bool) → (is_over w || must_wait w t) ≡ b → Kept (if b then None else move_of w t (in_slot w t))
      by true is = tt
      by false is =
          let going = ended w.finish (first w.misused (is_some w.finish) (must_wait w t) is) in
          slot_kept w t (in_slot w t) h going ((h.slots going).each t)

-- ---- an install

module _ (texts : List (List BareDef)) (q : List BareDef) where
  abbrev longer : List (List BareDef)
  longer = texts ++ q ∷ []

  still_known : (n : ℕ) → n ≤ length texts → n ≤ length longer
  still_known n h = let e = one_longer texts q in omega (arith, h, e)

  frame_still : (f : Frame) → FrameStores texts f → FrameStores longer f
  frame_still f h = record {
    known = still_known f.version h.known;
    pieces = subst (λ text. PiecesStore (definition text) (result_type (definition text f.function)) f.pieces)
        (sym (text_as_before texts q f.version h.known)) h.pieces;
  }

  asked_still : (f : Frame) → f.version ≤ length texts → asked_of texts f ≡ asked_of longer f
  asked_still f h =
      ap (λ text. asked (definition text) (result_type (definition text f.function)) f.pieces) (sym (text_as_before texts q f.version h))

  wait_still : (fs : List Frame) → AllWait texts fs → AllWait longer fs
  wait_still [] h = tt
  wait_still (f ∷ fs) h = (
    record { stores = frame_still f h.0.stores; unasked = sym (asked_still f h.0.stores.known) ∙ h.0.unasked },
    wait_still fs h.1,
  )

  thread_still : (fs : List Frame) (e : Option Enter) → ThreadStores texts fs e → ThreadStores longer fs e
  thread_still fs (Some e) h = (still_known e.version h.0, wait_still fs h.1)
  thread_still [] None h = tt
  thread_still (f ∷ fs) None h = (
    record {
      stores = frame_still f h.0.stores;
      newest = subst (λ o. Newest o f.values) (asked_still f h.0.stores.known) h.0.newest;
    },
    wait_still fs h.1,
  )

  result_still : (n : ℕ) (f : Bytes) → n ≤ length texts → result_in texts n f ≡ result_in longer n f
  result_still n f h = ap (λ text. result_type (definition text f)) (sym (text_as_before texts q n h))

  root_waiting : (f : Frame) (fs : List Frame) (e : Option Enter) → f.version ≤ length texts → AllWait texts fs
      → root_type texts (f ∷ fs) e ≡ root_type longer (f ∷ fs) e
  root_waiting f [] e known h = result_still f.version f.function known
  root_waiting f (g ∷ gs) e known h = root_waiting g gs e h.0.stores.known h.1

  -- the last frame, or the enter that is due, is of a version so far
  root_still : (fs : List Frame) (e : Option Enter) → ThreadStores texts fs e → root_type texts fs e ≡ root_type longer fs e
  root_still [] None h = refl
  root_still [] (Some e) h = result_still e.version e.function h.0
  root_still (f ∷ fs) None h = root_waiting f fs None h.0.stores.known h.1
  root_still (f ∷ fs) (Some e) h = root_waiting f fs (Some e) h.1.0.stores.known h.1.1

  seat_still : (t : ℕ) (fs : List Frame) (e : Option Enter) → SeatStores texts t fs e → SeatStores longer t fs e
  seat_still t fs e h = record {
    stores = thread_still fs e h.stores;
    returns = by t (subst (Returns texts t) (root_still fs e h.stores) h.returns);
  }
    where
      by : (t : ℕ) → Returns texts t (root_type longer fs e) → Returns longer t (root_type longer fs e)
      by zero h = tt
      by (suc n) h = h

  slot_still : (t : ℕ) (x : Slot) → SlotStores texts t x → SlotStores longer t x
  slot_still t world.Free h = tt
  slot_still t (Live th) h = seat_still t th.frames th.entering h
  slot_still t (Over serial v) h = h

  install_kept : (w : World) → HasMain q → BodiesStore q → Sustained texts w → Sustained longer (installed q w)
  install_kept w main bodies h = record {
    is_of = install_is_of texts w q main h.is_of;
    bodies = bodies;
    globals = globals_after w q h.globals;
    mutexes = mutexes_after w q h.mutexes;
    slots = λ e. record { each = λ t. slot_still t (in_slot w t) ((h.slots e).each t) };
  }

-- ---- runs

-- the first world has the first thread alone
all_free : (n t : ℕ) → slice_index_or (replicate n world.Free) t world.Free ≡ world.Free
all_free zero t = refl
all_free (suc n) zero = refl
all_free (suc n) (suc t) = all_free n t

first_slots : (text : List BareDef) (limits : Limits) → SlotsStore (text ∷ []) (first_world text limits).slots
first_slots text limits = record { each = by }
  where
    by : (t : ℕ) → SlotStores (text ∷ []) t (slice_index_or (first_world text limits).slots t world.Free)
    by zero = record { stores = (omega arith, tt); returns = tt }
    by (suc t) = subst (SlotStores (text ∷ []) (suc t)) (sym (all_free (limits.slots - 1) t)) tt

first_sustained : (text : List BareDef) (limits : Limits) → HasMain text → BodiesStore text → Sustained (text ∷ []) (first_world text limits)
first_sustained text limits main bodies = record {
  is_of = first_is_of text limits main;
  bodies = bodies;
  globals = first_globals text;
  mutexes = no_mutexes text;
  slots = λ e. first_slots text limits;
}

-- each of some texts has a property that it has as one of a list
pub at_number : (P : List BareDef → Type 0) (texts : List (List BareDef)) (k : ℕ) (q : List BareDef) → All P texts → slice_get texts k ≡ Some q → P q
at_number P texts k q all is =
    subst P (get_or_from_slice_get texts k q [] is) (All-get_or P texts k [] (slice_get_within texts k q is) all)

pub runs_sustained : (texts : List (List BareDef)) (limits : Limits) (ms : List SourceMove) (w : World) → All HasMain texts → All BodiesStore texts
    → option_and_then (run texts ms) (start texts limits) ≡ Some w → Sustained (versions_by texts ms) w
runs_sustained texts limits ms w mains bodies e =
    holds_in_runs texts limits Sustained
    (λ text is. first_sustained text limits (at_number HasMain texts 0 text mains is) (at_number BodiesStore texts 0 text bodies is))
    (λ before v after t f h. move_kept before v after t f h)
    (λ before v k q is h. install_kept before q v (at_number HasMain texts k q mains is) (at_number BodiesStore texts k q bodies is) h) ms w e
