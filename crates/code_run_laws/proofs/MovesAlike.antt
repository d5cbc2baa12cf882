-- Each move of code is that of the source machine.
use Rattle.std.proofs.Common.{◌≡◌, ℕ, Bool, true, false, List, [], ◌∷◌, Option, Some, None, refl, sym, ap, ap₂, subst, ◌∙◌, if◌then◌else◌}
use Rattle.std.proofs.lemmas.Option.{none-some, same_Some}
use Rattle.run_types.specs.declared.trap.TrapKind.{TrapKind}
use Rattle.c_tree.specs.BareExpr.{Bytes}
use Rattle.c_tree.specs.BareDef.{BareDef}
use Rattle.c_semantics.specs.Texts.{definition}
use Rattle.c_semantics.specs.Stops.{Stop}
use Rattle.c_semantics.specs.Values.{Value}
use Rattle.c_semantics.specs.Pieces.{Halt, Piece, Scopes, Stopped, Trapped, Nothing}
use Rattle.c_semantics.specs.Threads.{Enter, Frame, Thread, next_of}
use Rattle.source_model.specs.Worlds.{World, Slot, Live, in_slot, is_over}
use Rattle.source_model.specs.Worlds as world
use Rattle.source_model.specs.Uses.{is_right, marked, recorded, use_at, using}
use Rattle.source_model.specs.Waits.{at_stop, waits_after, waits_in_frames, waits_in_thread}
use Rattle.source_model.specs.Moves.{Standing, behind, enter_with, in_frames, perform, thread_move, with_use}
use Rattle.version_laws.specs.Histories.{last_text}
use Rattle.version_laws.proofs.TableHistories.{right_by_texts}
use Rattle.typed_runs.specs.TypedFrames.{Below, FramesTyped, result_in, version_in}
use Rattle.typed_runs.specs.TypedWorlds.{tags_of}
use Rattle.typed_runs.proofs.SameUses.{SameUse, same_use}
use Rattle.bytecode.specs.Words.{Naming}
use Rattle.bytecode.specs.Meaning.{step, Traps}
use Rattle.tree_code.specs.Code.{Code}
use Rattle.tree_code.specs.CodedPieces.{Stops}
use Rattle.code_runs.specs.CodeData.{Names}
use Rattle.code_runs.specs.CodeThreads.{CodeEnter, CodeFrame, CodeNext, CodeThread, CodeWorld, Enters, Live as CodeLive, Rests}
use Rattle.code_runs.specs.CodeMoves.{At as CodeAt, Moves, StopMade, code_in, enters, frame_code, overflows, stops, trapped, traps}
use Rattle.code_runs.specs.CodeWaits.{WaitsNext}
use Rattle.code_runs.specs.CodeWaits as code_waits
use Rattle.code_run_laws.specs.MoveLaws.{IsCoded}
use Rattle.code_run_laws.specs.ThreadMatches.{BelowMatch, EnterMatches, IsSame, NextMatches, RestsSo, ThreadMatches}
use Rattle.code_run_laws.specs.WorldMatches.{WorldMatches}
use Rattle.code_run_laws.proofs.SharedAlike.{IsSameNow, SharedStopsAlike}
use Rattle.code_run_laws.proofs.OneEnd.{one_point, one_trap, rests_at, rests_no_trap}
use Rattle.code_run_laws.proofs.Between.{begun, ended}
use Rattle.code_run_laws.proofs.ThreadAtStop.{KnownLaws, MadeAlike, Running, silent}
use Rattle.code_run_laws.proofs.StopsAlike.{stop_alike}
use Rattle.code_run_laws.proofs.WaitsAlike.{next_waits}
use Rattle.code_run_laws.proofs.CodeEnters.{entered_alike, overflows_alike}

no : true ≡ false → ⊥
no e = cc

-- a move that happens misuses nothing
abbrev pub IsWell : Option World → Type 0
IsWell made = (after : World) → made ≡ Some after → after.misused ≡ false

module _ (laws : KnownLaws) (shared : SharedStopsAlike) (texts : List (List BareDef)) (names : Names) (w : World) (own : CodeWorld)
    (r : Running texts names w own) where
  abbrev tags : List Bytes
  tags = tags_of w.objects

  abbrev naming : Naming
  naming = r.matches.naming

  abbrev Alike : Option World → CodeWorld → List ℕ → Type 0
  Alike = MadeAlike texts names w

  -- a use that misuses nothing is one of a name as it is now
  using_alike : (th : Thread) (n : ℕ) (name : Bytes) (f : Thread → Option World) (new : CodeWorld) (printed : List ℕ) → IsWell (using w th n name f)
      → (SameUse (version_in texts n name) (definition (last_text texts) name) → Alike (f (recorded w.table name th)) new printed)
      → Alike (using w th n name f) new printed
  using_alike th n name f new printed well then_do = by (is_right w.table n name) refl well
    where
      by : (b : Bool) → is_right w.table n name ≡ b → IsWell (if b then f (recorded w.table name th) else Some (marked w))
          → Alike (if b then f (recorded w.table name th) else Some (marked w)) new printed
      by true e well = then_do (same_use _ _ (sym (right_by_texts texts w.table r.of.history n name) ∙ e))
      by false e well = absurd (no (well (marked w) refl))

  module _ (t : ℕ) (th : Thread) (own_th : CodeThread) (serial : own_th.serial ≡ th.serial) (depth : own_th.depth ≡ th.depth)
      (there : code_waits.in_slot own t ≡ CodeLive own_th) (new : CodeWorld) (printed : List ℕ) where
    -- ---- an enter

    -- what an enter of code is due to
    enter_due : (due : CodeEnter) (o : Option Enter) → NextMatches texts tags naming o th.frames (Enters due) own_th.below → IsWell (thread_move w t th o)
        → ((e : Enter) (user : Thread) → user.serial ≡ th.serial → user.depth ≡ th.depth → user.frames ≡ th.frames
        → EnterMatches texts tags naming e due
        → BelowMatch texts tags naming (result_in texts e.version e.function) user.frames own_th.below
        → SameUse (version_in texts e.version e.function) (definition (last_text texts) e.function) → Alike (enter_with w t e user) new printed)
        → Alike (thread_move w t th o) new printed
    enter_due due (Some e) m well then_do =
        using_alike th e.version e.function (enter_with w t e) new printed well
        (λ same. then_do e (recorded w.table e.function th) refl refl refl m.0 m.1 same)
    enter_due due None m well then_do = by th.frames m
      where
        by : (fs : List Frame) → NextMatches texts tags naming None fs (Enters due) own_th.below → Alike (in_frames w t th th.frames) new printed
        by [] m = absurd m
        by (f ∷ fs) m = absurd m

    -- ---- the innermost frame

    rest_of : (own_f : CodeFrame) (o : Option Enter) → th.entering ≡ o → NextMatches texts tags naming o th.frames (Rests own_f) own_th.below
        → FramesTyped texts tags o th.frames → waits_in_thread o th.frames w t ≡ None → IsWell (thread_move w t th o)
        → ((f : Frame) (below : List Frame) → th.entering ≡ None → IsSame texts tags naming f own_f
        → RestsSo (code_in texts f.version f.function) (version_in texts f.version) (result_in texts f.version f.function) tags naming (next_of f)
        own_f.state
        → BelowMatch texts tags naming (result_in texts f.version f.function) below own_th.below
        → Below texts tags (result_in texts f.version f.function) below → waits_after (next_of f) w t ≡ None
        → IsWell (behind w t th f below (next_of f)) → Alike (behind w t th f below (next_of f)) new printed)
        → Alike (thread_move w t th o) new printed
    rest_of own_f (Some e) is m typed waits well then_do = absurd m
    rest_of own_f None is m typed waits well then_do = by th.frames m typed waits well
      where
        by : (fs : List Frame) → NextMatches texts tags naming None fs (Rests own_f) own_th.below → FramesTyped texts tags None fs
            → waits_in_frames fs w t ≡ None → IsWell (in_frames w t th fs) → Alike (in_frames w t th fs) new printed
        by [] m typed waits well = absurd m
        by (f ∷ below) m typed waits well = then_do f below is m.0.0 m.0.1 m.1 typed.1 waits well

    module _ (f : Frame) (below : List Frame) (own_f : CodeFrame) (entering : th.entering ≡ None) (is : IsSame texts tags naming f own_f)
        (below_match : BelowMatch texts tags naming (result_in texts f.version f.function) below own_th.below)
        (below_typed : Below texts tags (result_in texts f.version f.function) below) where
      abbrev code : Code
      code = code_in texts f.version f.function

      abbrev Resting : Halt → Type 0
      Resting x = RestsSo code (version_in texts f.version) (result_in texts f.version f.function) tags naming x own_f.state

      same_code : frame_code texts own_f ≡ code
      same_code = ap₂ (code_in texts) is.version is.function

      -- an operator traps
      trap_alike : (x : Halt) (kind : TrapKind) → Resting x → step code own_f.state ≡ Traps kind → new ≡ trapped kind t own → printed ≡ []
          → Alike (behind w t th f below x) new printed
      trap_alike (Stopped x n rest values scopes) kind h e made none =
          absurd (rests_no_trap (step code own_f.state) kind (rests_at code x n h.0 own_f.state h.1.0) e)
      trap_alike (Trapped other) kind h e made none = record {
        after = record w { finish = Some (world.Trapped other t) };
        is = refl;
        output = silent w.output printed none;
        matches =
            subst (WorldMatches texts names (record w { finish = Some (world.Trapped other t) }))
            (ap (λ k. trapped k t own) (one_trap (step code own_f.state) other kind h e) ∙ sym made)
            (ended texts names w naming w own (begun texts names w own r.matches r.going) (world.Trapped other t) w.slots refl (λ h. h));
      }
      trap_alike Nothing kind h e made none = absurd h

      -- it stops
      module _ (x : Stop) (n : ℕ) (rest : List Piece) (values : List Value) (scopes : Scopes) (h : Resting (Stopped x n rest values scopes)) where
        abbrev stopped : Frame
        stopped = record f { standing = n; pieces = rest; values = values; scopes = scopes }

        abbrev standing : Thread → Standing
        standing user = record { world = w; slot = t; thread = user; frame = stopped; below = below }

        abbrev own_at : CodeAt
        own_at = record { slot = t; thread = own_th; frame = own_f; point = n; after = h.0 }

        performed : (user : Thread) → user.serial ≡ th.serial → user.depth ≡ th.depth → user.entering ≡ th.entering
            → IsSameNow texts (standing user) x → at_stop x w t values ≡ None → StopMade texts names own_at x own new printed
            → Alike (perform x (standing user) values) new printed
        performed user same_serial same_depth same_entering same waits made =
            stop_alike laws shared texts names (standing user) own r own_th own_f h.0 x values
            (record {
              function = is.function;
              version = is.version;
              known = is.known;
              stops = h.1.0;
              matches = h.1.1;
              below = below_match;
              below_typed = below_typed;
              lives = there;
              serial = serial ∙ sym same_serial;
              depth = depth ∙ sym same_depth;
              entering = same_entering ∙ entering;
            }) new printed same waits made

        used : (o : Option Bytes) → use_at x ≡ o → IsWell (with_use x w t th stopped below o) → at_stop x w t values ≡ None
            → StopMade texts names own_at x own new printed → Alike (with_use x w t th stopped below o) new printed
        used None is_none well waits made =
            performed th refl refl refl (λ name e. absurd (none-some name (sym is_none ∙ e))) waits made
        used (Some name) is_name well waits made =
            using_alike th f.version name (λ user. perform x (standing user) values) new printed well
            (λ same.
            performed (recorded w.table name th) refl refl refl
            (λ other e.
            subst (λ k. SameUse (version_in texts f.version k) (definition (last_text texts) k)) (same_Some name other (sym is_name ∙ e)) same)
            waits made)

      halt_alike : (x : Halt) (y : Stop) (point after : ℕ) → Resting x → Stops code y point own_f.state.place after → waits_after x w t ≡ None
          → IsWell (behind w t th f below x)
          → StopMade texts names (record { slot = t; thread = own_th; frame = own_f; point = point; after = after }) y own new printed
          → Alike (behind w t th f below x) new printed
      halt_alike (Stopped x n rest values scopes) y point after h there waits well made =
          let same = one_point code x y n point own_f.state.place h.0 after h.1.0 there in
          used x n rest values scopes h (use_at x) refl well waits
          (subst (λ z. StopMade texts names (record { slot = t; thread = own_th; frame = own_f; point = n; after = h.0 }) z own new printed)
          (sym same.stop_is)
          (subst (λ q. StopMade texts names (record { slot = t; thread = own_th; frame = own_f; point = n; after = q }) y own new printed)
          (sym same.after_is)
          (subst (λ p. StopMade texts names (record { slot = t; thread = own_th; frame = own_f; point = p; after = after }) y own new printed)
          (sym same.number_is) made)))
      halt_alike (Trapped kind) y point after h there waits well made =
          absurd (rests_no_trap (step code own_f.state) kind (rests_at code y point after own_f.state there) h)
      halt_alike Nothing y point after h there waits well made = absurd h

  -- ---- a thread's move

  module _ (coded : IsCoded (last_text texts)) (t : ℕ) (th : Thread) (own_th : CodeThread) (there : code_waits.in_slot own t ≡ CodeLive own_th)
      (h : ThreadMatches texts tags naming th own_th)
      (typed : FramesTyped texts tags th.entering th.frames) (waits : WaitsNext texts names own t own_th.next None)
      (well : IsWell (thread_move w t th th.entering)) where
    abbrev Next : CodeNext → Type 0
    Next x = NextMatches texts tags naming th.entering th.frames x own_th.below

    waits_none : waits_in_thread th.entering th.frames w t ≡ None
    waits_none =
        next_waits laws.resumed texts names r.numbers w own r.matches r.going t th.entering th.frames own_th.next own_th.below None h.next waits

    pub thread_alike : (new : CodeWorld) (printed : List ℕ) → Moves texts names own t own_th new printed
        → Alike (thread_move w t th th.entering) new printed
    thread_alike new printed (enters due f next is room entered goes) =
        enter_due t th own_th h.serial h.depth there new printed due th.entering (subst Next is h.next) well
        (λ e user same_serial same_depth same_frames m below same.
        entered_alike laws texts names w own r coded t user own_th (h.serial ∙ sym same_serial) (h.depth ∙ sym same_depth) e due m below f next same
        entered goes room)
    thread_alike new printed (overflows due is full) =
        enter_due t th own_th h.serial h.depth there new printed due th.entering (subst Next is h.next) well
        (λ e user same_serial same_depth same_frames m below same.
        overflows_alike laws texts names w own r coded t user own_th (h.serial ∙ sym same_serial) (h.depth ∙ sym same_depth) e due m below there full)
    thread_alike new printed (traps own_f kind is e) =
        rest_of t th own_th h.serial h.depth there new printed own_f th.entering refl (subst Next is h.next) typed waits_none well
        (λ f below none same rests below_match below_typed waits well.
        trap_alike t th own_th h.serial h.depth there new printed f below own_f none same below_match below_typed (next_of f) kind rests
        (subst (λ c. step c own_f.state ≡ Traps kind) (ap₂ (code_in texts) same.version same.function) e) refl refl)
    thread_alike new printed (stops own_f x point after world_after shown is at made) =
        rest_of t th own_th h.serial h.depth there new printed own_f th.entering refl (subst Next is h.next) typed waits_none well
        (λ f below none same rests below_match below_typed waits well.
        halt_alike t th own_th h.serial h.depth there new printed f below own_f none same below_match below_typed (next_of f) x point after rests
        (subst (λ c. Stops c x point own_f.state.place after) (ap₂ (code_in texts) same.version same.function) at) waits well made)
