-- Each move of a typed world leaves a typed world.
use Rattle.std.proofs.Common.{◌≡◌, ℕ, ◌==◌, ◌||◌, Bool, true, false, List, [], ◌∷◌, length, Option, Some, None, is_some, refl, sym, ap, subst, ◌∙◌, le_refl, if◌then◌else◌}
use Rattle.std.proofs.lemmas.Option.{none-some, same_Some}
use Rattle.run_types.specs.declared.trap.TrapKind.TheVariants.{Depth}
use Rattle.c_tree.specs.BareExpr.{Bytes}
use Rattle.c_tree.specs.BareDef.{BareDef}
use Rattle.c_semantics.specs.Texts.{definition, parameters_of, result_type}
use Rattle.c_semantics.specs.Stops.{Stop, End}
use Rattle.c_semantics.specs.Pieces.{Piece, Scopes, Halt, Stopped, Trapped, Nothing}
use Rattle.c_semantics.specs.Evaluation.{local}
use Rattle.c_semantics.specs.Resolution.{resolved_body}
use Rattle.c_semantics.specs.Values.{Value}
use Rattle.c_semantics.specs.Threads.{Enter, Frame, Thread, bind, entered, next_of}
use Rattle.source_model.specs.Versions.{current}
use Rattle.source_model.specs.Worlds.{World, Slot, Live, Over, Finish, in_slot, is_over, now, with_thread}
use Rattle.source_model.specs.Worlds as world
use Rattle.source_model.specs.Uses.{is_right, marked, recorded, use_at, using}
use Rattle.source_model.specs.Waits.{must_wait}
use Rattle.source_model.specs.Moves.{behind, enter_with, frame_count, frame_of, in_frames, move, move_of, perform, thread_move, with_use}
use Rattle.version_laws.specs.Histories.{last_text}
use Rattle.version_laws.proofs.EntersAlike.{enters_alike}
use Rattle.version_laws.proofs.RunHistories.{IsOf}
use Rattle.version_laws.proofs.TableHistories.{last_as_current, right_by_texts}
use Rattle.world_laws.specs.Holdings.{HoldsGlobals}
use Rattle.typed_trees.specs.ValueTypes.{HaveTypes}
use Rattle.typed_trees.specs.ExpressionTypes.{parameter_types}
use Rattle.typed_trees.specs.StatementTypes.{BodyTyped}
use Rattle.typed_trees.specs.PieceTypes.{EndsWell}
use Rattle.typed_trees.proofs.SafePieces.{bodies_go_on, local_evaluation_keeps_types}
use Rattle.typed_runs.specs.TypedFrames.{Below, FrameTyped, FramesTyped, result_in, version_in}
use Rattle.typed_runs.specs.TypedWorlds.{SlotTyped, WorldTyped, tags_of}
use Rattle.typed_runs.proofs.Arguments.{bound_have}
use Rattle.typed_runs.proofs.SameUses.{SameUse, same_use}
use Rattle.typed_runs.proofs.Stops.{Outcome, either_way, perform_kept, slot_at}
use Rattle.std.proofs.lemmas.List.Elements.{All-set}

-- the functions of a text have typed bodies
abbrev pub FunctionsTyped : List BareDef → Type 0
FunctionsTyped text =
    let look = definition text in
    (f : Bytes) → BodyTyped look (result_type (look f)) (parameters_of (look f)) (resolved_body look (look f))

-- local evaluation ended before the end of a transaction
abbrev pub IsEnd : Halt → Type 0
IsEnd (Stopped End n rest values scopes) = Unit {0}
IsEnd _ = ⊥

ends_at : (x : Stop) (n : ℕ) (rest : List Piece) (values : List Value) (scopes : Scopes) → x ≡ End → IsEnd (Stopped x n rest values scopes)
ends_at x n rest values scopes is = subst (λ y. IsEnd (Stopped y n rest values scopes)) (sym is) tt

-- so does that of a thread's innermost frame, where no enter is due
abbrev pub IsAtEnd : Option Enter → List Frame → Type 0
IsAtEnd None (f ∷ below) = IsEnd (next_of f)
IsAtEnd _ _ = ⊥

module _ (texts : List (List BareDef)) where
  -- a typed world of those texts, which goes on
  pub record Runs (w : World) : Type 0 where
    pub of : IsOf texts w
    pub holds : HoldsGlobals w
    pub typed : WorldTyped texts w
    pub bodies : FunctionsTyped (last_text texts)
    pub going : w.finish ≡ None

  abbrev tags : World → List Bytes
  tags w = tags_of w.objects

  -- ---- a use, and what follows it

  -- the name is used as it is now
  used : (w : World) (n : ℕ) (name : Bytes) → IsOf texts w → is_right w.table n name ≡ true
      → SameUse (version_in texts n name) (definition (last_text texts) name)
  used w n name of right = same_use _ _ (sym (right_by_texts texts w.table of.history n name) ∙ right)

  -- ---- an enter

  -- the frame of a function of the newest text
  frame_entered : (w : World) (n : ℕ) (f : Bytes) (arguments : List Value) → n ≡ length texts → Runs w
      → HaveTypes (tags w) (parameter_types (definition (last_text texts) f)) arguments
      → FrameTyped texts (tags w) (entered (definition (last_text texts)) f n arguments)
  frame_entered w n f arguments is h have =
      subst (λ m. FrameTyped texts (tags w) (entered (definition (last_text texts)) f m arguments)) (sym is)
      (record {
        known = le_refl (length texts);
        goes_on =
            let look = definition (last_text texts) in
            bodies_go_on look (result_type (look f)) (tags w) (parameters_of (look f)) (resolved_body look (look f))
            (bind (parameters_of (look f)) arguments) (h.bodies f) (bound_have (tags w) (parameters_of (look f)) arguments have);
      })

  frame_typed : (w : World) (e : Enter) → Runs w → HaveTypes (tags w) (parameter_types (definition (last_text texts) e.function)) e.arguments
      → FrameTyped texts (tags w) (frame_of w e)
  frame_typed w e h have =
      subst (FrameTyped texts (tags w))
      (sym (enters_alike (now w) (definition (last_text texts)) (last_as_current texts w.table h.of.history) e.function (current w.table) e.arguments))
      (frame_entered w (current w.table) e.function e.arguments h.of.history.count h have)

  -- with the frames under it, as the caller's version has the result
  entered_typed : (w : World) (e : Enter) (frames : List Frame) → Runs w
      → SameUse (version_in texts e.version e.function) (definition (last_text texts) e.function)
      → FramesTyped texts (tags w) (Some e) frames → FramesTyped texts (tags w) None (frame_of w e ∷ frames)
  entered_typed w e frames h same typed = (
    frame_typed w e h (subst (λ ts. HaveTypes (tags w) ts e.arguments) same.parameters_are typed.0.arguments),
    subst (λ t. Below texts (tags w) t frames)
        (same.result_is ∙ ap (λ n. result_in texts n e.function) (sym h.of.history.count)) typed.1,
  )

  module _ (Stuck : Type 0) where
    abbrev Kept : Option World → Type 0
    Kept = Outcome Stuck (WorldTyped texts)

    using_kept : (w : World) (th : Thread) (n : ℕ) (name : Bytes) (f : Thread → Option World) → Runs w
        → (SameUse (version_in texts n name) (definition (last_text texts) name) → Kept (f (recorded w.table name th)))
        → Kept (using w th n name f)
    using_kept w th n name f h then_do = by (is_right w.table n name) refl
      where
        by : (b : Bool) → is_right w.table n name ≡ b → Kept (if b then f (recorded w.table name th) else Some (marked w))
        by true e = then_do (used w n name h.of e)
        by false e = record { slots = h.typed.slots; objects = h.typed.objects; globals = h.typed.globals; finish = h.typed.finish }

    -- ---- a stop of the innermost frame

    stop_kept : (x : Stop) (w : World) (t : ℕ) (th : Thread) (f : Frame) (below : List Frame) (name : Option Bytes) → use_at x ≡ name
        → ((user : Thread) → user.entering ≡ None → user.depth ≡ th.depth
        → ((used : Bytes) → use_at x ≡ Some used → SameUse (version_in texts f.version used) (definition (last_text texts) used))
        → Kept (perform x (record { world = w; slot = t; thread = user; frame = f; below = below }) f.values))
        → Runs w → th.entering ≡ None → Kept (with_use x w t th f below name)
    stop_kept x w t th f below None is ready h entering = ready th entering refl (λ used e. absurd (none-some used (sym is ∙ e)))
    stop_kept x w t th f below (Some name) is ready h entering =
        using_kept w th f.version name
        (λ user. perform x (record { world = w; slot = t; thread = user; frame = f; below = below }) f.values) h
        (λ same. ready (recorded w.table name th) entering refl
        (λ used e.
        subst (λ n. SameUse (version_in texts f.version n) (definition (last_text texts) n)) (same_Some name used (sym is ∙ e)) same))

    after_kept : (w : World) (t : ℕ) (th : Thread) (f : Frame) (below : List Frame) (x : Halt) → Runs w → th.entering ≡ None
        → (IsEnd x → th.depth ≡ 0 → Stuck)
        → FrameTyped texts (tags w) f → Below texts (tags w) (result_in texts f.version f.function) below
        → EndsWell (version_in texts f.version) (result_in texts f.version f.function) (tags w) x → Kept (behind w t th f below x)
    after_kept w t th f below (Stopped x n rest values scopes) h entering stuck frame wait ends =
        stop_kept x w t th (record f { standing = n; pieces = rest; values = values; scopes = scopes }) below (use_at x) refl
        (λ user none depth same.
        perform_kept texts (record { world = w; slot = t; thread = user; frame = record f { standing = n; pieces = rest; values = values; scopes = scopes }; below = below }) Stuck
        (record {
          of = h.of;
          holds = h.holds;
          world = h.typed;
          runs = h.going;
          known = frame.known;
          env = ends.env;
          scopes_have = ends.scopes_have;
          below = wait;
          entering = none;
        }) x values ends.stack (λ is zero. stuck (ends_at x n rest values scopes is) (sym depth ∙ zero)) ends.typed ends.values_have same) h entering
    after_kept w t th f below (Trapped kind) h entering stuck frame wait ends = record {
      slots = λ e. absurd (none-some (world.Trapped kind t) (sym e));
      objects = h.typed.objects;
      globals = h.typed.globals;
      finish = tt;
    }
    after_kept w t th f below Nothing h entering stuck frame wait ends = absurd ends

    enter_kept : (w : World) (t : ℕ) (e : Enter) (th : Thread) → Runs w
        → SameUse (version_in texts e.version e.function) (definition (last_text texts) e.function)
        → FramesTyped texts (tags w) (Some e) th.frames → Kept (enter_with w t e th)
    enter_kept w t e th h same typed =
        either_way Stuck (WorldTyped texts) (length th.frames == frame_count)
        (Some (record (with_thread t th w) { finish = Some (world.Trapped Depth t) }))
        (Some (with_thread t (record th { frames = frame_of w e ∷ th.frames; entering = None }) w))
        (record {
          slots = λ e. absurd (none-some (world.Trapped Depth t) (sym e));
          objects = h.typed.objects;
          globals = h.typed.globals;
          finish = tt;
        })
        (record {
          slots = λ going. All-set (SlotTyped texts (tags w)) w.slots t (Live (record th { frames = frame_of w e ∷ th.frames; entering = None }))
              (entered_typed w e th.frames h same typed) (h.typed.slots h.going);
          objects = h.typed.objects;
          globals = h.typed.globals;
          finish = h.typed.finish;
        })

    -- ---- a move

    frames_kept : (w : World) (t : ℕ) (th : Thread) (fs : List Frame) → Runs w → th.entering ≡ None → (IsAtEnd None fs → th.depth ≡ 0 → Stuck)
        → FramesTyped texts (tags w) None fs → Kept (in_frames w t th fs)
    frames_kept w t th [] h entering stuck typed = absurd typed
    frames_kept w t th (f ∷ below) h entering stuck typed =
        after_kept w t th f below (local f.pieces f.values f.scopes) h entering stuck typed.0 typed.1
        (local_evaluation_keeps_types (version_in texts f.version) (result_in texts f.version f.function) (tags w) f.pieces f.values f.scopes
        typed.0.goes_on)

    thread_kept : (w : World) (t : ℕ) (th : Thread) (e : Option Enter) → th.entering ≡ e → Runs w → (IsAtEnd e th.frames → th.depth ≡ 0 → Stuck)
        → FramesTyped texts (tags w) e th.frames → Kept (thread_move w t th e)
    thread_kept w t th None is h stuck typed = frames_kept w t th th.frames h is stuck typed
    thread_kept w t th (Some e) is h stuck typed =
        using_kept w th e.version e.function (enter_with w t e) h
        (λ same. enter_kept w t e (recorded w.table e.function th) h same typed)

  -- a world of those texts whose functions are typed
  pub record IsTyped (w : World) : Type 0 where
    pub of : IsOf texts w
    pub holds : HoldsGlobals w
    pub typed : WorldTyped texts w
    pub bodies : FunctionsTyped (last_text texts)

  pub live_kept : (Stuck : Type 0) (w : World) (t : ℕ) (th : Thread) → IsTyped w → w.finish ≡ None → in_slot w t ≡ Live th
      → (IsAtEnd th.entering th.frames → th.depth ≡ 0 → Stuck) → Outcome Stuck (WorldTyped texts) (thread_move w t th th.entering)
  live_kept Stuck w t th h going is stuck =
      thread_kept Stuck w t th th.entering refl
      (record { of = h.of; holds = h.holds; typed = h.typed; bodies = h.bodies; going = going }) stuck
      (subst (SlotTyped texts (tags w)) is (slot_at texts (tags w) w.slots t (h.typed.slots going)))

  pub move_kept : (w : World) (t : ℕ) → IsTyped w → Outcome (Unit {0}) (WorldTyped texts) (move w t)
  move_kept w t h = by (is_over w || must_wait w t) refl
    where
      first : (m f b : Bool) → ((m || f) || b) ≡ false → f ≡ false
      first true f b e = cc
      first false true b e = cc
      first false false b e = refl

      ended : (o : Option Finish) → is_some o ≡ false → o ≡ None
      ended None e = refl
      ended (Some f) e = cc

      slot : (x : Slot) → in_slot w t ≡ x → w.finish ≡ None → Outcome (Unit {0}) (WorldTyped texts) (move_of w t x)
      slot (Live th) is going = live_kept (Unit {0}) w t th h going is (λ at depth. tt)
      slot world.Free is going = tt
      slot (Over serial v) is going = tt

      by : (b : Bool) → (is_over w || must_wait w t) ≡ b → Outcome (Unit {0}) (WorldTyped texts) (if b then None else move_of w t (in_slot w t))
      by true is = tt
      by false is = slot (in_slot w t) refl (ended w.finish (first w.misused (is_some w.finish) (must_wait w t) is))
