-- Where no move of code can be made, none of the source machine can.
use Rattle.std.proofs.Common.{◌≡◌, ℕ, ◌||◌, Bool, true, false, List, [], ◌∷◌, Option, Some, None, is_some, All, refl, sym, ap, ap₂, subst, ◌∙◌, if◌then◌else◌}
use Rattle.std.specs.Prelude.{slice_index_or}
use Rattle.c_tree.specs.BareExpr.{Bytes}
use Rattle.c_tree.specs.BareDef.{BareDef}
use Rattle.c_semantics.specs.Stops.{End}
use Rattle.c_semantics.specs.Pieces.{Halt, Nothing, Stopped, Trapped}
use Rattle.c_semantics.specs.Threads.{Enter, Frame, Thread, next_of}
use Rattle.source_model.specs.Worlds.{Finish, Free, Live, Over, Slot, World, in_slot, is_over}
use Rattle.source_model.specs.Waits.{Waiting, must_wait, waits_of}
use Rattle.source_model.specs.Moves.{behind, end_at, gone_on, in_frames, move, move_of, stop_made, thread_move}
use Rattle.frame_bodies.specs.AcceptedTexts.{definitions_of}
use Rattle.typed_runs.specs.TypedFrames.{result_in, version_in}
use Rattle.typed_runs.specs.TypedWorlds.{tags_of}
use Rattle.bytecode.specs.Meaning.{step}
use Rattle.tree_code.specs.Code.{Code}
use Rattle.tree_code.specs.CodedPieces.{Stops}
use Rattle.tree_code.specs.CodeLaws.{CodeGoesOnAfterStops}
use Rattle.code_runs.specs.CodeData.{Names}
use Rattle.code_runs.specs.CodeThreads.{CodeFrame, CodeSlot, CodeThread, CodeWorld, Rests, Free as CodeFree, Live as CodeLive, Over as CodeOver}
use Rattle.code_runs.specs.CodeMoves.{code_in, frame_code}
use Rattle.code_runs.specs.CodeWaits.{EndsNone, Stays, ends_none, none_lives, over, waits}
use Rattle.code_run_laws.specs.MoveLaws.{CodeStaysAlike}
use Rattle.code_run_laws.specs.ThreadMatches.{NextMatches, RestsSo, SlotMatches, ThreadMatches}
use Rattle.code_run_laws.specs.WorldMatches.{Numbers, WorldMatches}
use Rattle.code_run_laws.proofs.OneEnd.{one_point, rests_at, rests_no_trap}
use Rattle.code_run_laws.proofs.SlotsMatching.{lives_as, slot_matching}
use Rattle.code_run_laws.proofs.WaitsAlike.{waits_alike}

module _ (w : World) (t : ℕ) where
  -- no move, where the thread can't make one
  stuck : move_of w t (in_slot w t) ≡ None → move w t ≡ None
  stuck e = by (is_over w || must_wait w t)
    where
      by : (b : Bool) → (if b then None else move_of w t (in_slot w t)) ≡ None
      by true = refl
      by false = e

  -- or where the run has ended
  ended : is_over w ≡ true → move w t ≡ None
  ended e = ap (λ b. if b || must_wait w t then None else move_of w t (in_slot w t)) e

  -- or where it waits
  waiting : (what : Waiting) → waits_of (in_slot w t) w t ≡ Some what → move w t ≡ None
  waiting what e = by (is_over w)
    where
      by : (b : Bool) → (if b || must_wait w t then None else move_of w t (in_slot w t)) ≡ None
      by true = refl
      by false = ap (λ o. if is_some o then None else move_of w t (in_slot w t)) e

module _ (resumed : CodeGoesOnAfterStops) (texts : List (List BareDef)) (names : Names) (numbers : All (Numbers names) texts) (w : World)
    (own : CodeWorld) (m : WorldMatches texts names w own) where
  abbrev tags : List Bytes
  tags = tags_of w.objects

  -- no thread lives there
  none_moves : (t : ℕ) (x : Slot) (y : CodeSlot) → SlotMatches texts tags m.naming x y → ((th : CodeThread) → y ≡ CodeLive th → ⊥)
      → move_of w t x ≡ None
  none_moves t Free y h none = refl
  none_moves t (Over serial v) y h none = refl
  none_moves t (Live th) CodeFree h none = absurd h
  none_moves t (Live th) (CodeLive own_th) h none = absurd (none own_th refl)
  none_moves t (Live th) (CodeOver serial v) h none = absurd h

  -- a thread that would end a transaction and is in none
  module _ (t : ℕ) (th : Thread) (depth : th.depth ≡ 0) (f : Frame) (below : List Frame) (own_f : CodeFrame) where
    abbrev code : Code
    code = code_in texts f.version f.function

    end_sticks : (x : Halt) (point after : ℕ) → Stops code End point own_f.state.place after
        → RestsSo code (version_in texts f.version) (result_in texts f.version f.function) tags m.naming x own_f.state
        → behind w t th f below x ≡ None
    end_sticks (Stopped x n rest values scopes) point after stops h =
        let same = one_point code End x point n own_f.state.place after h.0 stops h.1.0 in
        let at = record f { standing = n; pieces = rest; values = values; scopes = scopes } in
        ap (λ y. stop_made y w t th at below) (sym same.stop_is)
        ∙ ap (λ k. end_at (record { world = w; slot = t; thread = th; frame = at; below = below }) k (gone_on (record { world = w; slot = t; thread = th; frame = at; below = below }) values)) depth
    end_sticks (Trapped kind) point after stops h =
        absurd (rests_no_trap (step code own_f.state) kind (rests_at code End point after own_f.state stops) h)
    end_sticks Nothing point after stops h = absurd h

  next_sticks : (t : ℕ) (th : Thread) (e : Option Enter) (fs : List Frame) (own_f : CodeFrame) (owns : List CodeFrame) (point after : ℕ)
      → th.depth ≡ 0 → th.frames ≡ fs → NextMatches texts tags m.naming e fs (Rests own_f) owns
      → Stops (frame_code texts own_f) End point own_f.state.place after → thread_move w t th e ≡ None
  next_sticks t th (Some e) fs own_f owns point after depth is h stops = absurd h
  next_sticks t th None [] own_f owns point after depth is h stops = absurd h
  next_sticks t th None (f ∷ fs) own_f owns point after depth is h stops =
      ap (in_frames w t th) is
      ∙ end_sticks t th depth f fs own_f (next_of f) point after
      (subst (λ c. Stops c End point own_f.state.place after) (ap₂ (code_in texts) h.0.0.version h.0.0.function) stops) h.0.1

  thread_sticks : (t : ℕ) (th : Thread) (own_th : CodeThread) → ThreadMatches texts tags m.naming th own_th → EndsNone texts own_th
      → move_of w t (Live th) ≡ None
  thread_sticks t th own_th h e =
      next_sticks t th th.entering th.frames e.frame own_th.below e.point e.after (sym h.depth ∙ e.none) refl
      (subst (λ n. NextMatches texts tags m.naming th.entering th.frames n own_th.below) e.next h.next) e.stops

  module _ (going : w.finish ≡ None) where
    matching : (t : ℕ) → SlotMatches texts tags m.naming (in_slot w t) (slice_index_or own.slots t CodeFree)
    matching t = slot_matching texts tags m.naming w.slots own.slots t (m.slots going)

    stays_going : (t : ℕ) → Stays texts names own t → move w t ≡ None
    stays_going t (over e) = ended w t (ap₂ (λ a b. a || b) m.used_well (ap is_some (sym m.finish) ∙ e))
    stays_going t (none_lives none) = stuck w t (none_moves t (in_slot w t) (slice_index_or own.slots t CodeFree) (matching t) none)
    stays_going t (waits what h) = waiting w t what (waits_alike resumed texts names numbers w own m going t (Some what) h)
    stays_going t (ends_none own_th at e) =
        let lives = lives_as texts tags m.naming (in_slot w t) (slice_index_or own.slots t CodeFree) own_th at (matching t) in
        stuck w t (ap (move_of w t) lives.is ∙ thread_sticks t lives.thread own_th lives.matches e)

  -- also where the run has ended
  stays : (t : ℕ) → Stays texts names own t → move w t ≡ None
  stays t h = by w.finish refl
    where
      by : (o : Option Finish) → w.finish ≡ o → move w t ≡ None
      by None is = stays_going is t h
      by (Some finish) is = ended w t (ap₂ (λ a b. a || b) m.used_well (ap is_some is))

pub stays_alike_by : CodeGoesOnAfterStops → CodeStaysAlike
stays_alike_by resumed texts names w own t stands h =
    stays resumed (definitions_of texts) names stands.numbers w own stands.matches t h
