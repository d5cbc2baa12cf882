-- The stop that a thread of code comes to next is that of the source machine's thread.
use Rattle.std.proofs.Common.{◌≡◌, ◌⊎◌, ℕ, ◌||◌, true, false, List, [], ◌∷◌, slice_get, Some, None, inl, inr, is_some, refl, sym, ap, ap₂, subst, ◌∙◌}
use Rattle.run_types.specs.declared.trap.TrapKind.{TrapKind}
use Rattle.c_tree.specs.BareExpr.{Bytes, BareType}
use Rattle.c_tree.specs.BareDef.{BareDef}
use Rattle.c_semantics.specs.Texts.{Definitions}
use Rattle.c_semantics.specs.Stops.{Stop, Return}
use Rattle.c_semantics.specs.Pieces.{Halt, Nothing, Stopped, Trapped}
use Rattle.c_semantics.specs.Threads.{Frame, Thread, next_of}
use Rattle.source_model.specs.Guards.{frames_lead, halt_leads, leads, move_leads}
use Rattle.source_model.specs.Worlds.{Slot}
use Rattle.source_model.specs.Worlds as world
use Rattle.typed_runs.specs.TypedFrames.{result_in, version_in}
use Rattle.bytecode.specs.Words.{Naming}
use Rattle.bytecode.specs.Meaning.{State, step, Traps}
use Rattle.tree_code.specs.Code.{Code}
use Rattle.tree_code.specs.CodedPieces.{Stops}
use Rattle.source_runner.specs.Queries.{next_point_in, point_of_halt, stops_next}
use Rattle.code_runs.specs.CodeThreads.{CodeFrame, CodeNext, CodeSlot, CodeThread, CodeWorld, Enters, Rests, Free, Live, Over}
use Rattle.code_runs.specs.CodeMoves.{frame_code}
use Rattle.code_runs.specs.CodeWaits.{in_slot}
use Rattle.code_run_laws.specs.ThreadMatches.{BelowMatch, NextMatches, RestsSo, SlotMatches, ThreadMatches}
use Rattle.code_run_laws.proofs.OneEnd.{rests_at, rests_no_trap}
use Rattle.code_run_laws.proofs.SlotsMatching.{LivesAs, lives_as}
use Rattle.code_machine.specs.Leading.{stop_leads}
use Rattle.code_machine.specs.Queries.{HasNoStop, entered_by, entering_in}
use Rattle.compiled_run.proofs.Resting.{RestsAlike, enters_alike, rests_alike, stops_at}

-- ---- where private instructions end at no stop

module _ (code : Code) (look : Definitions) (result : BareType) (tags : List Bytes) (naming : Naming) (at : State) where
  -- no point is next, and no check-in is led to
  pub no_stop : (x : Halt) → RestsSo code look result tags naming x at
      → ((kind : TrapKind) × (step code at ≡ Traps kind)) ⊎ ((s : Stop) (n after : ℕ) → Stops code s n at.place after → ⊥)
      → (point_of_halt x ≡ None) × ((below : List Frame) → halt_leads x below ≡ false)
  no_stop (Stopped s n rest values scopes) h (inl e) =
      absurd (rests_no_trap (step code at) e.0 (rests_at code s n h.0 at h.1.0) e.1)
  no_stop (Stopped s n rest values scopes) h (inr none) = absurd (none s n h.0 h.1.0)
  no_stop (Trapped kind) h none = (refl, λ below. refl)
  no_stop Nothing h none = absurd h

module _ (texts : List (List BareDef)) (tags : List Bytes) (naming : Naming) where
  -- a frame waits under one where one of code does
  leads_alike : (s : Stop) (type : BareType) (fs : List Frame) (owns : List CodeFrame) → BelowMatch texts tags naming type fs owns
      → leads s fs ≡ stop_leads s (is_some (slice_get owns 0))
  leads_alike Return type [] [] h = refl
  leads_alike Return type [] (own ∷ owns) h = absurd h
  leads_alike Return type (f ∷ fs) [] h = absurd h
  leads_alike Return type (f ∷ fs) (own ∷ owns) h = refl
  leads_alike s type fs owns h = refl

  -- ---- a thread that rests at a stop

  module _ (slot : Slot) (x : CodeSlot) (th : CodeThread) (f : CodeFrame) (there : x ≡ Live th) (next : th.next ≡ Rests f)
      (m : SlotMatches texts tags naming slot x) (s : Stop) (n after : ℕ) (stops : Stops (frame_code texts f) s n f.state.place after) where
    lives : LivesAs texts tags naming slot th
    lives = lives_as texts tags naming slot x th there m

    rests : RestsAlike texts tags naming lives.thread f th.below
    rests =
        rests_alike texts tags naming lives.thread f th.below
        (subst (λ y. NextMatches texts tags naming lives.thread.entering lives.thread.frames y th.below) next lives.matches.next)

    pub point_next : next_point_in slot ≡ Some n
    point_next =
        let r = rests in
        let stop =
        stops_at (frame_code texts f) (version_in texts r.frame.version) (result_in texts r.frame.version r.frame.function) tags naming f.state
        (next_of r.frame) s n after r.rests stops in
        ap next_point_in lives.is ∙ ap₂ stops_next r.entering r.frames ∙ ap point_of_halt stop.is

    pub leads_next : move_leads slot ≡ stop_leads s (is_some (slice_get th.below 0))
    leads_next =
        let r = rests in
        let stop =
        stops_at (frame_code texts f) (version_in texts r.frame.version) (result_in texts r.frame.version r.frame.function) tags naming f.state
        (next_of r.frame) s n after r.rests stops in
        ap move_leads lives.is ∙ ap₂ (λ e fs. is_some e || frames_lead fs) r.entering r.frames
        ∙ ap (λ h. halt_leads h r.below) stop.is
        ∙ leads_alike s (result_in texts r.frame.version r.frame.function) r.below th.below r.under

  -- ---- a slot whose thread, if one lives there, rests at none

  module _ (w : CodeWorld) (t : ℕ) (none : HasNoStop texts w t) where
    module _ (th : Thread) (own : CodeThread) (there : in_slot w t ≡ Live own) (m : ThreadMatches texts tags naming th own) where
      halted : (f : CodeFrame) → own.next ≡ Rests f → (r : RestsAlike texts tags naming th f own.below)
          → (point_of_halt (next_of r.frame) ≡ None) × ((below : List Frame) → halt_leads (next_of r.frame) below ≡ false)
      halted f is r =
          no_stop (frame_code texts f) (version_in texts r.frame.version) (result_in texts r.frame.version r.frame.function) tags naming f.state
          (next_of r.frame) r.rests (none f (record { thread = own; lives = there; next = is }))

      resting : (f : CodeFrame) → own.next ≡ Rests f → RestsAlike texts tags naming th f own.below
      resting f is =
          rests_alike texts tags naming th f own.below
          (subst (λ y. NextMatches texts tags naming th.entering th.frames y own.below) is m.next)

      no_point_by : (x : CodeNext) → own.next ≡ x → stops_next th.entering th.frames ≡ None
      no_point_by (Enters e) is =
          let enters =
          enters_alike texts tags naming th e own.below
          (subst (λ y. NextMatches texts tags naming th.entering th.frames y own.below) is m.next) in
          ap (λ o. stops_next o th.frames) enters.entering
      no_point_by (Rests f) is =
          let r = resting f is in ap₂ stops_next r.entering r.frames ∙ (halted f is r).0

      leads_not_by : (x : CodeNext) → own.next ≡ x → entering_in (in_slot w t) ≡ None → (is_some th.entering || frames_lead th.frames) ≡ false
      leads_not_by (Enters e) is no_enter = absurd (some_none e.function (sym (ap entering_in there ∙ ap entered_by is) ∙ no_enter))
        where
          some_none : (name : Bytes) → Some name ≡ None → ⊥
          some_none name e = cc
      leads_not_by (Rests f) is no_enter =
          let r = resting f is in
          ap₂ (λ e fs. is_some e || frames_lead fs) r.entering r.frames ∙ (halted f is r).1 r.below

    pub no_point : (slot : Slot) (x : CodeSlot) → in_slot w t ≡ x → SlotMatches texts tags naming slot x → next_point_in slot ≡ None
    no_point world.Free x is m = refl
    no_point (world.Over serial v) x is m = refl
    no_point (world.Live th) Free is m = absurd m
    no_point (world.Live th) (Live own) is m = no_point_by th own is m own.next refl
    no_point (world.Live th) (Over serial v) is m = absurd m

    pub leads_not : entering_in (in_slot w t) ≡ None → (slot : Slot) (x : CodeSlot) → in_slot w t ≡ x → SlotMatches texts tags naming slot x
        → move_leads slot ≡ false
    leads_not no_enter world.Free x is m = refl
    leads_not no_enter (world.Over serial v) x is m = refl
    leads_not no_enter (world.Live th) Free is m = absurd m
    leads_not no_enter (world.Live th) (Live own) is m = leads_not_by th own is m own.next refl no_enter
    leads_not no_enter (world.Live th) (Over serial v) is m = absurd m

  -- ---- a thread that enters

  pub enter_leads : (slot : Slot) (x : CodeSlot) (name : Bytes) → entering_in x ≡ Some name → SlotMatches texts tags naming slot x
      → move_leads slot ≡ true
  enter_leads slot Free name e m = cc
  enter_leads slot (Over serial v) name e m = cc
  enter_leads slot (Live own) name e m = by own.next refl (lives_as texts tags naming slot (Live own) own refl m)
    where
      none_some : (name : Bytes) → None ≡ Some name → ⊥
      none_some name e = cc

      by : (x : CodeNext) → own.next ≡ x → LivesAs texts tags naming slot own → move_leads slot ≡ true
      by (Enters due) is alive =
          let enters =
          enters_alike texts tags naming alive.thread due own.below
          (subst (λ y. NextMatches texts tags naming alive.thread.entering alive.thread.frames y own.below) is alive.matches.next) in
          ap move_leads alive.is ∙ ap (λ o. is_some o || frames_lead alive.thread.frames) enters.entering
      by (Rests f) is alive = absurd (none_some name (sym (ap entered_by is) ∙ e))
