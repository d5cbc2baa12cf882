-- In each world that a run of accepted texts comes to, each thread is in as many transactions as its frames together; so it makes its
-- next move or waits.
use Rattle.std.proofs.Common.{◌≡◌, ℕ, zero, suc, ◌≤◌, ◌<◌, ◌⊎◌, inl, inr, ◌||◌, Bool, true, false, List, [], ◌∷◌, length, Option, Some, None, is_some, option_and_then, slice_get, slice_index_or, All, refl, sym, ap, subst, ◌∙◌, arith, if◌then◌else◌}
use Rattle.std.proofs.lemmas.Bool.{cases_lt}
use Rattle.std.proofs.lemmas.List.{get_or_past}
use Rattle.std.proofs.lemmas.List.Elements.{All-append, All-cons, All-get_or, All-nil}
use Rattle.std.proofs.lemmas.Option.{get_or_from_slice_get, slice_get_within}
use Rattle.c_tree.specs.BareDef.{BareDef}
use Rattle.c_semantics.specs.SkeletonLaws.{DepthIsLexical}
use Rattle.c_semantics.specs.SourceTexts.{Text}
use Rattle.c_semantics.specs.Stops.{End}
use Rattle.c_semantics.specs.Pieces.{Halt, Stopped}
use Rattle.c_semantics.specs.Threads.{Enter, Frame, Thread, next_of}
use Rattle.source_model.specs.Worlds.{World, Limits, Live, Finish, in_slot, is_over}
use Rattle.source_model.specs.Moves.{move, move_of, thread_move}
use Rattle.source_model.specs.Waits.{Waiting, must_wait, waits_for}
use Rattle.source_model.specs.Runs.{SourceMove, Move, Install, run, start}
use Rattle.source_model.specs.JournalLaws.{HasMain}
use Rattle.version_laws.specs.Histories.{text_in, texts_installed, versions_by}
use Rattle.version_laws.proofs.RunHistories.{IsOf, first_is_of, has_main_at, holds_in_runs, install_is_of, move_is_of}
use Rattle.frame_bodies.specs.AcceptedTexts.{AreAccepted, definitions_of}
use Rattle.frame_bodies.proofs.AcceptedFacts.{accepted_leave_at_ends}
use Rattle.world_laws.proofs.Accepted.{main_in}
use Rattle.world_laws.proofs.Runs.{worlds_hold}
use Rattle.typed_texts.proofs.Functions.{functions_are_typed}
use Rattle.typed_runs.specs.TypedWorlds.{WorldTyped}
use Rattle.typed_runs.proofs.AcceptedWorlds.{each_has}
use Rattle.typed_runs.proofs.Installed.{Transforms}
use Rattle.typed_runs.proofs.Moves.{FunctionsTyped, IsAtEnd, IsEnd, live_kept}
use Rattle.typed_runs.proofs.Runs.{runs_are_typed}
use Rattle.typed_runs.proofs.Stops.{Outcome}
use Rattle.progress_laws.specs.Depths.{SumsTo}
use Rattle.progress_laws.specs.ProgressLaws.{GoesOn, RunsAddUp, ThreadsOfRunsGoOn, moves, waits}
use Rattle.progress_laws.proofs.Depths.{AllIn, BodiesLeave, SlotSums, ends_in_one, free_sound, in_of, move_sound, slots_still}

-- ---- what each text has, the text of each version has

no_bodies : BodiesLeave []
no_bodies f = refl

no_functions : FunctionsTyped []
no_functions f = record { statements = tt; stays = refl }

in_version : (P : List BareDef → Type 0) → P [] → (texts : List (List BareDef)) → All P texts → (n : ℕ) → P (text_in texts n)
in_version P none texts h zero = none
in_version P none texts h (suc n) = by (cases_lt n (length texts))
  where
    by : (n < length texts) ⊎ (length texts ≤ n) → P (slice_index_or texts n [])
    by (inl within) = All-get_or P texts n [] within h
    by (inr past) = subst P (sym (get_or_past texts n [] past)) none

at_number : (P : List BareDef → Type 0) → P [] → (texts : List (List BareDef)) → All P texts → (k : ℕ) → P (slice_index_or texts k [])
at_number P none texts h k = in_version P none texts h (suc k)

all_versions : (P : List BareDef → Type 0) → P [] → (texts : List (List BareDef)) → All P texts → (ms : List SourceMove)
    → All P (versions_by texts ms)
all_versions P none texts h ms = All-cons P (slice_index_or texts 0 []) (texts_installed texts ms) (at_number P none texts h 0) (rest ms)
  where
    rest : (ms : List SourceMove) → All P (texts_installed texts ms)
    rest [] = All-nil P
    rest (Move t ∷ ms) = rest ms
    rest (Install k ∷ ms) = All-cons P (slice_index_or texts k []) (texts_installed texts ms) (at_number P none texts h k) (rest ms)

outcome : (P : World → Type 0) (o : Option World) (after : World) → o ≡ Some after → Outcome (Unit {0}) P o → P after
outcome P o after e h = subst (Outcome (Unit {0}) P) e h

module _ (lexical : DepthIsLexical) where
  -- a world of versions that leave transactions at their ends
  record Sound (before : List (List BareDef)) (w : World) : Type 0 where
    leave : All BodiesLeave before
    of : IsOf before w
    slots : AllIn before w.slots

  runs_sound : (texts : List (List BareDef)) (limits : Limits) (ms : List SourceMove) (w : World) → All HasMain texts → All BodiesLeave texts
      → option_and_then (run texts ms) (start texts limits) ≡ Some w → Sound (versions_by texts ms) w
  runs_sound texts limits ms w main leave e =
      holds_in_runs texts limits Sound
      (λ text is. record {
        leave = All-cons BodiesLeave text [] (own 0 text is) (All-nil BodiesLeave);
        of = first_is_of text limits (has_main_at texts 0 text main is);
        slots = (refl, free_sound (text ∷ []) _);
      })
      (λ before v after t f h. record {
        leave = h.leave;
        of = move_is_of before v after t f h.of;
        slots = outcome (λ x. AllIn before x.slots) (move v t) after f
            (move_sound before lexical (in_version BodiesLeave no_bodies before h.leave) v t h.of h.slots);
      })
      (λ before v k q is h. record {
        leave = All-append BodiesLeave before (q ∷ []) h.leave (All-cons BodiesLeave q [] (own k q is) (All-nil BodiesLeave));
        of = install_is_of before v q (has_main_at texts k q main is) h.of;
        slots = slots_still before q v.slots h.slots;
      }) ms w e
    where
      own : (k : ℕ) (q : List BareDef) → slice_get texts k ≡ Some q → BodiesLeave q
      own k q is = subst BodiesLeave (get_or_from_slice_get texts k q [] is) (All-get_or BodiesLeave texts k [] (slice_get_within texts k q is) leave)

  accepted_sound : (texts : List Text) (limits : Limits) (ms : List SourceMove) (w : World) → AreAccepted texts
      → option_and_then (run (definitions_of texts) ms) (start (definitions_of texts) limits) ≡ Some w
      → Sound (versions_by (definitions_of texts) ms) w
  accepted_sound texts limits ms w accepted e =
      runs_sound (definitions_of texts) limits ms w (each_has HasMain main_in texts accepted)
      (each_has BodiesLeave (λ t a f. accepted_leave_at_ends t f a) texts accepted) e

  sums_of : (before : List (List BareDef)) (w : World) (t : ℕ) (th : Thread) → Sound before w → in_slot w t ≡ Live th
      → SumsTo before th.frames th.depth
  sums_of before w t th h there = subst (SlotSums before) there (in_of before w.slots t h.slots)

  pub runs_add_up : RunsAddUp
  runs_add_up texts limits ms w accepted e t th there =
      sums_of (versions_by (definitions_of texts) ms) w t th (accepted_sound texts limits ms w accepted e) there

  -- ---- no thread would end a transaction that it isn't in

  never_at_end : (before : List (List BareDef)) (w : World) (th : Thread) (e : Option Enter) (fs : List Frame) → Sound before w
      → SumsTo before fs th.depth → IsAtEnd e fs → th.depth ≡ 0 → ⊥
  never_at_end before w th (Some e) fs h sums at zero_is = at
  never_at_end before w th None [] h sums at zero_is = at
  never_at_end before w th None (f ∷ below) h sums at zero_is = by (next_of f) refl at
    where
      by : (x : Halt) → next_of f ≡ x → IsEnd x → ⊥
      by (Stopped End n rest values scopes) is at =
          let less : 0 < sums.0 =
          (ends_in_one before lexical (in_version BodiesLeave no_bodies before h.leave) f sums.0 End n rest values scopes sums.3 is).0 refl in
          let total = sums.2 in
          omega (arith, less, total, zero_is)
      by _ is at = at

  module _ (w : World) (t : ℕ) (th : Thread) (over : is_over w ≡ false) (there : in_slot w t ≡ Live th) where
    -- where it waits for nothing, its move is that of its thread
    made : waits_for w t ≡ None → move w t ≡ thread_move w t th th.entering
    made none =
        ap (λ b. if b || must_wait w t then None else move_of w t (in_slot w t)) over
        ∙ ap (λ o. if is_some o then None else move_of w t (in_slot w t)) none ∙ ap (move_of w t) there

    goes_on : (P : World → Type 0) → Outcome ⊥ P (thread_move w t th th.entering) → GoesOn w t
    goes_on P h = by (waits_for w t) refl
      where
        out : (o : Option World) → Outcome ⊥ P o → move w t ≡ o → GoesOn w t
        out None h is = absurd h
        out (Some after) h is = moves after is

        by : (o : Option Waiting) → waits_for w t ≡ o → GoesOn w t
        by (Some what) is = waits what is
        by None none = out (thread_move w t th th.entering) h (made none)

    running : w.finish ≡ None
    running = by w.finish (first w.misused (is_some w.finish) over)
      where
        first : (m f : Bool) → (m || f) ≡ false → f ≡ false
        first true f e = cc
        first false f e = e

        by : (o : Option Finish) → is_some o ≡ false → o ≡ None
        by None e = refl
        by (Some f) e = cc

  pub threads_of_runs_go_on : Transforms → ThreadsOfRunsGoOn
  threads_of_runs_go_on transforms texts limits ms w t th accepted fits e over there =
      let defs = definitions_of texts in
      let versions = versions_by defs ms in
      let sound = accepted_sound texts limits ms w accepted e in
      let holds = worlds_hold texts limits ms w accepted e in
      goes_on w t th over there (WorldTyped versions)
      (live_kept versions ⊥ w t th
      (record {
        of = sound.of;
        holds = holds.0;
        typed = runs_are_typed transforms texts limits ms w accepted fits e;
        bodies =
            in_version FunctionsTyped no_functions versions
            (all_versions FunctionsTyped no_functions defs (each_has FunctionsTyped (λ x a f. functions_are_typed x f a) texts accepted) ms)
            (length versions);
      }) (running w t th over there) there
      (never_at_end versions w th th.entering th.frames sound (sums_of versions w t th sound there)))
