-- What is asked of a run of code.
use Rattle.std.proofs.Common.{◌≡◌, ℕ, ◌||◌, Bool, true, false, List, Option, None, Some, inl, inr, is_none, is_some, not, option_map, slice_get, refl, sym, ap, ap₂, subst, ◌∙◌}
use Rattle.std.proofs.lemmas.Option.{none-some, same_Some}
use Rattle.c_tree.specs.BareExpr.{Bytes}
use Rattle.c_tree.specs.BareDef.{BareDef}
use Rattle.source_model.specs.Guards.{in_transaction, move_leads}
use Rattle.source_model.specs.Worlds.{Finish, Limits, World, in_slot, is_over}
use Rattle.source_model.specs.Runs.{Result, SourceMove, can_move, is_live, result, source_run}
use Rattle.source_model.specs.Waits.{Waiting, waits_for}
use Rattle.frame_bodies.specs.AcceptedTexts.{definitions_of}
use Rattle.typed_runs.specs.TypedWorlds.{tags_of}
use Rattle.bytecode.specs.Words.{Naming}
use Rattle.progress_laws.specs.ProgressLaws.{GoesOn, moves, waits}
use Rattle.local_evaluation.specs.Pieces.{stop_of}
use Rattle.source_runner.specs.Queries.{entering_in, innermost_in, next_point_in, place_up_in}
use Rattle.source_runner.specs.SourceRuns.{world_after}
use Rattle.code_runs.specs.CodeThreads.{CodeSlot, CodeThread, CodeWorld, Free, Live, Over}
use Rattle.code_runs.specs.CodeWaits.{Waits, none_lives, waits as stays_waiting}
use Rattle.code_runs.specs.CodeWaits as code
use Rattle.code_run_laws.specs.MoveLaws.{CodeStaysAlike, CodeWaitsAlike}
use Rattle.code_run_laws.specs.ThreadMatches.{SlotMatches}
use Rattle.code_run_laws.proofs.SlotsMatching.{lives_as}
use Rattle.code_image.specs.Images.{names_in}
use Rattle.code_image.specs.declared.act.StopPlace.{StopPlace}
use Rattle.code_machine.specs.Leading.{LeadsNext, entering, is_called, stop_leads, stopping, trapping}
use Rattle.code_machine.specs.declared.machine.CodeMachine.{CodeMachine}
use Rattle.code_machine.specs.Queries.{HasNoStop, IsHeld, IsNextStop, WaitsFor}
use Rattle.code_machine.specs.Queries as asked
use Rattle.code_machine.specs.Seen.{code_world, image_of, words_of}
use Rattle.code_machine.specs.Versions.{texts_by, versions_of}
use Rattle.image_load.specs.declared.text_data.TextData.{TextData}
use Rattle.compiled_run.specs.CodeOfRuns.{IsRunOf}
use Rattle.compiled_run.proofs.NextStops.{enter_leads, leads_next, leads_not, no_point, point_next}
use Rattle.compiled_run.proofs.LostThreads.{matching, never_nowhere}
use Rattle.compiled_run.proofs.Moving.{over_stays}
use Rattle.compiled_run.proofs.SlotsAlike.{code_place_up, entering_alike, innermost_is, live_alike, place_alike, standing_at, transaction_alike}

-- what a run gives is what its world gives
pub given : {A : Type 0} (of : Result → A) (texts : List (List BareDef)) (limits : Limits) (ms : List SourceMove) (w : World)
    → world_after texts limits ms ≡ Some w → option_map of (source_run texts limits ms) ≡ Some (of (result w))
given of texts limits ms w ran = ap (λ o. option_map of (option_map result o)) ran

pub not_over : (texts : List (List BareDef)) (limits : Limits) (ms : List SourceMove) (w : World) → world_after texts limits ms ≡ Some w
    → option_map (λ x. is_over x.world) (source_run texts limits ms) ≡ Some false → is_over w ≡ false
not_over texts limits ms w ran going =
    same_Some (is_over w) false (sym (given (λ x. is_over x.world) texts limits ms w ran) ∙ going)

-- what isn't there isn't there after a map
pub map_some : {A B : Type 0} (f : A → B) (o : Option A) → is_some (option_map f o) ≡ is_some o
map_some f None = refl
map_some f (Some x) = refl

pub none_held : {A : Type 0} (o : Option A) (held : Bool) → held ≡ is_some o → is_none o ≡ not held
none_held None true e = cc
none_held None false e = refl
none_held (Some x) true e = refl
none_held (Some x) false e = cc

pub none_if : {A : Type 0} (o : Option A) → is_some o ≡ false → o ≡ None
none_if None e = refl
none_if (Some x) e = cc

pub mapped_if : {A B : Type 0} (f : A → B) (o : Option A) → is_some o ≡ true → (b : B) × (option_map f o ≡ Some b)
mapped_if f None e = cc
mapped_if f (Some x) e = (f x, refl)

-- a world that isn't over has not ended
unended : (m : Bool) (o : Option Finish) → (m || is_some o) ≡ false → o ≡ None
unended true o e = cc
unended false None e = refl
unended false (Some f) e = cc

module _ (texts : List (List BareDef)) (limits : Limits) (ms : List SourceMove) (m : CodeMachine) (tables : List TextData) (kept : ℕ)
    (h : IsRunOf texts limits ms m tables kept) where
  abbrev defs : List (List BareDef)
  defs = definitions_of h.versions

  abbrev own : CodeWorld
  own = code_world m

  abbrev tags : List Bytes
  tags = tags_of h.world.objects

  abbrev naming : Naming
  naming = h.stands.matches.naming

  -- the texts of the machine's versions
  abbrev so_far : List (List BareDef)
  so_far = texts_by texts (versions_of m)

  matched : is_over h.world ≡ false → (t : ℕ) → SlotMatches defs tags naming (in_slot h.world t) (code.in_slot own t)
  matched going t = matching h.versions (names_in texts) h.world own h.stands (unended h.world.misused h.world.finish going) t

  -- ---- in each run

  pub live_is : (t : ℕ) → is_live (in_slot h.world t) ≡ asked.is_live (code.in_slot own t)
  live_is t =
      live_alike (in_slot h.world t) (code.in_slot own t) (standing_at h.world.slots own.slots t h.stands.matches.standing)

  pub transaction_is : (t : ℕ) → in_transaction (in_slot h.world t) ≡ asked.in_transaction (code.in_slot own t)
  transaction_is t =
      transaction_alike (in_slot h.world t) (code.in_slot own t) (standing_at h.world.slots own.slots t h.stands.matches.standing)

  -- ---- in one that goes on

  on : is_over h.world ≡ false → h.world.finish ≡ None
  on going = unended h.world.misused h.world.finish going

  pub entering_is : is_over h.world ≡ false → (t : ℕ) → entering_in (in_slot h.world t) ≡ asked.entering_in (code.in_slot own t)
  entering_is going t =
      entering_alike defs tags naming (in_slot h.world t) (code.in_slot own t)
      (matched going t)

  pub place_is : is_over h.world ≡ false → (up t : ℕ) → place_up_in up (in_slot h.world t) ≡ code_place_up up (code.in_slot own t)
  place_is going up t =
      place_alike defs tags naming up (in_slot h.world t) (code.in_slot own t)
      (matched going t)

  pub innermost_place_is : is_over h.world ≡ false → (t : ℕ) → innermost_in (in_slot h.world t) ≡ code_place_up 0 (code.in_slot own t)
  innermost_place_is going t = innermost_is (in_slot h.world t) ∙ place_is going 0 t

  -- ---- whether a thread can move

  module _ (stays_alike : CodeStaysAlike) (waits_alike : CodeWaitsAlike) (t : ℕ) where
    pub ended_stays : is_some own.finish ≡ true → can_move h.world t ≡ false
    ended_stays e = ap is_some (over_stays texts limits ms m tables kept h stays_alike t e)

    dead : (x : CodeSlot) → asked.is_live x ≡ false → (th : CodeThread) → x ≡ Live th → ⊥
    dead Free e th is = cc
    dead (Live own_th) e th is = cc
    dead (Over serial w) e th is = cc

    pub dead_stays : asked.is_live (code.in_slot own t) ≡ false → can_move h.world t ≡ false
    dead_stays e =
        ap is_some
        (stays_alike h.versions (names_in texts) h.world own t h.stands (none_lives (dead (code.in_slot own t) e)))

    pub waiting_stays : (what : Waiting) → Waits defs (names_in texts) own t (code.in_slot own t) (Some what)
        → can_move h.world t ≡ false
    waiting_stays what w =
        ap is_some
        (stays_alike h.versions (names_in texts) h.world own t h.stands (stays_waiting what w))

    pub waits_are : own.finish ≡ None → (what : Option Waiting) → Waits defs (names_in texts) own t (code.in_slot own t) what
        → waits_for h.world t ≡ what
    waits_are going what w = waits_alike h.versions (names_in texts) h.world own t what h.stands going w

    runs_on : own.finish ≡ None → is_over h.world ≡ false
    runs_on going = ap₂ (λ a o. a || is_some o) h.stands.matches.used_well (sym h.stands.matches.finish ∙ going)

    moves_or : waits_for h.world t ≡ None → GoesOn h.world t → can_move h.world t ≡ true
    moves_or none (moves after e) = ap is_some e
    moves_or none (waits what e) = absurd (none-some what (sym none ∙ e))

    pub ready_moves : own.finish ≡ None → (th : CodeThread) → code.in_slot own t ≡ Live th
        → Waits defs (names_in texts) own t (code.in_slot own t) None → can_move h.world t ≡ true
    ready_moves going th there w =
        let lives =
        lives_as defs tags naming (in_slot h.world t) (code.in_slot own t) th there
        (matched (runs_on going) t) in
        moves_or (waits_are going None w) (h.goes_on (runs_on going) t lives.thread lives.is)

    -- ---- by what code waits for

    is_there : (x : CodeSlot) → asked.is_live x ≡ true → (th : CodeThread) × (x ≡ Live th)
    is_there Free e = cc
    is_there (Live th) e = (th, refl)
    is_there (Over serial w) e = cc

    can_move_by : own.finish ≡ None → asked.is_live (code.in_slot own t) ≡ true → (what : Option Waiting)
        → WaitsFor defs (names_in texts) own t what → can_move h.world t ≡ is_none what
    can_move_by going there (Some what) (inl w) = waiting_stays what w
    can_move_by going there None (inl w) =
        let th = is_there (code.in_slot own t) there in ready_moves going th.0 th.1 w
    can_move_by going there what (inr lost) =
        absurd (never_nowhere h.versions (names_in texts) h.world own h.stands (sym h.stands.matches.finish ∙ going) t lost.1)

    pub can_move_is : own.finish ≡ None → asked.is_live (code.in_slot own t) ≡ true → (held : Bool)
        → IsHeld so_far (names_in texts) own t held → can_move h.world t ≡ not held
    can_move_is going there held is =
        can_move_by going there is.0 (subst (λ (ts : List (List BareDef)). WaitsFor ts (names_in texts) own t is.0) h.installed is.1)
        ∙ none_held is.0 held is.2

  waiting_by : CodeWaitsAlike → is_over h.world ≡ false → (t : ℕ) (what : Option Waiting) → WaitsFor defs (names_in texts) own t what
      → waits_for h.world t ≡ what
  waiting_by waits_alike going t what (inl w) =
      waits_alike h.versions (names_in texts) h.world own t what h.stands (h.stands.matches.finish ∙ on going) w
  waiting_by waits_alike going t what (inr lost) =
      absurd (never_nowhere h.versions (names_in texts) h.world own h.stands (on going) t lost.1)

  pub waiting_is : CodeWaitsAlike → is_over h.world ≡ false → (t : ℕ) (what : Option Waiting) → WaitsFor so_far (names_in texts) own t what
      → waits_for h.world t ≡ what
  waiting_is waits_alike going t what w =
      waiting_by waits_alike going t what (subst (λ (ts : List (List BareDef)). WaitsFor ts (names_in texts) own t what) h.installed w)

  -- ---- where a thread stops next

  module _ (going : is_over h.world ≡ false) (t : ℕ) where
    module _ (x : StopPlace) (n : IsNextStop defs (names_in texts) (image_of m) own t x) where
      next_point_by : next_point_in (in_slot h.world t) ≡ Some x.point
      next_point_by =
          point_next defs tags naming (in_slot h.world t) (code.in_slot own t) n.rests.thread
          n.frame n.rests.lives n.rests.next (matched going t) (stop_of (words_of (image_of m)) x.stop) x.point x.after n.stops

      next_leads : move_leads (in_slot h.world t) ≡ stop_leads (stop_of (words_of (image_of m)) x.stop) (is_called (code.in_slot own t))
      next_leads =
          leads_next defs tags naming (in_slot h.world t) (code.in_slot own t) n.rests.thread
          n.frame n.rests.lives n.rests.next (matched going t) (stop_of (words_of (image_of m)) x.stop) x.point x.after n.stops
          ∙ ap (stop_leads (stop_of (words_of (image_of m)) x.stop)) (sym called)
        where
          called : is_called (code.in_slot own t) ≡ is_some (slice_get n.rests.thread.below 0)
          called =
              ap is_called n.rests.lives
              ∙ ap (λ y. is_some (slice_get (asked.frames_by y n.rests.thread.below) 1)) n.rests.next

    pub next_point_is : (x : StopPlace) → IsNextStop so_far (names_in texts) (image_of m) own t x
        → next_point_in (in_slot h.world t) ≡ Some x.point
    next_point_is x n =
        next_point_by x (subst (λ (ts : List (List BareDef)). IsNextStop ts (names_in texts) (image_of m) own t x) h.installed n)

    no_point_by : HasNoStop defs own t → next_point_in (in_slot h.world t) ≡ None
    no_point_by none =
        no_point defs tags naming own t none (in_slot h.world t) (code.in_slot own t) refl
        (matched going t)

    pub no_next_point : HasNoStop so_far own t → next_point_in (in_slot h.world t) ≡ None
    no_next_point none = no_point_by (subst (λ (ts : List (List BareDef)). HasNoStop ts own t) h.installed none)

    none_leads : HasNoStop defs own t → asked.entering_in (code.in_slot own t) ≡ None → move_leads (in_slot h.world t) ≡ false
    none_leads none no_enter =
        leads_not defs tags naming own t none no_enter (in_slot h.world t) (code.in_slot own t)
        refl (matched going t)

    entering_leads : (name : Bytes) → asked.entering_in (code.in_slot own t) ≡ Some name → move_leads (in_slot h.world t) ≡ true
    entering_leads name e =
        enter_leads defs tags naming (in_slot h.world t) (code.in_slot own t) name e
        (matched going t)

    -- whether the move of a thread leads to a check-in
    leads_is : (leads : Bool) → LeadsNext defs (names_in texts) (image_of m) own t leads → move_leads (in_slot h.world t) ≡ leads
    leads_is leads (entering name e) = entering_leads name e
    leads_is leads (stopping x n) = next_leads x n
    leads_is leads (trapping none no_enter) = none_leads none no_enter

  pub led : (t : ℕ) (leads : Bool) → LeadsNext so_far (names_in texts) (image_of m) own t leads
      → option_map (λ x. is_over x.world) (source_run texts limits ms) ≡ Some false
      → option_map (λ x. move_leads (in_slot x.world t)) (source_run texts limits ms) ≡ Some leads
  led t leads next going =
      given (λ x. move_leads (in_slot x.world t)) texts limits ms h.world h.ran
      ∙ ap Some (leads_is (not_over texts limits ms h.world h.ran going) t leads
      (subst (λ (ts : List (List BareDef)). LeadsNext ts (names_in texts) (image_of m) own t leads) h.installed next))

  -- how many threads were started
  pub threads_are : option_map (λ x. x.world.threads) (source_run texts limits ms) ≡ Some own.threads
  threads_are = given (λ x. x.world.threads) texts limits ms h.world h.ran ∙ ap Some (sym h.stands.matches.threads)
