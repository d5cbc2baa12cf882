-- What a thread waits for, by the stop at which it rests.
use Rattle.std.proofs.Common.{◌≡◌, ℕ, List, Option, Some, None, is_some, ◌⊎◌, inl, inr, refl, sym, subst}
use Rattle.std.specs.Prelude.{option_map}
use Rattle.run_types.specs.declared.trap.TrapKind.{TrapKind}
use Rattle.c_tree.specs.BareExpr.{Bytes}
use Rattle.c_tree.specs.BareDef.{BareDef}
use Rattle.c_semantics.specs.Stops.{Stop, Lock, Join}
use Rattle.source_model.specs.Waits.{Waiting}
use Rattle.resolved_tree.specs.Nodes.{Table}
use Rattle.local_evaluation.specs.Pieces.{stop_of}
use Rattle.bytecode.specs.Meaning.{Step, Goes, Rests, Traps, Lost, step}
use Rattle.tree_code.specs.CodedPieces.{Stops}
use Rattle.code_runs.specs.CodeData.{Names}
use Rattle.code_runs.specs.CodeThreads.{CodeFrame, CodeNext, CodeSlot, CodeThread, CodeWorld}
use Rattle.code_runs.specs.CodeThreads as seen
use Rattle.code_runs.specs.CodeMoves.{frame_code}
use Rattle.code_runs.specs.CodeWaits.{Waits, WaitsNext, at_stop, in_slot, joined, entering, stopping, trapping}
use Rattle.word_data.specs.declared.stop.SharedStop.{SharedStop}
use Rattle.word_data.specs.declared.stop.SharedStop.TheVariants.{Lock as LockStop}
use Rattle.code_image.specs.declared.act.Act.{Act}
use Rattle.code_image.specs.declared.act.Act.TheVariants.{Shared, Join as JoinAct}
use Rattle.code_image.specs.declared.act.StopPlace.{StopPlace}
use Rattle.code_image.specs.declared.image.CodeImage.{CodeImage}
use Rattle.code_image.specs.Acts.{Acts}
use Rattle.code_machine.specs.Queries.{HasNoStop, IsNextStop, WaitsFor}
use Rattle.code_machine.specs.Seen.{words_of}

-- ---- stops that wait for nothing

-- only a lock and a join wait
pub awaits_none : (t : Table) (names : Names) (text : List BareDef) (function : ℕ → Option Bytes) (w : CodeWorld) (slot : ℕ) (s : Stop) (act : Act)
    (stack : List ℕ) → Acts t names text function s act → ((n : ℕ) → act ≡ Shared (LockStop n) → ⊥) → (act ≡ JoinAct → ⊥)
    → at_stop names w slot s stack ≡ None
awaits_none t names text function w slot (Lock name) (Shared (LockStop n)) stack a no_lock no_join = absurd (no_lock n refl)
awaits_none t names text function w slot (Lock name) act stack a no_lock no_join = absurd a
awaits_none t names text function w slot Join JoinAct stack a no_lock no_join = absurd (no_join refl)
awaits_none t names text function w slot Join act stack a no_lock no_join = absurd a
awaits_none t names text function w slot s act stack a no_lock no_join = refl

-- no other stop on what threads share does
pub awaits_lock : (t : Table) (names : Names) (text : List BareDef) (function : ℕ → Option Bytes) (w : CodeWorld) (slot : ℕ) (s : Stop) (stop : SharedStop)
    (stack : List ℕ) → Acts t names text function s (Shared stop) → ((n : ℕ) → stop ≡ LockStop n → ⊥) → at_stop names w slot s stack ≡ None
awaits_lock t names text function w slot s stop stack a no_lock =
    awaits_none t names text function w slot s (Shared stop) stack a (λ n e. no_lock n (same_stop stop (LockStop n) e)) (λ e. not_join stop e)
  where
    same_stop : (a b : SharedStop) → ◌≡◌ {A = Act} (Shared a) (Shared b) → a ≡ b
    same_stop a b e = cc

    not_join : (a : SharedStop) → ◌≡◌ {A = Act} (Shared a) JoinAct → ⊥
    not_join a e = cc

-- a join waits for a thread
pub awaits_thread : (t : Table) (names : Names) (text : List BareDef) (function : ℕ → Option Bytes) (w : CodeWorld) (slot : ℕ) (s : Stop) (stack : List ℕ)
    → Acts t names text function s JoinAct → at_stop names w slot s stack ≡ joined w.slots stack
awaits_thread t names text function w slot Join stack a = refl
awaits_thread t names text function w slot s stack a = absurd a

-- ---- what a thread waits for

module _ (texts : List (List BareDef)) (names : Names) (w : CodeWorld) (slot : ℕ) where
  abbrev AllWait : CodeSlot → Option Waiting → Type 0
  AllWait x what = Waits texts names w slot x what

  -- it rests at a stop
  pub stop_waits : (image : CodeImage) (x : StopPlace) (what : Option Waiting) (n : IsNextStop texts names image w slot x)
      → what ≡ at_stop names w slot (stop_of (words_of image) x.stop) n.frame.state.stack → WaitsFor texts names w slot what
  stop_waits image x what n is =
      inl (subst (λ y. AllWait y what) (sym n.rests.lives)
      (subst (λ next. WaitsNext texts names w slot next what) (sym n.rests.next)
      (subst (WaitsNext texts names w slot (seen.Rests n.frame)) (sym is)
      (stopping n.frame (stop_of (words_of image) x.stop) x.point x.after n.stops))))

  -- or at none
  pub none_waits : HasNoStop texts w slot → WaitsFor texts names w slot None
  none_waits none = by (in_slot w slot) refl
    where
      traps_or : (s : Step) → ((kind : TrapKind) × (s ≡ Traps kind)) ⊎ ((kind : TrapKind) → s ≡ Traps kind → ⊥)
      traps_or (Goes m) = inr (λ kind e. cc)
      traps_or (Traps kind) = inl (kind, refl)
      traps_or Rests = inr (λ kind e. cc)
      traps_or Lost = inr (λ kind e. cc)

      waits_as : (th : CodeThread) → in_slot w slot ≡ seen.Live th → WaitsNext texts names w slot th.next None
          → WaitsFor texts names w slot None
      waits_as th lives h = inl (subst (λ y. AllWait y None) (sym lives) h)

      resting : (th : CodeThread) → in_slot w slot ≡ seen.Live th → (f : CodeFrame) → th.next ≡ seen.Rests f → WaitsFor texts names w slot None
      resting th lives f next = at (none f (record { thread = th; lives = lives; next = next })) (traps_or (step (frame_code texts f) f.state))
        where
          trapped : (kind : TrapKind) → step (frame_code texts f) f.state ≡ Traps kind → WaitsFor texts names w slot None
          trapped kind e =
              waits_as th lives (subst (λ x. WaitsNext texts names w slot x None) (sym next) (trapping f kind e))

          at : ((kind : TrapKind) × (step (frame_code texts f) f.state ≡ Traps kind))
              ⊎ ((s : Stop) (n after : ℕ) → Stops (frame_code texts f) s n f.state.place after → ⊥)
              → ((kind : TrapKind) × (step (frame_code texts f) f.state ≡ Traps kind))
              ⊎ ((kind : TrapKind) → step (frame_code texts f) f.state ≡ Traps kind → ⊥)
              → WaitsFor texts names w slot None
          at h (inl e) = trapped e.0 e.1
          at (inl e) (inr never) = absurd (never e.0 e.1)
          at (inr none) (inr never) =
              inr (refl, record { thread = th; frame = f; lives = lives; next = next; traps = never; stops = none })

      lives_so : (th : CodeThread) → in_slot w slot ≡ seen.Live th → (x : CodeNext) → th.next ≡ x → WaitsFor texts names w slot None
      lives_so th lives (seen.Enters e) is =
          waits_as th lives (subst (λ x. WaitsNext texts names w slot x None) (sym is) (entering e))
      lives_so th lives (seen.Rests f) is = resting th lives f is

      by : (x : CodeSlot) → in_slot w slot ≡ x → WaitsFor texts names w slot None
      by seen.Free is = inl (subst (λ y. AllWait y None) (sym is) refl)
      by (seen.Live th) is = lives_so th is th.next refl
      by (seen.Over serial v) is = inl (subst (λ y. AllWait y None) (sym is) refl)

-- an answer whose names are looked up is one
pub still_some : {A B : Type 0} (f : A → B) (o : Option A) → is_some o ≡ is_some (option_map f o)
still_some f None = refl
still_some f (Some a) = refl
