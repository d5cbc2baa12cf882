-- Mutexes that are held.
use Rattle.std.proofs.Common.{◌≡◌, ℕ, not, if◌then◌else◌, List, [], ◌∷◌, ◌++◌, Option, Some, None, filter, bytes_eq, refl, sym, ap, ◌∙◌}
use Rattle.run_types.specs.declared.trap.TrapKind.TheVariants.{Relock, Unlock as NotHeld, MutexHeld}
use Rattle.c_tree.specs.BareExpr.{Bytes}
use Rattle.c_tree.specs.BareDef.{BareDef}
use Rattle.c_semantics.specs.Stops.{InitMutex, Lock, Unlock}
use Rattle.c_semantics.specs.Values.{int_of}
use Rattle.source_model.specs.Worlds.{World, holder_of, with_holder, released}
use Rattle.source_model.specs.Moves.{initialise, lock, unlock, goes_on, traps}
use Rattle.local_evaluation.specs.declared.value.Value.{Value}
use Rattle.source_data.specs.declared.store.Store.{Store}
use Rattle.source_data.specs.declared.store.Held.{Held}
use Rattle.source_data.specs.declared.shared_stops.Did.TheVariants.{On, Trap}
use Rattle.resolved_tree.specs.Nodes.{Table}
use Rattle.local_evaluation.specs.Work.{newest}
use Rattle.source_data.specs.Stores.{Performs, standing_with, with_store, holders_of, held_of}
use Rattle.source_data.proofs.Newest.{last_first, filtered}
use Rattle.source_data.proofs.Performing.{goes, same_number, other_number}

-- one more that is held
pub holders_push : (t : Table) (hs : List Held) (h : Held) → holders_of t (hs ++ h ∷ []) ≡ held_of t h ∷ holders_of t hs
holders_push t hs h = last_first (held_of t) hs h

-- those without a mutex
pub holders_without : (t : Table) (mutex : Bytes) (hs : List Held)
    → holders_of t (filter (λ h. not (bytes_eq mutex (held_of t h).mutex)) hs) ≡ filter (λ h. not (bytes_eq mutex h.mutex)) (holders_of t hs)
holders_without t mutex hs = filtered (held_of t) (λ h. not (bytes_eq mutex h.mutex)) hs

-- who holds a mutex of what is shared
abbrev pub Holds : Table → Store → Bytes → Option ℕ → Type 0
Holds t store mutex holder = (w : World) → holder_of (with_store t store w) mutex ≡ holder

pub initialises : (t : Table) (text : List BareDef) (slot : ℕ) (store : Store) (mutex : Bytes) (values after : List Value)
    → Holds t store mutex None → newest after ≡ int_of 0 ∷ newest values
    → Performs t text slot (InitMutex mutex) store values On store after
initialises t text slot store mutex values after free done =
    goes t text slot (InitMutex mutex) store store values after (λ w. w) (int_of 0 ∷ newest values)
    (λ s at defined. ap (initialise (standing_with t store s) (newest values)) (free s.world))
    (λ w defined. refl) done

pub held_traps : (t : Table) (text : List BareDef) (slot holder : ℕ) (store : Store) (mutex : Bytes) (values : List Value)
    → Holds t store mutex (Some holder)
    → Performs t text slot (InitMutex mutex) store values (Trap MutexHeld) store values
held_traps t text slot holder store mutex values held = λ s at defined.
    ap (initialise (standing_with t store s) (newest values)) (held s.world)

pub locks : (t : Table) (text : List BareDef) (slot : ℕ) (old new : Store) (mutex : Bytes) (values after : List Value)
    → Holds t old mutex None → ((w : World) → with_store t new w ≡ with_holder mutex slot (with_store t old w))
    → newest after ≡ int_of 0 ∷ newest values
    → Performs t text slot (Lock mutex) old values On new after
locks t text slot old new mutex values after free changed done =
    goes t text slot (Lock mutex) old new values after (with_holder mutex slot) (int_of 0 ∷ newest values)
    (λ s at defined. ap (lock (standing_with t old s) mutex (newest values)) (free s.world)
    ∙ ap (λ n. goes_on (standing_with t old s) (with_holder mutex n (with_store t old s.world)) (int_of 0 ∷ newest values)) at)
    (λ w defined. changed w) done

pub relock_traps : (t : Table) (text : List BareDef) (slot holder : ℕ) (store : Store) (mutex : Bytes) (values : List Value)
    → Holds t store mutex (Some holder)
    → Performs t text slot (Lock mutex) store values (Trap Relock) store values
relock_traps t text slot holder store mutex values held = λ s at defined.
    ap (lock (standing_with t store s) mutex (newest values)) (held s.world)

pub unlocks : (t : Table) (text : List BareDef) (slot : ℕ) (old new : Store) (mutex : Bytes) (values after : List Value)
    → Holds t old mutex (Some slot) → ((w : World) → with_store t new w ≡ released mutex (with_store t old w))
    → newest after ≡ int_of 0 ∷ newest values
    → Performs t text slot (Unlock mutex) old values On new after
unlocks t text slot old new mutex values after held changed done =
    goes t text slot (Unlock mutex) old new values after (released mutex) (int_of 0 ∷ newest values)
    (λ s at defined. ap (unlock (standing_with t old s) mutex (newest values)) (held s.world)
    ∙ ap (λ b. if b then goes_on (standing_with t old s) (released mutex (with_store t old s.world)) (int_of 0 ∷ newest values) else traps (standing_with t old s) NotHeld)
    (same_number slot s.slot (sym at)))
    (λ w defined. changed w) done

pub unlock_traps : (t : Table) (text : List BareDef) (slot holder : ℕ) (store : Store) (mutex : Bytes) (values : List Value)
    → Holds t store mutex (Some holder) → (holder ≡ slot → ⊥)
    → Performs t text slot (Unlock mutex) store values (Trap NotHeld) store values
unlock_traps t text slot holder store mutex values held other = λ s at defined.
    ap (unlock (standing_with t store s) mutex (newest values)) (held s.world)
    ∙ ap (λ b. if b then goes_on (standing_with t store s) (released mutex (with_store t store s.world)) (int_of 0 ∷ newest values) else traps (standing_with t store s) NotHeld)
    (other_number holder s.slot (λ e. other (e ∙ at)))

pub free_traps : (t : Table) (text : List BareDef) (slot : ℕ) (store : Store) (mutex : Bytes) (values : List Value)
    → Holds t store mutex None
    → Performs t text slot (Unlock mutex) store values (Trap NotHeld) store values
free_traps t text slot store mutex values free = λ s at defined.
    ap (unlock (standing_with t store s) mutex (newest values)) (free s.world)
