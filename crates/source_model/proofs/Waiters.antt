-- Who waits can't move.
use Rattle.std.proofs.Common.{◌≡◌, ◌≢◌, ℕ, ◌↔◌, Bool, true, false, IsTrue, List, ◌∷◌, Option, Some, None, refl, sym, ap, ◌∙◌}
use Rattle.std.specs.Prelude.{◌==◌, ◌||◌, if◌then◌else◌}
use Rattle.std.specs.Option.{is_some}
use Rattle.std.proofs.lemmas.Bool.{eq-eqb, ne_eqb}
use Rattle.c_tree.specs.BareExpr.{Bytes}
use Rattle.c_semantics.specs.Values.{ThreadRef, Value, Started}
use Rattle.run_types.specs.declared.trap.TrapKind.TheVariants.{Join as NotJoined}
use Rattle.source_model.specs.Worlds.{World, Slot, Live, Over, in_slot, holder_of, is_over, with_slot}
use Rattle.source_model.specs.Worlds as world
use Rattle.source_model.specs.Moves.{Standing, goes_on, join_slot, move, move_of, traps}
use Rattle.source_model.specs.Laws.{JoinsAreMade, LocksWait, WaitersStand}
use Rattle.source_model.specs.Waits.{Waiting, ForMutex, held_by, must_wait, waits_for}

-- what waits for something waits, whether or not the run is over
waits_too : (over : Bool) (o : Option Waiting) (what : Waiting) (made : Option World) → o ≡ Some what
    → (if over || is_some o then None else made) ≡ None
waits_too true o what made e = refl
waits_too false (Some _) what made e = refl
waits_too false None what made e = absurd (no e)
  where
    no : {A : Type 0} {a : A} → None ≡ Some a → ⊥
    no e = cc

pub waiters_stand : WaitersStand
waiters_stand w slot what e = waits_too (is_over w) (waits_for w slot) what (move_of w slot (in_slot w slot)) e

-- a mutex that is held, by whether the slot itself holds it
none_isnt : (what : Waiting) → None ≡ Some what → ⊥
none_isnt what e = cc

same_holder : (name : Bytes) (a b : ℕ) → Some (ForMutex name a) ≡ Some (ForMutex name b) → a ≡ b
same_holder name a b e = cc

apart : (slot holder : ℕ) → (holder == slot) ≡ false → holder ≢ slot
apart slot holder e same = no (sym (eq-eqb holder slot same) ∙ e)
  where
    no : true ≡ false → ⊥
    no e = cc

held_when : (name : Bytes) (slot found holder : ℕ) (own : Bool) → (found == slot) ≡ own
    → (if own then None else Some (ForMutex name found)) ≡ Some (ForMutex name holder) → (Some found ≡ Some holder) × (holder ≢ slot)
held_when name slot found holder true own e = absurd (none_isnt _ e)
held_when name slot found holder false own e =
    let same = same_holder name found holder e in
    (ap Some same, λ z. apart slot found own (same ∙ z))

held : (name : Bytes) (slot holder : ℕ) (o : Option ℕ) → held_by name slot o ≡ Some (ForMutex name holder)
    → (o ≡ Some holder) × (holder ≢ slot)
held name slot holder None e = absurd (none_isnt _ e)
held name slot holder (Some found) e = held_when name slot found holder (found == slot) refl e

by_other : (name : Bytes) (slot holder : ℕ) (o : Option ℕ) → o ≡ Some holder → holder ≢ slot
    → held_by name slot o ≡ Some (ForMutex name holder)
by_other name slot holder o found other =
    let by : Bool → Option Waiting = λ b. if b then None else Some (ForMutex name holder) in
    ap (held_by name slot) found ∙ ap by (ne_eqb holder slot other)

pub locks_wait : LocksWait
locks_wait name w slot holder values =
    (held name slot holder (holder_of w name), λ both. by_other name slot holder (holder_of w name) both.0 both.1)

-- a join of a thread by what is in its slot
is_made : (b : Bool) (o p : Option World) → IsTrue (is_some o) → IsTrue (is_some p) → IsTrue (is_some (if b then o else p))
is_made true o p h i = h
is_made false o p h i = i

slot_made : (s : Standing) (named : ThreadRef) (values : List Value) (x : Slot) → IsTrue (is_some (join_slot s named values x))
slot_made s named values world.Free = refl
slot_made s named values (Live th) = refl
slot_made s named values (Over serial result) =
    is_made (serial == named.serial) (goes_on s (with_slot named.slot world.Free s.world) (result ∷ values)) (traps s NotJoined) refl refl

pub joins_are_made : JoinsAreMade
joins_are_made s None values = refl
joins_are_made s (Some named) values = slot_made s named values (in_slot s.world named.slot)
