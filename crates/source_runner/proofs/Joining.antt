-- Joins.
use Rattle.std.proofs.Common.{◌≡◌, ℕ, ◌==◌, Bool, true, false, List, ◌∷◌, drop, ◌⊎◌, inl, inr, Option, Some, None, option_map, if◌then◌else◌, refl, sym, ap, subst, ◌∙◌}
use Rattle.std.proofs.lemmas.Bool.{eq-eqb, ne_eqb}
use Rattle.c_semantics.specs.Values.{Value as Seen}
use Rattle.c_semantics.specs.Values as value
use Rattle.c_semantics.specs.Threads.{Thread as SeenThread}
use Rattle.run_types.specs.declared.trap.TrapKind.TheVariants.{Join as NotJoined}
use Rattle.source_model.specs.Worlds.{World, in_slot, with_slot}
use Rattle.source_model.specs.Worlds as world
use Rattle.source_model.specs.Moves.{Standing, goes_on, join, join_slot, traps}
use Rattle.local_evaluation.specs.declared.value.Value.{Value}
use Rattle.local_evaluation.specs.declared.value.ThreadRef.{ThreadRef}
use Rattle.source_runner.specs.declared.thread.Thread.{Thread}
use Rattle.source_runner.specs.declared.thread.Frame.{Frame}
use Rattle.source_runner.specs.declared.thread.Slot.{Slot}
use Rattle.source_runner.specs.declared.thread.Slot.TheVariants.{Free, Live, Over}
use Rattle.source_runner.specs.declared.machine.Machine.{Machine}
use Rattle.resolved_tree.specs.Nodes.{Table}
use Rattle.source_programs.specs.Programs.{table_of}
use Rattle.source_runner.specs.Joins.{result_in, result_of}
use Rattle.local_evaluation.specs.Values.{seen, seen_thread}
use Rattle.local_evaluation.specs.Work.{newest}
use Rattle.source_runner.specs.Machines.{IsSlot, StandsBut, slot_at, standing_at}
use Rattle.source_runner.proofs.Spawns.{nat_dec}

-- what the definitions make of the result that was found, if one was
abbrev pub joins : Option Value → Standing → ℕ → List Seen → Option World
joins (Some v) s place values = goes_on s (with_slot place world.Free s.world) (seen v ∷ values)
joins None s place values = traps s NotJoined

by_serial : (v : Value) (s : Standing) (place : ℕ) (values : List Seen) (b : Bool)
    → (if b then joins (Some v) s place values else traps s NotJoined) ≡ joins (if b then Some v else None) s place values
by_serial v s place values true = refl
by_serial v s place values false = refl

-- a slot
joins_slot : (t : Table) (over : Bool) (x : Slot) (o : world.Slot) (s : Standing) (named : ThreadRef) (values : List Seen)
    → IsSlot t over x o → join_slot s (seen_thread named) values o ≡ joins (result_in x named.serial) s named.slot values
joins_slot t over Free o s named values is = ap (join_slot s (seen_thread named) values) is
joins_slot t over (Over ended v) o s named values is =
    ap (join_slot s (seen_thread named) values) is ∙ by_serial v s named.slot values (ended == named.serial)
joins_slot t over (Live th n) o s named values (m, is, h) = ap (join_slot s (seen_thread named) values) is

-- the slot of a named thread
joins_named : (m : Machine) (slot : ℕ) (w : World) (before user : SeenThread) (th : Thread) (f : Frame) (point : ℕ) (named : ThreadRef) (values : List Seen)
    → StandsBut m slot w before
    → join_slot (standing_at (table_of m.program) w slot th f point user) (seen_thread named) values (in_slot w named.slot)
    ≡ joins (result_of m.slots.items slot named) (standing_at (table_of m.program) w slot th f point user) named.slot values
joins_named m slot w before user th f point named values h = by (nat_dec named.slot slot)
  where
    s : Standing
    s = standing_at (table_of m.program) w slot th f point user

    other : Option Value
    other = result_in (slot_at m.slots.items named.slot) named.serial

    answer : Bool → Option World
    answer b = joins (if b then None else other) s named.slot values

    by : (named.slot ≡ slot) ⊎ (named.slot ≡ slot → ⊥)
        → join_slot s (seen_thread named) values (in_slot w named.slot) ≡ joins (result_of m.slots.items slot named) s named.slot values
    by (inl e) =
        ap (λ k. join_slot s (seen_thread named) values (in_slot w k)) e
        ∙ ap (join_slot s (seen_thread named) values) h.own
        ∙ ap answer (sym (eq-eqb named.slot slot e))
    by (inr apart) =
        joins_slot _ _ (slot_at m.slots.items named.slot) (in_slot w named.slot) s named values (h.others named.slot apart)
        ∙ ap answer (sym (ne_eqb named.slot slot apart))

-- the result in place of the handle
pub taken_result : (s : Standing) (place : ℕ) (v : Value) (rest after : List Seen) → after ≡ seen v ∷ rest
    → goes_on s (with_slot place world.Free s.world) (seen v ∷ rest) ≡ goes_on s (with_slot place world.Free s.world) after
taken_result s place v rest after e = ap (goes_on s (with_slot place world.Free s.world)) (sym e)

-- a result is another thread's
pub result_apart : (ss : List Slot) (slot : ℕ) (named : ThreadRef) (a : Option Value) (v : Value) → a ≡ result_of ss slot named → a ≡ Some v
    → named.slot ≡ slot → ⊥
result_apart ss slot named a v at is e = no (ap answer (sym (eq-eqb named.slot slot e)) ∙ sym at ∙ is)
  where
    answer : Bool → Option Value
    answer b = if b then None else result_in (slot_at ss named.slot) named.serial

    no : None ≡ Some v → ⊥
    no z = cc

-- the result that was found in a slice of the slots
pub found_in : (ss items : List Slot) (slot : ℕ) (named : ThreadRef) (a b : Option Value) → ss ≡ items → a ≡ result_of ss slot named → a ≡ b
    → result_of items slot named ≡ b
found_in ss items slot named a b e at is = ap (λ xs. result_of xs slot named) (sym e) ∙ sym at ∙ is

-- the join as it was answered
pub join_as : (m : Machine) (slot : ℕ) (w : World) (before user : SeenThread) (th : Thread) (f : Frame) (point : ℕ) (named : ThreadRef) (values : List Seen)
    (a : Option Value) → StandsBut m slot w before → result_of m.slots.items slot named ≡ a
    → join_slot (standing_at (table_of m.program) w slot th f point user) (seen_thread named) values (in_slot w named.slot)
    ≡ joins a (standing_at (table_of m.program) w slot th f point user) named.slot values
join_as m slot w before user th f point named values a h is =
    joins_named m slot w before user th f point named values h
    ∙ ap (λ x. joins x (standing_at (table_of m.program) w slot th f point user) named.slot values) is

-- the newest value is a handle
pub handle_at : (t : Table) (w : World) (slot : ℕ) (th : Thread) (f : Frame) (point : ℕ) (user : SeenThread) (vs : List Value) (v : Seen)
    → vs ≡ f.work.values.items → newest vs ≡ v ∷ drop 1 (newest vs)
    → join (standing_at t w slot th f point user) (newest f.work.values.items)
    ≡ join (standing_at t w slot th f point user) (v ∷ drop 1 (newest f.work.values.items))
handle_at t w slot th f point user vs v e h =
    ap (join (standing_at t w slot th f point user)) (subst (λ xs. newest xs ≡ v ∷ drop 1 (newest xs)) e h)

-- it is none
pub no_handle : (s : Standing) (vs ws : List Value) → vs ≡ ws → join s (newest vs) ≡ None → join s (newest ws) ≡ None
no_handle s vs ws e h = subst (λ xs. join s (newest xs) ≡ None) e h

pub handle_some : (s : Standing) (o : Option ThreadRef) (named : ThreadRef) (values : List Seen) → o ≡ Some named
    → join s (value.Started (option_map seen_thread o) ∷ values) ≡ join_slot s (seen_thread named) values (in_slot s.world named.slot)
handle_some s o named values e = let of : Option ThreadRef → Option World = λ x. join s (value.Started (option_map seen_thread x) ∷ values) in ap of e

pub handle_none : (s : Standing) (o : Option ThreadRef) (values : List Seen) → o ≡ None
    → join s (value.Started (option_map seen_thread o) ∷ values) ≡ traps s NotJoined
handle_none s o values e = let of : Option ThreadRef → Option World = λ x. join s (value.Started (option_map seen_thread x) ∷ values) in ap of e
