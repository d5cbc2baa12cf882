-- A thread that is started, and one whose result is taken.
use Rattle.std.proofs.Common.{◌≡◌, ℕ, zero, suc, ◌+◌, ◌<◌, Bool, true, false, List, [], ◌∷◌, length, drop, slice_index_or, slice_set, Option, Some, None, ◌⊎◌, inl, inr, cond, nat_lt, refl, sym, ap, ap₂, subst, ◌∙◌, arith}
use Rattle.std.specs.Prelude.{Vec}
use Rattle.std.specs.List.{position, position_or_len}
use Rattle.std.specs.declared.alloc.Global.{Global}
use Rattle.std.proofs.lemmas.List.{get_or-set_other, length-set}
use Rattle.std.proofs.lemmas.List.Recursion.{is_position_or_len}
use Rattle.c_semantics.specs.Values.{Value as Seen, ThreadRef as SeenRef}
use Rattle.c_semantics.specs.Values as value
use Rattle.c_semantics.specs.Threads.{Enter as SeenEnter, Thread as SeenThread, started}
use Rattle.source_model.specs.Worlds.{World, is_over, in_slot, with_slot, with_thread}
use Rattle.source_model.specs.Worlds as world
use Rattle.source_model.specs.Moves.{Standing, goes_on, gone_on, is_free, spawn, start_in}
use Rattle.local_evaluation.specs.declared.value.Value.{Value}
use Rattle.local_evaluation.specs.declared.value.Value.TheVariants.{Started}
use Rattle.local_evaluation.specs.declared.value.ThreadRef.{ThreadRef}
use Rattle.resolved_tree.specs.declared.words.Word.{Word}
use Rattle.source_runner.specs.declared.thread.Slot.{Slot}
use Rattle.source_runner.specs.declared.thread.Slot.TheVariants.{Free, Live, Over}
use Rattle.source_runner.specs.declared.machine.Machine.{Machine}
use Rattle.resolved_tree.specs.Nodes.{Table, word}
use Rattle.source_programs.specs.Programs.{table_of}
use Rattle.source_runner.specs.Joins.{is_free_slot}
use Rattle.local_evaluation.specs.Values.{seen}
use Rattle.local_evaluation.specs.Work.{newest}
use Rattle.source_runner.specs.declared.thread.Frame.{Frame}
use Rattle.source_runner.specs.declared.thread.Thread.{Thread}
use Rattle.source_runner.specs.Machines.{IsPut, IsSlot, IsStarted, StandsBut, enter_with, slot_at, standing_at, started_as, started_in}
use Rattle.source_runner.proofs.Slots.{each_other}

-- the free slots are the same
free_as : (t : Table) (over : Bool) (s : Slot) (o : world.Slot) → IsSlot t over s o → is_free_slot s ≡ is_free o
free_as t over Free o h = ap is_free (sym h)
free_as t over (Live th n) o (m, is, h) = ap is_free (sym is)
free_as t over (Over serial v) o h = ap is_free (sym h)

first_of : {X : Type 0} → (X → Bool) → List X → ℕ
first_of p [] = 0
first_of p (x ∷ xs) = cond (p x) 0 (1 + first_of p xs)

first_is : {X : Type 0} (p : X → Bool) (xs : List X) → first_of p xs ≡ position_or_len p xs
unfolding first_of
first_is p xs = is_position_or_len (first_of p) p refl (λ x ys. refl) xs

same_firsts : (ss : List Slot) (os : List world.Slot) → length os ≡ length ss
    → ((n : ℕ) → is_free_slot (slot_at ss n) ≡ is_free (slice_index_or os n world.Free))
    → first_of is_free_slot ss ≡ first_of is_free os
unfolding first_of
same_firsts [] [] e h = refl
same_firsts [] (o ∷ os) e h = absurd (no e)
  where
    no : suc (length os) ≡ 0 → ⊥
    no z = omega (arith, z)
same_firsts (s ∷ ss) [] e h = absurd (no e)
  where
    no : 0 ≡ suc (length ss) → ⊥
    no z = omega (arith, z)
same_firsts (s ∷ ss) (o ∷ os) e h =
    let of : Bool → ℕ → ℕ = λ b n. cond b 0 (1 + n) in ap₂ of (h 0) (same_firsts ss os (omega (arith, e)) (λ n. h (suc n)))

firsts : (ss : List Slot) (os : List world.Slot) → length os ≡ length ss
    → ((n : ℕ) → is_free_slot (slot_at ss n) ≡ is_free (slice_index_or os n world.Free))
    → position_or_len is_free_slot ss ≡ position_or_len is_free os
firsts ss os e h = sym (first_is is_free_slot ss) ∙ same_firsts ss os e h ∙ first_is is_free os

positions : (ss : List Slot) (os : List world.Slot) → length os ≡ length ss
    → ((n : ℕ) → is_free_slot (slot_at ss n) ≡ is_free (slice_index_or os n world.Free))
    → position is_free_slot ss ≡ position is_free os
positions ss os e h =
    let of : ℕ → ℕ → Option ℕ = λ n l. cond (nat_lt n l) (Some n) None in ap₂ of (firsts ss os e h) (sym e)

pub nat_dec : (a b : ℕ) → (a ≡ b) ⊎ (a ≡ b → ⊥)
nat_dec zero zero = inl refl
nat_dec zero (suc b) = inr no
  where
    no : 0 ≡ suc b → ⊥
    no e = omega (arith, e)
nat_dec (suc a) zero = inr no
  where
    no : suc a ≡ 0 → ⊥
    no e = omega (arith, e)
nat_dec (suc a) (suc b) = by (nat_dec a b)
  where
    by : (a ≡ b) ⊎ (a ≡ b → ⊥) → (suc a ≡ suc b) ⊎ (suc a ≡ suc b → ⊥)
    by (inl e) = inl (ap suc e)
    by (inr other) = inr (λ e. other (omega (arith, e)))

-- of a machine whose thread was taken from its slot, which isn't free
pub least_free : (m : Machine) (slot : ℕ) (w : World) (before : SeenThread) → StandsBut m slot w before
    → position is_free_slot m.slots.items ≡ position is_free w.slots
least_free m slot w before h = positions m.slots.items w.slots h.all.count (λ n. each n (nat_dec n slot))
  where
    each : (n : ℕ) → (n ≡ slot) ⊎ (n ≡ slot → ⊥) → is_free_slot (slot_at m.slots.items n) ≡ is_free (in_slot w n)
    each n (inl e) =
        ap (λ k. is_free_slot (slot_at m.slots.items k)) e ∙ ap is_free_slot h.taken ∙ sym (ap is_free h.own) ∙ ap (λ k. is_free (in_slot w k)) (sym e)
    each n (inr apart) = free_as _ _ (slot_at m.slots.items n) (in_slot w n) (h.others n apart)

-- a slot that is free isn't the one that was taken
pub apart_from : (m : Machine) (slot place : ℕ) (w : World) (before : SeenThread) → StandsBut m slot w before
    → is_free_slot (slot_at m.slots.items place) ≡ true → slot ≡ place → ⊥
apart_from m slot place w before h free e = no (sym (ap is_free_slot (ap (slot_at m.slots.items) (sym e) ∙ h.taken)) ∙ free)
  where
    no : false ≡ true → ⊥
    no x = cc

-- another slot changed
pub put_other : (m : Machine) (v : Vec Slot Global) (slot place : ℕ) (w : World) (before : SeenThread) (s : Slot) (o : world.Slot)
    → StandsBut m slot w before → (slot ≡ place → ⊥) → v.items ≡ slice_set m.slots.items place s
    → IsSlot (table_of m.program) (is_over w) s o
    → StandsBut (record m { slots = v }) slot (with_slot place o w) before
put_other m v slot place w before s o h apart e is = record {
  all = record {
    program = h.all.program;
    history = h.all.history;
    text = h.all.text;
    store = let on : World → World = λ x. record x { slots = slice_set w.slots place o } in ap on h.all.store;
    threads = h.all.threads;
    misused = h.all.misused;
    finish = h.all.finish;
    count = length-set w.slots place o ∙ h.all.count ∙ sym (ap length e ∙ length-set m.slots.items place s);
  };
  within = subst (λ n. slot < n) (sym (ap length e ∙ length-set m.slots.items place s)) h.within;
  others = λ n other.
      subst (λ ss. IsSlot (table_of m.program) (is_over w) (slot_at ss n) (slice_index_or (slice_set w.slots place o) n world.Free)) (sym e)
      (each_other (table_of m.program) (is_over w) m.slots.items w.slots slot place s o h.all.count h.others is n other);
  taken = ap (λ ss. slot_at ss slot) e ∙ get_or-set_other m.slots.items place slot s Free apart ∙ h.taken;
  own = get_or-set_other w.slots place slot o world.Free apart ∙ h.own;
}

-- one thread more was started
pub one_more : (m : Machine) (slot : ℕ) (w : World) (before : SeenThread) → StandsBut m slot w before
    → StandsBut (record m { threads = suc m.threads }) slot (record w { threads = suc w.threads }) before
one_more m slot w before h = record {
  all = record {
    program = h.all.program;
    history = h.all.history;
    text = h.all.text;
    store = let on : World → World = λ x. record x { threads = suc w.threads } in ap on h.all.store;
    threads = ap suc h.all.threads;
    misused = h.all.misused;
    finish = h.all.finish;
    count = h.all.count;
  };
  within = h.within;
  others = h.others;
  taken = h.taken;
  own = h.own;
}

-- what was put into a free slot is the thread that is started there
pub starts : (m new : Machine) (slot place : ℕ) (w : World) (before : SeenThread) (name : Word) (argument : Value) (version : ℕ)
    → StandsBut m slot w before → position is_free_slot m.slots.items ≡ Some place
    → is_free_slot (slot_at m.slots.items place) ≡ true → IsPut m new place name argument version
    → IsStarted new slot w before (enter_with (table_of m.program) name argument version) (Some (record { slot = place; serial = m.threads }))
starts m new slot place w before name argument version h found free put = record {
  stands = subst (λ x. StandsBut x slot (started_in w enter (position is_free w.slots)) before) (sym put.same) (subst (λ o. StandsBut made slot (started_in w enter o) before) at there);
  named = ap (λ n. Some (record { slot = place; serial = n })) (sym h.all.threads) ∙ ap (started_as w) at;
}
  where
    enter : SeenEnter
    enter = enter_with (table_of m.program) name argument version

    made : Machine
    made = record m { slots = new.slots; threads = suc m.threads }

    at : Some place ≡ position is_free w.slots
    at = sym found ∙ least_free m slot w before h

    thread : IsSlot (table_of m.program) (is_over w) put.slot.0 (world.Live (started w.threads enter))
    thread = subst (λ n. IsSlot (table_of m.program) (is_over w) put.slot.0 (world.Live (started n enter))) (sym h.all.threads)
        (put.slot.2 (table_of m.program) (is_over w))

    there : StandsBut made slot (started_in w enter (Some place)) before
    there = put_other (record m { threads = suc m.threads }) new.slots slot place (record w { threads = suc w.threads }) before put.slot.0
        (world.Live (started w.threads enter)) (one_more m slot w before h) (apart_from m slot place w before h free) put.slot.1 thread

-- no slot is free
pub starts_none : (m : Machine) (slot : ℕ) (w : World) (before : SeenThread) (enter : SeenEnter) → StandsBut m slot w before
    → position is_free_slot m.slots.items ≡ None → IsStarted m slot w before enter None
starts_none m slot w before enter h found = record {
  stands = subst (λ o. StandsBut m slot (started_in w enter o) before) at h;
  named = ap (started_as w) at;
}
  where
    at : None ≡ position is_free w.slots
    at = sym found ∙ least_free m slot w before h

-- the stop of a start
pub start_goes : (s : Standing) (enter : SeenEnter) (values : List Seen) (o : Option ℕ)
    → start_in s enter values o ≡ goes_on s (started_in s.world enter o) (value.Started (started_as s.world o) ∷ values)
start_goes s enter values None = refl
start_goes s enter values (Some place) = refl

-- the least free slot as a slice's place
pub free_at : (ss items : List Slot) (o : Option ℕ) (found : Option ℕ) → ss ≡ items → found ≡ position is_free_slot ss → found ≡ o
    → position is_free_slot items ≡ o
free_at ss items o found e at is = sym (ap (position is_free_slot) e) ∙ sym at ∙ is

pub free_there : (ss items : List Slot) (place : ℕ) → ss ≡ items → is_free_slot (slot_at ss place) ≡ true → is_free_slot (slot_at items place) ≡ true
free_there ss items place e h = sym (ap (λ xs. is_free_slot (slot_at xs place)) e) ∙ h

-- the thread after its spawn: what it has still to do, and the handle
pub spawned : (m new : Machine) (slot : ℕ) (th : Thread) (f : Frame) (values : Vec Value Global) (point : ℕ) (w : World) (before user : SeenThread)
    (enter : SeenEnter) (ref : Option ThreadRef) → IsStarted new slot w before enter ref
    → newest values.items ≡ seen (Started ref) ∷ drop 1 (newest f.work.values.items)
    → start_in (standing_at (table_of m.program) w slot th f point user) enter (drop 1 (newest f.work.values.items)) (position is_free w.slots)
    ≡ Some (with_thread slot (gone_on (standing_at (table_of m.program) w slot th f point user) (newest values.items))
    (started_in w enter (position is_free w.slots)))
spawned m new slot th f values point w before user enter ref is e =
    let s = standing_at (table_of m.program) w slot th f point user in
    let made : List Seen → Option World = λ vs. Some (with_thread slot (gone_on s vs) (started_in w enter (position is_free w.slots))) in
    start_goes s enter (drop 1 (newest f.work.values.items)) (position is_free w.slots)
    ∙ ap made (ap (λ r. value.Started r ∷ drop 1 (newest f.work.values.items)) (sym is.named) ∙ sym e)

-- a value pushed where the newest one was dropped
pub pushed_on : (old under new : List Value) (v : Value) → newest under ≡ drop 1 (newest old) → newest new ≡ seen v ∷ newest under
    → newest new ≡ seen v ∷ drop 1 (newest old)
pushed_on old under new v dropped pushed = pushed ∙ ap (λ vs. seen v ∷ vs) dropped

-- the argument of a spawn is the newest value
pub spawn_as : (t : Table) (w : World) (slot : ℕ) (th : Thread) (f : Frame) (point : ℕ) (user : SeenThread) (name : Word) (v : Value)
    → newest f.work.values.items ≡ seen v ∷ drop 1 (newest f.work.values.items)
    → spawn (standing_at t w slot th f point user) (word t name) (newest f.work.values.items)
    ≡ spawn (standing_at t w slot th f point user) (word t name) (seen v ∷ drop 1 (newest f.work.values.items))
spawn_as t w slot th f point user name v e = ap (spawn (standing_at t w slot th f point user) (word t name)) e

-- a machine that is the same
pub but_same : (m new : Machine) (slot : ℕ) (w : World) (before : SeenThread) → new ≡ m → StandsBut m slot w before → StandsBut new slot w before
but_same m new slot w before e h = subst (λ x. StandsBut x slot w before) (sym e) h
