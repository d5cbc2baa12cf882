-- A slot changed.
use Rattle.std.proofs.Common.{◌≡◌, ℕ, zero, suc, ◌<◌, Bool, List, [], ◌∷◌, length, slice_index_or, slice_set, sym, ap, subst, ◌∙◌, arith}
use Rattle.std.specs.Prelude.{Vec}
use Rattle.std.specs.declared.alloc.Global.{Global}
use Rattle.std.proofs.lemmas.List.{length-set}
use Rattle.c_semantics.specs.Threads.{Thread as SeenThread}
use Rattle.source_model.specs.Worlds.{World, is_over, in_slot, with_slot}
use Rattle.source_model.specs.Worlds as world
use Rattle.source_runner.specs.declared.thread.Slot.{Slot}
use Rattle.source_runner.specs.declared.machine.Machine.{Machine}
use Rattle.resolved_tree.specs.Nodes.{Table}
use Rattle.source_programs.specs.Programs.{table_of}
use Rattle.source_runner.specs.Machines.{IsSlot, Stands, StandsBut, slot_at}

-- each slot stands for its own where the others do and the changed one does
pub each_set : (t : Table) (over : Bool) (ss : List Slot) (os : List world.Slot) (k : ℕ) (s : Slot) (o : world.Slot)
    → k < length ss → length os ≡ length ss
    → ((n : ℕ) → (n ≡ k → ⊥) → IsSlot t over (slot_at ss n) (slice_index_or os n world.Free))
    → IsSlot t over s o
    → (n : ℕ) → IsSlot t over (slot_at (slice_set ss k s) n) (slice_index_or (slice_set os k o) n world.Free)
each_set t over [] os k s o below long others is n = absurd (none k below)
  where
    none : (k : ℕ) → k < 0 → ⊥
    none k h = omega (arith, h)
each_set t over (x ∷ xs) [] k s o below long others is n = absurd (no long)
  where
    no : 0 ≡ suc (length xs) → ⊥
    no e = omega (arith, e)
each_set t over (x ∷ xs) (y ∷ ys) zero s o below long others is zero = is
each_set t over (x ∷ xs) (y ∷ ys) zero s o below long others is (suc n) = others (suc n) no
  where
    no : suc n ≡ 0 → ⊥
    no e = omega (arith, e)
each_set t over (x ∷ xs) (y ∷ ys) (suc k) s o below long others is zero = others zero no
  where
    no : 0 ≡ suc k → ⊥
    no e = omega (arith, e)
each_set t over (x ∷ xs) (y ∷ ys) (suc k) s o below long others is (suc n) =
    each_set t over xs ys k s o (omega (arith, below)) (omega (arith, long))
    (λ i apart. others (suc i) (λ e. apart (omega (arith, e)))) is n

-- the same but for one slot
pub each_other : (t : Table) (over : Bool) (ss : List Slot) (os : List world.Slot) (slot k : ℕ) (s : Slot) (o : world.Slot)
    → length os ≡ length ss
    → ((n : ℕ) → (n ≡ slot → ⊥) → IsSlot t over (slot_at ss n) (slice_index_or os n world.Free))
    → IsSlot t over s o
    → (n : ℕ) → (n ≡ slot → ⊥) → IsSlot t over (slot_at (slice_set ss k s) n) (slice_index_or (slice_set os k o) n world.Free)
each_other t over [] [] slot k s o long others is n apart = others n apart
each_other t over [] (y ∷ ys) slot k s o long others is n apart = absurd (no long)
  where
    no : suc (length ys) ≡ 0 → ⊥
    no e = omega (arith, e)
each_other t over (x ∷ xs) [] slot k s o long others is n apart = absurd (no long)
  where
    no : 0 ≡ suc (length xs) → ⊥
    no e = omega (arith, e)
each_other t over (x ∷ xs) (y ∷ ys) slot zero s o long others is zero apart = is
each_other t over (x ∷ xs) (y ∷ ys) slot zero s o long others is (suc n) apart = others (suc n) apart
each_other t over (x ∷ xs) (y ∷ ys) slot (suc k) s o long others is zero apart = others zero apart
each_other t over (x ∷ xs) (y ∷ ys) zero (suc k) s o long others is (suc n) apart =
    each_other t over xs ys (suc (suc n)) k s o (omega (arith, long)) (λ i other. others (suc i) (no i)) is n (λ e. below n e)
  where
    no : (i : ℕ) → suc i ≡ 0 → ⊥
    no i e = omega (arith, e)

    below : (i : ℕ) → i ≡ suc (suc i) → ⊥
    below i e = omega (arith, e)
each_other t over (x ∷ xs) (y ∷ ys) (suc slot) (suc k) s o long others is (suc n) apart =
    each_other t over xs ys slot k s o (omega (arith, long))
    (λ i other. others (suc i) (λ e. other (omega (arith, e)))) is n (λ e. apart (ap suc e))

-- a thread's slot is something else now
pub leaves : (m : Machine) (v : Vec Slot Global) (slot : ℕ) (w : World) (before : SeenThread) (s : Slot) (o : world.Slot) → StandsBut m slot w before
    → v.items ≡ slice_set m.slots.items slot s → IsSlot (table_of m.program) (is_over w) s o
    → Stands (record m { slots = v }) (with_slot slot o w)
leaves m v slot w before s o h e is = record {
  all = record {
    program = h.all.program;
    history = h.all.history;
    text = h.all.text;
    store = let on : World → World = λ x. record x { slots = slice_set w.slots slot o } in ap on h.all.store;
    threads = h.all.threads;
    misused = h.all.misused;
    finish = h.all.finish;
    count = length-set w.slots slot o ∙ h.all.count ∙ sym (ap length e ∙ length-set m.slots.items slot s);
  };
  slots = λ n.
      subst (λ ss. IsSlot (table_of m.program) (is_over w) (slot_at ss n) (slice_index_or (slice_set w.slots slot o) n world.Free)) (sym e)
      (each_set (table_of m.program) (is_over w) m.slots.items w.slots slot s o h.within h.all.count h.others is n);
}
