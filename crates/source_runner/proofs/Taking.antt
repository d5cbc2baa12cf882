-- A thread taken from its slot.
use Rattle.std.proofs.Common.{◌≡◌, ℕ, zero, suc, ◌<◌, Bool, true, false, ◌||◌, List, [], ◌∷◌, length, slice_set, Option, None, refl, sym, ap, subst, ◌∙◌, if◌then◌else◌}
use Rattle.std.specs.Prelude.{Vec}
use Rattle.std.specs.declared.alloc.Global.{Global}
use Rattle.std.proofs.lemmas.List.{get_or-set_other, get_or-set_same, length-set}
use Rattle.c_semantics.specs.Threads.{Thread as SeenThread}
use Rattle.source_model.specs.Worlds.{World, is_over, in_slot}
use Rattle.source_model.specs.Worlds as world
use Rattle.source_model.specs.Moves.{move, move_of}
use Rattle.source_model.specs.Waits.{must_wait}
use Rattle.local_evaluation.specs.declared.value.Value.TheVariants.{Started}
use Rattle.source_runner.specs.declared.thread.Next.{Next}
use Rattle.source_runner.specs.declared.thread.Thread.{Thread}
use Rattle.source_runner.specs.declared.thread.Slot.{Slot}
use Rattle.source_runner.specs.declared.thread.Slot.TheVariants.{Free, Live, Over}
use Rattle.source_runner.specs.declared.machine.Machine.{Machine}
use Rattle.source_programs.specs.Programs.{table_of}
use Rattle.source_runner.specs.Machines.{IsSlot, Stands, StandsBut, slot_at}

-- nothing moves in a run that is over, and no thread that waits
pub stays : (w : World) (slot : ℕ) → (is_over w || must_wait w slot) ≡ true → move w slot ≡ None
stays w slot e = let by : Bool → Option World = λ b. if b then None else move_of w slot (in_slot w slot) in ap by e

pub goes : (w : World) (slot : ℕ) → (is_over w || must_wait w slot) ≡ false → move w slot ≡ move_of w slot (in_slot w slot)
goes w slot e = let by : Bool → Option World = λ b. if b then None else move_of w slot (in_slot w slot) in ap by e

pub neither : (a b : Bool) → (a || b) ≡ false → a ≡ false
neither false b e = refl
neither true b e = e

-- a machine whose slots are written anew as they were
pub stands_with : (m : Machine) (v : Vec Slot Global) (w : World) → v.items ≡ m.slots.items → Stands m w → Stands (record m { slots = v }) w
stands_with m v w e h = record {
  all = record {
    program = h.all.program;
    history = h.all.history;
    text = h.all.text;
    store = h.all.store;
    threads = h.all.threads;
    misused = h.all.misused;
    finish = h.all.finish;
    count = h.all.count ∙ ap length (sym e);
  };
  slots = λ n. subst (λ ss. IsSlot (table_of m.program) (is_over w) (slot_at ss n) (in_slot w n)) (sym e) (h.slots n);
}

-- where no thread lives nothing moves
pub none_moves : (m : Machine) (w : World) (slot : ℕ) (s : Slot) (own : world.Slot) → IsSlot (table_of m.program) (is_over w) s own
    → ((th : Thread) (n : Next) → s ≡ Live th n → ⊥) → move_of w slot own ≡ None
none_moves m w slot Free own is not = ap (move_of w slot) is
none_moves m w slot (Over serial value) own is not = ap (move_of w slot) is
none_moves m w slot (Live th n) own is not = absurd (not th n refl)

-- the thread of a slot, as the world has it
pub lives : (m : Machine) (w : World) (slot : ℕ) (th : Thread) (n : Next) → Stands m w → slot_at m.slots.items slot ≡ Live th n
    → IsSlot (table_of m.program) (is_over w) (Live th n) (in_slot w slot)
lives m w slot th n h e = subst (λ s. IsSlot (table_of m.program) (is_over w) s (in_slot w slot)) e (h.slots slot)

-- with that thread taken the machine stands for the world but for its slot
pub taking : (m : Machine) (v : Vec Slot Global) (w : World) (slot : ℕ) (own : SeenThread) → Stands m w → slot < length m.slots.items
    → v.items ≡ slice_set m.slots.items slot (Over 0 (Started None)) → in_slot w slot ≡ world.Live own
    → StandsBut (record m { slots = v }) slot w own
taking m v w slot own h below e is = record {
  all = record {
    program = h.all.program;
    history = h.all.history;
    text = h.all.text;
    store = h.all.store;
    threads = h.all.threads;
    misused = h.all.misused;
    finish = h.all.finish;
    count = h.all.count ∙ sym (ap length e ∙ length-set m.slots.items slot (Over 0 (Started None)));
  };
  within = subst (λ n. slot < n) (sym (ap length e ∙ length-set m.slots.items slot (Over 0 (Started None)))) below;
  others = λ n apart. subst (λ s. IsSlot (table_of m.program) (is_over w) s (in_slot w n))
      (sym (ap (λ ss. slot_at ss n) e ∙ get_or-set_other m.slots.items slot n (Over 0 (Started None)) Free apart)) (h.slots n);
  taken = ap (λ ss. slot_at ss slot) e ∙ get_or-set_same m.slots.items slot (Over 0 (Started None)) Free below;
  own = is;
}

pub slot_is : (m : Machine) (w : World) (slot : ℕ) (s : Slot) → Stands m w → s ≡ slot_at m.slots.items slot
    → IsSlot (table_of m.program) (is_over w) s (in_slot w slot)
slot_is m w slot s h e = subst (λ x. IsSlot (table_of m.program) (is_over w) x (in_slot w slot)) (sym e) (h.slots slot)

-- what was in a slot put back
pub twice : (ss : List Slot) (n : ℕ) (x s : Slot) → s ≡ slot_at ss n → slice_set (slice_set ss n x) n s ≡ ss
twice [] n x s e = refl
twice (y ∷ ys) zero x s e = ap (λ z. z ∷ ys) e
twice (y ∷ ys) (suc n) x s e = ap (λ zs. y ∷ zs) (twice ys n x s e)
