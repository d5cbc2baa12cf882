-- Where the run ends, what threads would do next is no matter any more.
use Rattle.std.proofs.Common.{◌≡◌, ℕ, zero, suc, ◌<◌, Bool, true, false, List, [], ◌∷◌, length, slice_index_or, slice_set, Some, refl, sym, ap, subst, ◌∙◌, ◌||◌, arith}
use Rattle.c_semantics.specs.Threads.{Thread as SeenThread}
use Rattle.source_model.specs.Worlds.{World, with_thread}
use Rattle.source_model.specs.Worlds as world
use Rattle.source_runner.specs.declared.thread.Next.{Next}
use Rattle.source_runner.specs.declared.thread.Thread.{Thread}
use Rattle.source_runner.specs.declared.thread.Slot.{Slot}
use Rattle.source_runner.specs.declared.thread.Slot.TheVariants.{Free, Live, Over}
use Rattle.source_runner.specs.declared.machine.Finish.{Finish}
use Rattle.source_runner.specs.declared.machine.Machine.{Machine}
use Rattle.resolved_tree.specs.Nodes.{Table}
use Rattle.source_runner.specs.Machines.{IsThread, IsSlot, StandsBut, finish_of}

pub true_is_not_false : true ≡ false → ⊥
true_is_not_false e = cc

-- a thread, whatever it would do next
pub halted_thread : (t : Table) (over after : Bool) (th : Thread) (n m : Next) (own : SeenThread)
    → after ≡ true → IsThread t over th n own → IsThread t after th m own
halted_thread t over after th n m own e h = record {
  serial = h.serial;
  depth = h.depth;
  does = λ going. absurd (true_is_not_false (sym e ∙ going));
}

pub halted_slot : (t : Table) (over after : Bool) (s : Slot) (own : world.Slot)
    → after ≡ true → IsSlot t over s own → IsSlot t after s own
halted_slot t over after Free own e h = h
halted_slot t over after (Live th n) own e (m, is, h) = (m, is, halted_thread t over after th n n m e h)
halted_slot t over after (Over serial value) own e h = h

pub or_true : (b : Bool) → (b || true) ≡ true
or_true true = refl
or_true false = refl

-- the run ended
pub finished : (m : Machine) (slot : ℕ) (w : World) (before : SeenThread) (f : Finish) → StandsBut m slot w before
    → StandsBut (record m { finish = Some f }) slot (record w { finish = Some (finish_of f) }) before
finished m slot w before f h = record {
  all = record {
    program = h.all.program;
    history = h.all.history;
    text = h.all.text;
    store = let on : World → World = λ v. record v { finish = Some (finish_of f) } in ap on h.all.store;
    threads = h.all.threads;
    misused = h.all.misused;
    finish = refl;
    count = h.all.count;
  };
  within = h.within;
  others = λ n apart. halted_slot _ _ _ _ _ (or_true w.misused) (h.others n apart);
  taken = h.taken;
  own = h.own;
}

-- a definition was misused
pub misused : (m : Machine) (slot : ℕ) (w : World) (before : SeenThread) → StandsBut m slot w before
    → StandsBut (record m { misused = true }) slot (record w { misused = true }) before
misused m slot w before h = record {
  all = record {
    program = h.all.program;
    history = h.all.history;
    text = h.all.text;
    store = let on : World → World = λ v. record v { misused = true } in ap on h.all.store;
    threads = h.all.threads;
    misused = refl;
    finish = h.all.finish;
    count = h.all.count;
  };
  within = h.within;
  others = λ n apart. halted_slot _ _ _ _ _ refl (h.others n apart);
  taken = h.taken;
  own = h.own;
}

-- a thread that is put back where it was leaves the slots as they are
put_same : {A : Type 0} (xs : List A) (n : ℕ) (x other : A) → n < length xs → slice_index_or xs n other ≡ x → slice_set xs n x ≡ xs
put_same [] n x other below e = absurd (nothing n below)
  where
    nothing : (n : ℕ) → n < 0 → ⊥
    nothing n h = omega (arith, h)
put_same (y ∷ ys) zero x other below e = ap (λ z. z ∷ ys) (sym e)
put_same (y ∷ ys) (suc n) x other below e = ap (λ zs. y ∷ zs) (put_same ys n x other (omega (arith, below)) e)

pub with_same : (m : Machine) (slot : ℕ) (w : World) (before : SeenThread) → StandsBut m slot w before → with_thread slot before w ≡ w
with_same m slot w before h =
    ap (λ ss. record w { slots = ss }) (put_same w.slots slot (world.Live before) world.Free (subst (λ n. slot < n) (sym h.all.count) h.within) h.own)

-- in a run that goes on
pub at_over : (t : Table) (over : Bool) (th : Thread) (n : Next) (own : SeenThread) → over ≡ false
    → IsThread t false th n own → IsThread t over th n own
at_over t over th n own e h = subst (λ b. IsThread t b th n own) (sym e) h

pub not_over : (t : Table) (over : Bool) (th : Thread) (n : Next) (own : SeenThread) → over ≡ false
    → IsThread t over th n own → IsThread t false th n own
not_over t over th n own e h = subst (λ b. IsThread t b th n own) e h
