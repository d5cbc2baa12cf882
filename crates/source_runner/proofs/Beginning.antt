-- The start of a run.
use Rattle.std.proofs.Common.{◌≡◌, ℕ, zero, suc, ◌+◌, ◌-◌, ◌≤◌, false, List, [], ◌∷◌, ◌++◌, length, None, refl, sym, ap, subst, ◌∙◌, arith}
use Rattle.std.specs.Prelude.{filter_map, option_map, replicate, slice_index_or}
use Rattle.std.proofs.lemmas.List.{replicate-append-replicate}
use Rattle.c_tree.specs.BareDef.{BareDef}
use Rattle.c_semantics.specs.Threads.{started}
use Rattle.source_model.specs.Worlds.{World, Limits, cells_at_first, first_world, main_enter}
use Rattle.source_model.specs.Worlds as world
use Rattle.source_model.specs.Versions.{first_table}
use Rattle.source_model.specs.JournalLaws.{HasMain}
use Rattle.version_laws.specs.Histories.{IsHistory, last_text}
use Rattle.source_runner.specs.declared.machine.Machine.{Machine}
use Rattle.source_runner.specs.declared.thread.Slot.{Slot}
use Rattle.source_runner.specs.declared.thread.Slot.TheVariants.{Free}
use Rattle.resolved_tree.specs.Nodes.{Table}
use Rattle.source_programs.specs.Programs.{ArePrograms, table_of, text_at, versions_of}
use Rattle.source_programs.specs.Globals.{globals_of}
use Rattle.source_data.specs.Stores.{holders_of, objects_of}
use Rattle.source_runner.specs.Machines.{IsSlot, Stands, finish_of, slot_at}
use Rattle.version_laws.proofs.TableHistories.{first_history}
use Rattle.source_data.proofs.Texts.{current_main}

as_long : (k : ℕ) → length (replicate k world.Free) ≡ length (replicate k Free)
as_long zero = refl
as_long (suc k) = ap suc (as_long k)

-- the slots after the first are free
free_at : (t : Table) (k n : ℕ)
    → IsSlot t false (slot_at (replicate k Free) n) (slice_index_or (replicate k world.Free) n world.Free)
free_at t zero zero = refl
free_at t zero (suc n) = refl
free_at t (suc k) zero = refl
free_at t (suc k) (suc n) = free_at t k n

each : (t : Table) (first : Slot) (own : world.Slot) (k n : ℕ) → IsSlot t false first own
    → IsSlot t false (slot_at (first ∷ replicate k Free) n) (slice_index_or (own ∷ replicate k world.Free) n world.Free)
each t first own k zero is = is
each t first own k (suc n) is = free_at t k n

-- a machine that is at the start
pub begun : (m : Machine) (limits : Limits) (first : Slot) → ArePrograms m.program → versions_of m.program ≡ text_at m.program 0 ∷ []
    → globals_of m.store.globals.list.items ≡ filter_map cells_at_first (text_at m.program 0)
    → m.store.objects.all.items ≡ [] → m.store.capacity ≡ limits.objects → m.store.holders.items ≡ [] → m.store.output.items ≡ []
    → m.slots.items ≡ first ∷ replicate (limits.slots - 1) Free → m.threads ≡ 1 → m.misused ≡ false
    → m.finish ≡ None
    → IsSlot (table_of m.program) false first (world.Live (started 0 main_enter))
    → Stands m (first_world (text_at m.program 0) limits)
begun m limits first sound begins globals objects capacity holders output slots threads misused finish is = record {
  all = record {
    program = sound;
    history = subst (λ vs. IsHistory vs (first_table text)) (sym begins)
        (first_history text (subst HasMain (ap last_text begins) (current_main m.program sound)));
    text = sym (ap last_text begins);
    store =
        ap (λ gs. record w { globals = gs }) (sym globals)
        ∙ ap (λ os. record w { globals = globals_of m.store.globals.list.items; objects = objects_of t os }) (sym objects)
        ∙ ap (λ c. record w { globals = globals_of m.store.globals.list.items; objects = objects_of t m.store.objects.all.items; capacity = c }) (sym capacity)
        ∙ ap (λ hs. record w { globals = globals_of m.store.globals.list.items; objects = objects_of t m.store.objects.all.items; capacity = m.store.capacity; holders = holders_of t hs }) (sym holders)
        ∙ ap (λ out. record w { globals = globals_of m.store.globals.list.items; objects = objects_of t m.store.objects.all.items; capacity = m.store.capacity; holders = holders_of t m.store.holders.items; output = out }) (sym output);
    threads = sym threads;
    misused = sym misused;
    finish = ap (option_map finish_of) (sym finish);
    count = ap suc (as_long (limits.slots - 1)) ∙ sym (ap length slots);
  };
  slots = λ n. subst (λ ss. IsSlot t false (slot_at ss n) (slice_index_or w.slots n world.Free)) (sym slots)
      (each t first (world.Live (started 0 main_enter)) (limits.slots - 1) n is);
}
  where
    text : List BareDef
    text = text_at m.program 0

    t : Table
    t = table_of m.program

    w : World
    w = first_world (text_at m.program 0) limits

-- one free slot more
pub free_more : (slots more : List Slot) (first : Slot) (n : ℕ) → 1 ≤ n → slots ≡ first ∷ replicate (n - 1) Free → more ≡ slots ++ Free ∷ []
    → more ≡ first ∷ replicate (n + 1 - 1) Free
free_more slots more first n some before e =
    e
    ∙ ap (λ ss. ss ++ Free ∷ []) before
    ∙ ap (λ ss. first ∷ ss) (replicate-append-replicate (n - 1) 1 Free ∙ ap (λ k. replicate k Free) (omega (arith, some)))
