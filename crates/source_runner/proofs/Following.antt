-- A newer text is installed: threads stay as they are.
use Rattle.std.proofs.Common.{◌≡◌, ℕ, ◌<◌, List, [], ◌∷◌, ◌++◌, length, sym, ap, subst, ◌∙◌}
use Rattle.c_tree.specs.BareDef.{BareDef}
use Rattle.source_model.specs.Installs.{installed}
use Rattle.source_model.specs.Versions.{current, next_table}
use Rattle.source_model.specs.Worlds.{World, Closed, is_over}
use Rattle.source_model.specs.Worlds as world
use Rattle.version_laws.specs.Histories.{IsHistory, last_text}
use Rattle.version_laws.proofs.TableHistories.{last_is_next, next_history}
use Rattle.source_runner.specs.declared.machine.Machine.{Machine}
use Rattle.source_data.specs.declared.store.Store.{Store}
use Rattle.source_programs.specs.declared.programs.Programs.{Programs}
use Rattle.source_programs.specs.Programs.{ArePrograms, table_of, text_at, versions_of}
use Rattle.source_runner.specs.Machines.{IsSlot, Stands, slot_at}
use Rattle.source_install.specs.NewData.{with_data_of}
use Rattle.source_data.specs.Stores.{with_store}
use Rattle.source_data.proofs.Texts.{text_has_main}

-- with the next version's programs and the data after the install, where w is the world before
pub follows : (m : Machine) (program : Programs) (store : Store) (k : ℕ) (w : World) → Stands m w → ArePrograms program
    → k < length m.program.texts.items → table_of program ≡ table_of m.program
    → versions_of program ≡ versions_of m.program ++ text_at m.program k ∷ []
    → ((other : World) → with_store (table_of m.program) store other ≡ with_data_of (installed (text_at m.program k) w) other)
    → Stands (record m { program = program; store = store }) (installed (text_at m.program k) w)
follows m program store k w h sound below same longer after = record {
  all = record {
    program = sound;
    history = subst (λ vs. IsHistory vs (installed q w).table) (sym longer) history;
    text = sym (ap last_text longer ∙ last_is_next versions q);
    store = subst (λ t. installed q w ≡ with_store t store (installed q w)) (sym same) stored;
    threads = h.all.threads;
    misused = h.all.misused;
    finish = h.all.finish;
    count = h.all.count;
  };
  slots = λ n. subst (λ t. IsSlot t (is_over w) (slot_at m.slots.items n) (world.in_slot w n)) (sym same) (h.slots n);
}
  where
    q : List BareDef
    q = text_at m.program k

    versions : List (List BareDef)
    versions = versions_of m.program

    history : IsHistory (versions ++ q ∷ []) (installed q w).table
    history =
        subst (λ p. IsHistory (versions ++ q ∷ []) (next_table (current w.table) p q w.table)) (sym h.all.text)
        (next_history versions w.table q h.all.history (text_has_main m.program h.all.program k below))

    stored : installed q w ≡ with_store (table_of m.program) store (installed q w)
    stored = sym (after (installed q w))
