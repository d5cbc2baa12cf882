-- Code that stands for a world of which the run goes on, and what both come to amid a move of one thread.
use Rattle.std.proofs.Common.{◌≡◌, ℕ, ◌<◌, false, List, length, length-set, Option, Some, None, refl, sym, subst, ◌∙◌}
use Rattle.std.specs.Prelude.{slice_set}
use Rattle.std.proofs.lemmas.List.{length-map}
use Rattle.std.proofs.lemmas.Option.{none-some}
use Rattle.c_tree.specs.BareExpr.{Bytes}
use Rattle.c_tree.specs.BareDef.{BareDef}
use Rattle.c_semantics.specs.Values.{ThreadRef}
use Rattle.source_model.specs.Worlds.{World, Closed, Finish, Object, Slot, with_slot as with_source_slot}
use Rattle.typed_runs.specs.TypedWorlds.{tags_of}
use Rattle.typed_runs.proofs.MoreObjects.{Grows, no_more}
use Rattle.bytecode.specs.Words.{Naming, Distinguishes}
use Rattle.object_store.specs.Naming.{Objects}
use Rattle.store_laws.specs.HandleLaws.{HandlesDistinguish}
use Rattle.code_runs.specs.CodeData.{Data, Names, thread_word}
use Rattle.code_runs.specs.CodeThreads.{CodeSlot, CodeWorld}
use Rattle.code_runs.specs.CodeMoves.{going, with_slot}
use Rattle.code_run_laws.specs.DataMatches.{DataMatches}
use Rattle.code_run_laws.specs.ThreadMatches.{SlotMatches, SlotsMatch, SlotsStand}
use Rattle.code_run_laws.specs.WorldMatches.{WorldMatches}
use Rattle.code_run_laws.proofs.SharedAlike.{MoreNamed}
use Rattle.code_run_laws.proofs.MatchedObjects.{as_many}
use Rattle.code_run_laws.proofs.MoreNames.{no_more_named}
use Rattle.code_run_laws.proofs.SlotsMatching.{set_matching}
use Rattle.code_run_laws.proofs.SlotsStanding.{slots_standing}
use Rattle.code_run_laws.proofs.ThreadWords.{word_positive}

-- ---- parts of a world

-- what is shared matches whatever becomes of threads, output and records
pub still_shared : (texts : List (List BareDef)) (names : Names) (naming : Naming) (objects : Objects) (w : World) (d : Data) (slots : List Slot) (threads : ℕ)
    (closed : List Closed) (finish : Option Finish) → DataMatches texts names naming objects w d
    → DataMatches texts names naming objects (record w { slots = slots; threads = threads; closed = closed; finish = finish }) d
still_shared texts names naming objects w d slots threads closed finish h = record {
  rows = h.rows;
  cells = h.cells;
  ranged = h.ranged;
  named = h.named;
  objects_match = h.objects_match;
  capacity = h.capacity;
  mutexes = h.mutexes;
  holders = h.holders;
  version = h.version;
}

-- all objects so far are told from one another
pub told_apart : HandlesDistinguish → (texts : List (List BareDef)) (names : Names) (naming : Naming) (objects : Objects) (w : World) (d : Data)
    → ((r : ThreadRef) → naming.thread r ≡ thread_word r) → DataMatches texts names naming objects w d
    → Distinguishes (length (tags_of w.objects)) naming
told_apart law texts names naming objects w d threads h =
    subst (λ n. Distinguishes n naming)
    (sym (length-map w.objects (λ (o : Object). o.tag) ∙ sym (as_many names texts (tags_of w.objects) naming w.objects objects h.objects_match)))
    (law naming objects d.objects h.named (λ r. subst (λ n. 0 < n) (sym (threads r)) (word_positive r)))

module _ (texts : List (List BareDef)) (names : Names) where
  -- ---- amid a move

  -- code stands for a world, but for the thread that moves: its slot is changed next. All that had words in another world keeps them
  pub record Between (w : World) (naming : Naming) (now : World) (own : CodeWorld) : Type 0 where
    pub names_now : Naming
    pub threads_named : (r : ThreadRef) → names_now.thread r ≡ thread_word r
    pub objects : Objects
    pub shared : DataMatches texts names names_now objects now own.shared
    pub count : length own.slots ≡ length now.slots
    pub slots : SlotsMatch texts (tags_of now.objects) names_now now.slots own.slots
    pub threads : own.threads ≡ now.threads
    pub finish : own.finish ≡ now.finish
    pub used_well : now.misused ≡ false
    pub grows : Grows (tags_of w.objects) (tags_of now.objects)
    pub more : MoreNamed (length (tags_of w.objects)) naming names_now

  abbrev pub begun : (w : World) (own : CodeWorld) (m : WorldMatches texts names w own) → w.finish ≡ None → Between w m.naming w own
  begun w own m going = record {
    names_now = m.naming;
    threads_named = m.threads_named;
    objects = m.objects;
    shared = m.shared;
    count = m.count;
    slots = m.slots going;
    threads = m.threads;
    finish = m.finish;
    used_well = m.used_well;
    grows = no_more (tags_of w.objects) (tags_of w.objects) refl;
    more = no_more_named (length (tags_of w.objects)) m.naming;
  }

  module _ (w : World) (naming : Naming) (now : World) (own : CodeWorld) (b : Between w naming now own) where
    abbrev tags : List Bytes
    tags = tags_of now.objects

    standing : SlotsStand now.slots own.slots
    standing = slots_standing texts tags b.names_now now.slots own.slots b.slots

    -- another slot is changed, and then that of the thread that moves
    abbrev pub changed : (t : ℕ) (s : Slot) (x : CodeSlot) → SlotMatches texts tags b.names_now s x
        → Between w naming (with_source_slot t s now) (with_slot t x own)
    changed t s x h = record {
      names_now = b.names_now;
      threads_named = b.threads_named;
      objects = b.objects;
      shared = still_shared texts names b.names_now b.objects now own.shared (slice_set now.slots t s) now.threads now.closed now.finish b.shared;
      count = length-set own.slots t x ∙ b.count ∙ sym (length-set now.slots t s);
      slots = set_matching texts tags b.names_now now.slots own.slots t s x h b.slots;
      threads = b.threads;
      finish = b.finish;
      used_well = b.used_well;
      grows = b.grows;
      more = b.more;
    }

    pub done : WorldMatches texts names now own
    done = record {
      naming = b.names_now;
      threads_named = b.threads_named;
      objects = b.objects;
      shared = b.shared;
      count = b.count;
      slots = λ e. b.slots;
      standing = standing;
      threads = b.threads;
      finish = b.finish;
      used_well = b.used_well;
    }

    -- threads are counted, records are closed
    abbrev pub counted : (n m : ℕ) (closed : List Closed) → m ≡ n
        → Between w naming (record now { threads = n; closed = closed }) (record own { threads = m })
    counted n m closed e = record {
      names_now = b.names_now;
      threads_named = b.threads_named;
      objects = b.objects;
      shared = still_shared texts names b.names_now b.objects now own.shared now.slots n closed now.finish b.shared;
      count = b.count;
      slots = b.slots;
      threads = e;
      finish = b.finish;
      used_well = b.used_well;
      grows = b.grows;
      more = b.more;
    }

    -- the run ends, and the same threads are in its slots
    pub ended : (f : Finish) (slots : List Slot) → length slots ≡ length now.slots → (SlotsStand now.slots own.slots → SlotsStand slots own.slots)
        → WorldMatches texts names (record now { slots = slots; finish = Some f }) (record own { finish = Some f })
    ended f slots e still = record {
      naming = b.names_now;
      threads_named = b.threads_named;
      objects = b.objects;
      shared = still_shared texts names b.names_now b.objects now own.shared slots now.threads now.closed (Some f) b.shared;
      count = b.count ∙ sym e;
      slots = λ none. absurd (none-some f (sym none));
      standing = still standing;
      threads = b.threads;
      finish = refl;
      used_well = b.used_well;
    }
