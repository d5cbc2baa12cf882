-- Stops at mutexes: the holder by number is the holder by name, after each call too.
use Rattle.std.proofs.Common.{◌≡◌, ◌≢◌, ℕ, ◌<◌, ◌==◌, Bool, true, false, List, [], ◌∷◌, append-nil, length, get_or, set, Option, Some, None, Contains, refl, sym, ap, subst, ◌∙◌, bytes_eq, if◌then◌else◌, arith}
use Rattle.std.proofs.lemmas.List.{get_or-set_other, get_or-set_same, length-set}
use Rattle.run_types.specs.declared.trap.TrapKind.TheVariants.{MutexHeld, Relock, Unlock as NotHeld}
use Rattle.c_tree.specs.BareExpr.{Bytes}
use Rattle.c_semantics.specs.Texts.{int}
use Rattle.c_semantics.specs.Values.{Value, int_of}
use Rattle.c_semantics.specs.Stops.{InitMutex, Lock, Stop, Unlock}
use Rattle.source_model.specs.Worlds.{Held, World, with_holder, released}
use Rattle.source_model.specs.Worlds as world
use Rattle.source_model.specs.Waits.{at_stop}
use Rattle.source_model.specs.Moves.{goes_on, initialise, lock, perform, traps, unlock}
use Rattle.typed_trees.specs.ValueTypes.{HaveTypes}
use Rattle.typed_trees.specs.PieceTypes.{Stack}
use Rattle.tree_code.specs.Ranges.{AllRanged}
use Rattle.program_locks.specs.declared.answer.LockAnswer.TheVariants.{Done as LockDone, Waits, Trap as LockTrap}
use Rattle.program_locks.specs.Locking.{holder_of, init_answer, lock_answer, locked, unlock_answer, unlocked}
use Rattle.store_laws.proofs.Holders.{freed, others_after_release, others_after_taking, taken}
use Rattle.code_runs.specs.CodeData.{number_of}
use Rattle.code_runs.specs.SharedStops.{Answered, Done, goes, traps as traps_with, with_holders}
use Rattle.code_run_laws.specs.DataMatches.{DataMatches}
use Rattle.code_run_laws.proofs.AtStop.{AtStop, Comes, comes_as, goes_beside, goes_here, tags_at, traps_here, words_at}
use Rattle.code_run_laws.proofs.NameNumbers.{itself, number_is, numbers_apart, same_bytes}
use Rattle.code_run_laws.proofs.RangedValues.{zero_int}

no : false ≡ true → ⊥
no e = cc

module _ (a : AtStop) (name : Bytes) (there : Contains a.names.mutexes name) where
  abbrev number : ℕ
  number = number_of a.names.mutexes name

  abbrev holder : Option ℕ
  holder = holder_of a.data_of.holders (number_of a.names.mutexes name)

  -- who holds it in the world
  in_world : (h : Option ℕ) → holder ≡ h → world.holder_of a.standing.world name ≡ h
  in_world h is = sym (a.matches.holders name there) ∙ is

  -- the world with other holders
  abbrev with_held : List Held → World
  with_held hs = record a.standing.world { holders = hs }

  -- one mutex changes, in the world and by its number
  record Changed (hs : List Held) (h : Option ℕ) : Type 0 where
    own : world.holder_of (with_held hs) name ≡ h
    others : (n : Bytes) → n ≢ name → world.holder_of (with_held hs) n ≡ world.holder_of a.standing.world n

  holder_after : (hs : List Held) (h : Option ℕ) → Changed hs h → (n : Bytes) → Contains a.names.mutexes n
      → holder_of (set a.data_of.holders number h) (number_of a.names.mutexes n) ≡ world.holder_of (with_held hs) n
  holder_after hs h c n known = by (bytes_eq n name) refl
    where
      within : number < length a.data_of.holders
      within = let at = (number_is a.names.mutexes name there).within in let same = a.matches.mutexes in omega (arith, at, same)

      other : bytes_eq n name ≡ false → n ≡ name → ⊥
      other differs e = no (sym differs ∙ ap (bytes_eq n) (sym e) ∙ itself n)

      by : (b : Bool) → bytes_eq n name ≡ b
          → get_or (set a.data_of.holders number h) (number_of a.names.mutexes n) None ≡ world.holder_of (with_held hs) n
      by true is =
          subst (λ m. get_or (set a.data_of.holders number h) (number_of a.names.mutexes m) None ≡ world.holder_of (with_held hs) m)
          (sym (same_bytes n name is)) (get_or-set_same a.data_of.holders number h None within ∙ sym c.own)
      by false is =
          get_or-set_other a.data_of.holders number (number_of a.names.mutexes n) h None
          (λ e. other is (numbers_apart a.names.mutexes n name known there e))
          ∙ a.matches.holders n known ∙ sym (c.others n (other is))

  data_held : (hs : List Held) (h : Option ℕ) → Changed hs h
      → DataMatches a.texts a.names a.naming a.objects (with_held hs) (with_holders a.data_of (set a.data_of.holders number h))
  data_held hs h c = record {
    rows = a.matches.rows;
    cells = a.matches.cells;
    ranged = a.matches.ranged;
    named = a.matches.named;
    objects_match = a.matches.objects_match;
    capacity = a.matches.capacity;
    mutexes = length-set a.data_of.holders number h ∙ a.matches.mutexes;
    holders = holder_after hs h c;
    version = a.matches.version;
  }

  module _ (values : List Value) (types : Stack) (on : a.then_are (int ∷ types)) (have : HaveTypes (tags_at a) types values) (ranged : AllRanged values) where
    -- a call that changes the holder, and one that doesn't
    changes : (x : Stop) (done : Done) (hs : List Held) (h : Option ℕ) → Changed hs h
        → perform x a.standing values ≡ goes_on a.standing (with_held hs) (int_of 0 ∷ values)
        → done ≡ goes (with_holders a.data_of (set a.data_of.holders number h)) (0 ∷ words_at a values) → Comes a x values done
    changes x done hs h c performs e =
        comes_as a x values done (goes (with_holders a.data_of (set a.data_of.holders number h)) (words_at a (int_of 0 ∷ values))) e
        (goes_beside a x values (int_of 0 ∷ values) (int ∷ types) (with_held hs) (with_holders a.data_of (set a.data_of.holders number h)) []
        (record { objects = refl; slots = refl; threads = refl; finish = refl; misused = refl })
        (sym (append-nil a.standing.world.output)) performs (data_held hs h c) on (refl, have) (zero_int, ranged))

    pub init_alike : (done : Done) → Answered (init_answer holder) a.data_of a.data_of (words_at a values) done → Comes a (InitMutex name) values done
    init_alike done h = by holder refl h
      where
        by : (o : Option ℕ) → holder ≡ o → Answered (init_answer o) a.data_of a.data_of (words_at a values) done → Comes a (InitMutex name) values done
        by None is h =
            comes_as a (InitMutex name) values done (goes a.data_of (words_at a (int_of 0 ∷ values))) h
            (goes_here a (InitMutex name) values (int_of 0 ∷ values) (int ∷ types) (ap (initialise a.standing values) (in_world None is)) on
            (refl, have) (zero_int, ranged))
        by (Some slot) is h =
            comes_as a (InitMutex name) values done (traps_with a.data_of MutexHeld) h
            (traps_here a (InitMutex name) values MutexHeld (ap (initialise a.standing values) (in_world (Some slot) is)))

    pub lock_alike : (done : Done) → at_stop (Lock name) a.standing.world a.standing.slot values ≡ None
        → Answered (lock_answer holder a.standing.slot) a.data_of
        (with_holders a.data_of (set a.data_of.holders number (locked holder a.standing.slot))) (words_at a values) done
        → Comes a (Lock name) values done
    lock_alike done free h = by holder refl h
      where
        by : (o : Option ℕ) → holder ≡ o
            → Answered (lock_answer o a.standing.slot) a.data_of (with_holders a.data_of (set a.data_of.holders number (locked o a.standing.slot)))
            (words_at a values) done
            → Comes a (Lock name) values done
        by None is h =
            changes (Lock name) done (with_holder name a.standing.slot a.standing.world).holders (Some a.standing.slot)
            (record { own = taken a.standing.world name a.standing.slot; others = others_after_taking a.standing.world name a.standing.slot })
            (ap (lock a.standing name values) (in_world None is)) h
        by (Some slot) is h = own (slot == a.standing.slot) h
          where
            own : (b : Bool)
                → Answered (if b then LockTrap Relock else Waits slot) a.data_of (with_holders a.data_of (set a.data_of.holders number (Some slot)))
                (words_at a values) done
                → Comes a (Lock name) values done
            own true h =
                comes_as a (Lock name) values done (traps_with a.data_of Relock) h
                (traps_here a (Lock name) values Relock (ap (lock a.standing name values) (in_world (Some slot) is)))
            own false h = absurd h

    pub unlock_alike : (done : Done)
        → Answered (unlock_answer holder a.standing.slot) a.data_of
        (with_holders a.data_of (set a.data_of.holders number (unlocked holder a.standing.slot))) (words_at a values) done
        → Comes a (Unlock name) values done
    unlock_alike done h = by holder refl h
      where
        by : (o : Option ℕ) → holder ≡ o
            → Answered (unlock_answer o a.standing.slot) a.data_of (with_holders a.data_of (set a.data_of.holders number (unlocked o a.standing.slot)))
            (words_at a values) done
            → Comes a (Unlock name) values done
        by None is h =
            comes_as a (Unlock name) values done (traps_with a.data_of NotHeld) h
            (traps_here a (Unlock name) values NotHeld (ap (unlock a.standing name values) (in_world None is)))
        by (Some slot) is h = own (slot == a.standing.slot) refl h
          where
            done_so : (b : Bool) → (slot == a.standing.slot) ≡ b → perform (Unlock name) a.standing values
                ≡ (if b then goes_on a.standing (released name a.standing.world) (int_of 0 ∷ values) else traps a.standing NotHeld)
            done_so b e =
                ap (unlock a.standing name values) (in_world (Some slot) is)
                ∙ ap (λ t. if t then goes_on a.standing (released name a.standing.world) (int_of 0 ∷ values) else traps a.standing NotHeld) e

            own : (b : Bool) → (slot == a.standing.slot) ≡ b
                → Answered (if b then LockDone else LockTrap NotHeld) a.data_of
                (with_holders a.data_of (set a.data_of.holders number (if b then None else Some slot))) (words_at a values) done
                → Comes a (Unlock name) values done
            own true e h =
                changes (Unlock name) done (released name a.standing.world).holders None
                (record { own = freed a.standing.world name; others = others_after_release a.standing.world name }) (done_so true e) h
            own false e h =
                comes_as a (Unlock name) values done (traps_with a.data_of NotHeld) h
                (traps_here a (Unlock name) values NotHeld (done_so false e))
