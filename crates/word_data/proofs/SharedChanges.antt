-- Changes of what is shared that come to nothing.
use Rattle.std.proofs.Common.{◌≡◌, ℕ, Bool, true, false, List, Option, Some, None, refl, sym, ap, ◌∙◌}
use Rattle.std.specs.Prelude.{◌==◌, slice_set, if◌then◌else◌}
use Rattle.std.specs.FinMap.{contains_key}
use Rattle.std.proofs.lemmas.Bool.{true≢false}
use Rattle.std.proofs.lemmas.List.{set-get_or}
use Rattle.run_types.specs.declared.trap.TrapKind.TheVariants.{Relock, Stale}
use Rattle.object_store.specs.Stores.{Store, without_object}
use Rattle.object_store.proofs.HandleMaps.{none_of, remove_none}
use Rattle.program_locks.specs.declared.answer.LockAnswer.TheVariants.{Waits, Trap}
use Rattle.program_locks.specs.Locking.{holder_of, lock_answer, locked}
use Rattle.code_runs.specs.CodeData.{Data}
use Rattle.code_runs.specs.SharedStops.{release, traps, with_holders}
use Rattle.word_data.specs.Performing.{Settles}

-- the end of an object that doesn't live
pub none_ended : (s : Store) (h : ℕ) → contains_key s.live h ≡ false → without_object s h ≡ s
none_ended s h none = ap (λ live. record s { live = live }) (remove_none s.live h (none_of _ (λ there. true≢false (sym there ∙ none))))

-- the lock of a mutex that is held
pub lock_settles : (d new : Data) (n slot : ℕ) → new ≡ with_holders d (slice_set d.holders n (locked (holder_of d.holders n) slot))
    → Settles (lock_answer (holder_of d.holders n) slot) d new
lock_settles d new n slot changed = of (holder_of d.holders n) refl
  where
    by : (b : Bool) (h : ℕ) → new ≡ d → Settles (if b then Trap Relock else Waits h) d new
    by true h same = same
    by false h same = same

    of : (o : Option ℕ) → holder_of d.holders n ≡ o → Settles (lock_answer o slot) d new
    of None is = tt
    of (Some h) is =
        by (h == slot) h (changed
        ∙ ap (λ (o : Option ℕ). with_holders d (slice_set d.holders n (locked o slot))) is
        ∙ ap (λ (o : Option ℕ). with_holders d (slice_set d.holders n o)) (sym is)
        ∙ ap (with_holders d) (set-get_or d.holders n None))

-- the end of an object that doesn't live traps
pub stale_released : (d : Data) (h : ℕ) (under : List ℕ) → (h == 0) ≡ false → contains_key d.objects.live h ≡ false → traps d Stale ≡ release d h under
stale_released d h under some none = rw (some, none) refl
