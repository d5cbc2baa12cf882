-- Calls on mutexes come to what the stops of the source machine come to.
use Rattle.std.proofs.Common.{◌≡◌, ℕ, Bool, cond, List, Option, Some, None, set, refl, sym, subst, ◌∙◌, inl, inr}
use Rattle.std.proofs.lemmas.Bool.{cases_eq, eq-eqb, ne_eqb}
use Rattle.c_tree.specs.BareExpr.{Bytes}
use Rattle.c_semantics.specs.Values.{Value}
use Rattle.c_semantics.specs.Stops.{InitMutex, Lock, Unlock}
use Rattle.source_model.specs.Worlds.{holder_of, with_holder, released}
use Rattle.source_model.specs.Moves.{Standing}
use Rattle.run_types.specs.declared.trap.TrapKind.TheVariants.{Relock, Unlock as NotHeld}
use Rattle.program_locks.specs.declared.answer.LockAnswer.TheVariants.{Done, Waits, Trap}
use Rattle.program_locks.specs.Locking.{lock_answer, locked, unlock_answer, unlocked, init_answer}
use Rattle.program_locks.specs.Locking as locks
use Rattle.store_laws.specs.LockLaws.{name_at, AreHolders, Agrees, Mutexes, LockAgrees, UnlockAgrees, InitAgrees, ForgetAgrees}
use Rattle.store_laws.proofs.Holders.{taken, others_after_taking, freed, others_after_release, changed}

module _ (names : List Bytes) (s : Standing) (values : List Value) (holders : List (Option ℕ)) (n : ℕ) (m : Mutexes names s.world holders n) where
  -- who holds it in the world
  in_world : (holder : Option ℕ) → locks.holder_of holders n ≡ holder → holder_of s.world (name_at names n) ≡ holder
  in_world holder is = sym (m.held n m.within) ∙ is

  -- where the world stays, so do the holders
  stays : (holder : Option ℕ) → locks.holder_of holders n ≡ holder → AreHolders names s.world (set holders n holder)
  stays holder is = changed names s.world holders n m s.world holder (in_world holder is) (λ a differs. refl)

  lock_by : (holder : Option ℕ) → locks.holder_of holders n ≡ holder → Agrees names s (name_at names n) (Lock (name_at names n)) values (lock_answer holder s.slot) (set holders n (locked holder s.slot))
  lock_by None free =
      let name = name_at names n in
      let after = with_holder name s.slot s.world in
      let at = in_world None free in
      (rw at refl, (after, (rw at refl, changed names s.world holders n m after (Some s.slot) (taken s.world name s.slot) (others_after_taking s.world name s.slot))))
  lock_by (Some holder) held =
      let name = name_at names n in
      let at = in_world (Some holder) held in
      let P : Bool → Type 0 = λ b. Agrees names s (name_at names n) (Lock (name_at names n)) values (cond b (Trap Relock) (Waits holder)) (set holders n (Some holder)) in
      elim (cases_eq holder s.slot) [
        | inl same ↦
            let e = eq-eqb holder s.slot same in
            subst P (sym e) (rw (at, e) refl, rw at refl, stays (Some holder) held)
        | inr differs ↦
            let e = ne_eqb holder s.slot differs in
            subst P (sym e) (rw (at, e) refl, stays (Some holder) held)
      ]

  unlock_by : (holder : Option ℕ) → locks.holder_of holders n ≡ holder → Agrees names s (name_at names n) (Unlock (name_at names n)) values (unlock_answer holder s.slot) (set holders n (unlocked holder s.slot))
  unlock_by None free = let at = in_world None free in (refl, rw at refl, stays None free)
  unlock_by (Some holder) held =
      let name = name_at names n in
      let at = in_world (Some holder) held in
      let P : Bool → Type 0 = λ b. Agrees names s (name_at names n) (Unlock (name_at names n)) values (cond b Done (Trap NotHeld)) (set holders n (cond b None (Some holder))) in
      elim (cases_eq holder s.slot) [
        | inl same ↦
            let e = eq-eqb holder s.slot same in
            let after = released name s.world in
            subst P (sym e) (refl, (after, (rw (at, e) refl, changed names s.world holders n m after None (freed s.world name) (others_after_release s.world name))))
        | inr differs ↦
            let e = ne_eqb holder s.slot differs in
            subst P (sym e) (refl, rw (at, e) refl, stays (Some holder) held)
      ]

  init_by : (holder : Option ℕ) → locks.holder_of holders n ≡ holder → Agrees names s (name_at names n) (InitMutex (name_at names n)) values (init_answer holder) holders
  init_by None free = let at = in_world None free in (refl, (s.world, (rw at refl, m.held)))
  init_by (Some holder) held = let at = in_world (Some holder) held in (refl, rw at refl, m.held)

pub lock_agrees : LockAgrees
lock_agrees names s values holders n m = lock_by names s values holders n m (locks.holder_of holders n) refl

pub unlock_agrees : UnlockAgrees
unlock_agrees names s values holders n m = unlock_by names s values holders n m (locks.holder_of holders n) refl

pub init_agrees : InitAgrees
init_agrees names s values holders n m = init_by names s values holders n m (locks.holder_of holders n) refl

pub forget_agrees : ForgetAgrees
forget_agrees names w holders n m = changed names w holders n m (released (name_at names n) w) None (freed w (name_at names n)) (others_after_release w (name_at names n))
