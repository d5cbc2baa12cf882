-- Bursts and settled states.
use Rattle.std.proofs.Common.{◌≡◌, ℕ, zero, suc, ◌+◌, ◌<◌, ◌≤◌, List, length, refl, subst, sym, ap, ◌∙◌, arith, Option}
use Rattle.bytecode.specs.Instructions.{Instruction}
use Rattle.bytecode.specs.Meaning.{State, Step, Goes, Traps, Rests, Lost, Runs, here, more, step}
use Rattle.thread_state.specs.declared.steps.End.{End}
use Rattle.thread_state.specs.declared.steps.End.TheVariants.{Rests as RestsThere, Traps as TrapsThere}
use Rattle.thread_state.specs.Bursts.{Bursts}
use Rattle.thread_state.specs.Turns.{ended}
use Rattle.settled_code.specs.Settled.{after_at_most, or_stay, settled_state}
use Rattle.settled_code.specs.Laws.{BurstsSettle, IsAt, SoundCodeSettles}
use Rattle.settled_code.proofs.Forward.{goes_forward, goes_within}
use Rattle.settled_code.proofs.Sound.{IsFine, steps_fine, within}

-- where a burst ends nothing is executed
stays : (code : List Instruction) (n : ℕ) (s : State) (end : End) → step code s ≡ ended end → after_at_most code n s ≡ s
stays code zero s end e = refl
stays code (suc n) s RestsThere e = ap (λ (x : Step). or_stay x s (after_at_most code n)) e
stays code (suc n) s (TrapsThere kind) e = ap (λ (x : Step). or_stay x s (after_at_most code n)) e

-- where an instruction goes on, the others follow
follows : (code : List Instruction) (n : ℕ) (s t : State) → step code s ≡ Goes t → after_at_most code (suc n) s ≡ after_at_most code n t
follows code n s t e = ap (λ (x : Step). or_stay x s (after_at_most code n)) e

settles : (code : List Instruction) (n : ℕ) (end : End) {s t : State} → Runs code s t → step code t ≡ ended end
    → length code ≤ s.place + n → after_at_most code n s ≡ t
settles code n end (here s) e enough = stays code n s end e
settles code zero end (more s u t goes rest) e enough =
    let h : s.place < length code = goes_within code s u goes in absurd (omega arith)
settles code (suc n) end (more s u t goes rest) e enough =
    let h : s.place < u.place = goes_forward code s u goes in
    follows code n s u goes ∙ settles code n end rest e (omega arith)

pub bursts_settle : BurstsSettle
unfolding settled_state
bursts_settle code s t end bursts = settles code (length code) end bursts.runs bursts.ends (omega arith)

-- a burst, with where it comes to
record Comes (code : List Instruction) (room : ℕ) (heights : List (Option ℕ)) (s t : State) : Type 0 where
  end : End
  bursts : Bursts code s end t
  there : IsAt code room heights t

-- it comes to its end within so many instructions
comes : (code : List Instruction) (room : ℕ) (heights : List (Option ℕ)) (n : ℕ) (s : State) → IsAt code room heights s
    → length code ≤ s.place + n → Comes code room heights s (after_at_most code n s)
comes code room heights zero s at enough = let h : s.place < length code = within code room heights s at in absurd (omega arith)
comes code room heights (suc n) s at enough = by (comes code room heights n) (step code s) refl (steps_fine code room heights s at)
  where
    ends : (end : End) → step code s ≡ ended end → Comes code room heights s (after_at_most code (suc n) s)
    ends end e =
        subst (Comes code room heights s) (sym (stays code (suc n) s end e))
        record { end = end; bursts = record { runs = here s; ends = e }; there = at }

    goes : (t : State) → step code s ≡ Goes t → Comes code room heights t (after_at_most code n t) → Comes code room heights s (after_at_most code (suc n) s)
    goes t e c =
        subst (Comes code room heights s) (sym (follows code n s t e))
        record {
          end = c.end;
          bursts = record { runs = more s t (after_at_most code n t) e c.bursts.runs; ends = c.bursts.ends };
          there = c.there;
        }

    by : ((t : State) → IsAt code room heights t → length code ≤ t.place + n → Comes code room heights t (after_at_most code n t))
        → (x : Step) → step code s ≡ x → IsFine heights room x → Comes code room heights s (after_at_most code (suc n) s)
    by later (Goes t) e fine =
        let h : s.place < t.place = goes_forward code s t e in
        goes t e (later t (record { sound = at.sound; height = fine.0; locals = fine.1 }) (omega arith))
    by later (Traps kind) e fine = ends (TrapsThere kind) e
    by later Rests e fine = ends RestsThere e
    by later Lost e fine = absurd fine

pub sound_settles : SoundCodeSettles
unfolding settled_state
sound_settles code room heights s at =
    let c : Comes code room heights s (after_at_most code (length code) s) = comes code room heights (length code) s at (omega arith) in
    record { end = c.end; bursts = c.bursts; there = c.there }
