-- Threads that can't move, whatever the texts are.
use Rattle.std.proofs.Common.{◌≡◌, ℕ, zero, suc, List, [], ◌∷◌, map, true, false, Option, Some, None, refl, sym, ◌∙◌}
use Rattle.std.specs.Prelude.{MatchOption, option_map, slice_get, slice_index_or}
use Rattle.std.specs.Option.{is_some}
use Rattle.c_tree.specs.BareDef.{BareDef}
use Rattle.code_runs.specs.CodeData.{Names}
use Rattle.code_runs.specs.CodeThreads.{CodeSlot, CodeThread, Free as FreeSlot, Live as LiveSlot}
use Rattle.code_runs.specs.CodeWaits.{Stays, none_lives, over}
use Rattle.code_image.specs.declared.image.CodeImage.{CodeImage}
use Rattle.code_machine.specs.declared.running.Next.{Next}
use Rattle.code_machine.specs.declared.running.Running.{Running}
use Rattle.code_machine.specs.declared.running.Stand.{Stand}
use Rattle.code_machine.specs.declared.running.Stand.TheVariants.{Free, Live, Over}
use Rattle.code_machine.specs.declared.state.Finish.{Finish}
use Rattle.code_machine.specs.declared.state.RunState.{RunState}
use Rattle.code_machine.specs.Seen.{finish_of, slot_by, slot_of, world_of}
use Rattle.code_machine.specs.Stops.{Lives}
use Rattle.code_machine.proofs.Worlds.{slot_is}

some_finish : (o : Option Finish) → is_some o ≡ true → is_some (option_map finish_of o) ≡ true
some_finish None e = e
some_finish (Some f) e = refl

-- the run has ended
pub over_stays : (texts : List (List BareDef)) (names : Names) (image : CodeImage) (run : RunState) (slot : ℕ) → is_some run.finish ≡ true
    → Stays texts names (world_of image run) slot
over_stays texts names image run slot e = over (some_finish run.finish e)

absent : (f : Running → CodeSlot) (rs : List Running) (i : ℕ) (d : CodeSlot) → slice_get rs i ≡ None → slice_index_or (map f rs) i d ≡ d
absent f [] i d e = refl
absent f (r ∷ rs) zero d e = absurd (cc)
absent f (r ∷ rs) (suc i) d e = absent f rs i d e

free_not_live : (th : CodeThread) → FreeSlot ≡ LiveSlot th → ⊥
free_not_live th e = cc

-- there is no such slot
pub none_stays : (texts : List (List BareDef)) (names : Names) (image : CodeImage) (run : RunState) (slot : ℕ) → slice_get run.slots.items slot ≡ None
    → Stays texts names (world_of image run) slot
none_stays texts names image run slot none =
    none_lives (λ th e. free_not_live th (sym (absent (slot_of image) run.slots.items slot FreeSlot none) ∙ e))

live_stand : (image : CodeImage) (r : Running) (s : Stand) (th : CodeThread) → slot_by image r s ≡ LiveSlot th → s ≡ Live
live_stand image r Free th e = absurd (cc)
live_stand image r Live th e = refl
live_stand image r (Over word) th e = absurd (cc)

-- no thread lives there
pub dead_stays : (texts : List (List BareDef)) (names : Names) (image : CodeImage) (run : RunState) (slot : ℕ) (r : Running) → slice_get run.slots.items slot ≡ Some r
    → (r.stand ≡ Live → ⊥) → Stays texts names (world_of image run) slot
dead_stays texts names image run slot r there dead =
    none_lives (λ th e. dead (live_stand image r r.stand th (sym (slot_is image run slot r there) ∙ e)))

-- what the thread in a slot does next, by whether one lives there
pub next_of : (run : RunState) (slot : ℕ) (r : Running) → slice_get run.slots.items slot ≡ Some r → run.finish ≡ None → (o : Option Next)
    → MatchOption o (r.stand ≡ Live → ⊥) (λ next. (r.stand ≡ Live) × (r.next ≡ next))
    → MatchOption o ((texts : List (List BareDef)) (names : Names) (image : CodeImage) → Stays texts names (world_of image run) slot) (Lives run slot)
next_of run slot r there going None dead = λ texts names image. dead_stays texts names image run slot r there dead
next_of run slot r there going (Some next) h = record { running = r; there = there; live = h.0; does = h.1; going = going }

-- a run that goes on
pub none_ended : (o : Option Finish) → is_some o ≡ false → o ≡ None
none_ended None e = refl
none_ended (Some f) e = absurd (cc)
