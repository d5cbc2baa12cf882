-- A run that has used few of its numbers has enough for one more move.
use Rattle.std.proofs.Common.{◌≡◌, ℕ, zero, suc, ◌<◌, ◌≤◌, List, [], ◌∷◌, map, Some, refl, sym, ap, ◌∙◌, arith}
use Rattle.std.specs.Prelude.{slice_get, slice_index_or}
use Rattle.object_store.specs.Handles.{creation_limit}
use Rattle.code_runs.specs.CodeThreads.{CodeSlot, CodeThread, Free, Live}
use Rattle.code_image.specs.declared.image.CodeImage.{CodeImage}
use Rattle.code_machine.specs.declared.running.Running.{Running}
use Rattle.code_machine.specs.declared.running.Stand.{Stand}
use Rattle.code_machine.specs.declared.running.Stand.TheVariants as stand
use Rattle.code_machine.specs.declared.state.RunState.{RunState}
use Rattle.code_machine.specs.Enough.{HasNumbers}
use Rattle.code_machine.specs.Seen.{slot_by, slot_of, thread_of, world_of}
use Rattle.code_machine.specs.Used.{HasUsed}
use Rattle.code_machine.proofs.AskedThreads.{depth_is}

-- the slot of a thread that lives
live_there : (f : Running → CodeSlot) (rs : List Running) (i : ℕ) (th : CodeThread) → slice_index_or (map f rs) i Free ≡ Live th
    → (r : Running) × ((slice_get rs i ≡ Some r) × (f r ≡ Live th))
live_there f [] i th e = absurd (cc)
live_there f (r ∷ rs) zero th e = (r, (refl, e))
live_there f (r ∷ rs) (suc i) th e = live_there f rs i th e

thread_there : (image : CodeImage) (r : Running) (s : Stand) (th : CodeThread) → slot_by image r s ≡ Live th → thread_of image r ≡ th
thread_there image r stand.Free th e = absurd (cc)
thread_there image r stand.Live th e = cc
thread_there image r (stand.Over word) th e = absurd (cc)

pub numbers_left : (image : CodeImage) (run : RunState) (slot n : ℕ) → HasUsed n run → n < creation_limit → HasNumbers (world_of image run) slot
numbers_left image run slot n used few = record {
  creations = omega (arith, used.creations, few);
  threads = omega (arith, used.threads, few);
  depth = λ th lives.
      let there = live_there (slot_of image) run.slots.items slot th lives in
      let same : (there.0).depth ≡ th.depth =
      sym (depth_is image there.0) ∙ ap (λ (t : CodeThread). t.depth) (thread_there image there.0 (there.0).stand th there.1.1) in
      let deep : (there.0).depth ≤ n = used.depths slot there.0 there.1.0 in omega (arith, same, deep, few);
}
