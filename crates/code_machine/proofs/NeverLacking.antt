-- A stop of a thread that has the numbers and the memory that it needs isn't out of memory.
use Rattle.std.proofs.Common.{◌≡◌, ℕ, suc, ◌<◌, ◌≤◌, length, Some, refl, subst, ap, ◌∙◌, arith}
use Rattle.std.specs.Prelude.{◌^◌, slice_get}
use Rattle.resolved_tree.specs.Trees.{table}
use Rattle.word_data.specs.declared.stop.SharedStop.TheVariants.{New, Print}
use Rattle.word_frames.specs.Seen.{innermost}
use Rattle.code_image.specs.declared.act.Act.{Act}
use Rattle.code_image.specs.declared.act.Act.TheVariants.{Begin, Shared}
use Rattle.code_image.specs.declared.act.StopPlace.{StopPlace}
use Rattle.code_image.specs.declared.function.CodeFunction.{CodeFunction}
use Rattle.code_image.specs.declared.image.CodeImage.{CodeImage}
use Rattle.code_image.specs.StopHeights.{act_prints}
use Rattle.code_machine.specs.declared.running.Next.{Next}
use Rattle.code_machine.specs.declared.running.Next.TheVariants.{Continues, Enters, Stands}
use Rattle.code_machine.specs.declared.running.Running.{Running}
use Rattle.code_machine.specs.declared.state.RunState.{RunState}
use Rattle.code_machine.specs.Enough.{ActMayFail, HasEnough}
use Rattle.code_machine.specs.Kept.{IsFrame}
use Rattle.code_machine.specs.Seen.{slot_by, thread_by, thread_of}
use Rattle.code_machine.specs.Stops.{RestsAt}
use Rattle.code_machine.proofs.Lists.{some}
use Rattle.code_machine.proofs.Resuming.{frame_there}
use Rattle.code_machine.proofs.Worlds.{slot_is}

-- how many transactions a thread is in
depth_seen : (image : CodeImage) (r : Running) (next : Next) → (thread_by image r next).depth ≡ r.depth
depth_seen image r (Enters n count) = refl
depth_seen image r Continues = refl
depth_seen image r (Stands end) = refl

module _ (image : CodeImage) (r : Running) (x : StopPlace) (rests : RestsAt image.functions.items (length image.callees.items) r x) where
  -- it prints no more than the longest print of the texts
  pub prints_few : act_prints (table image.trees) x.act ≤ image.longest_print
  prints_few =
      let here : IsFrame image.functions.items (innermost r.frames) = frame_there image.functions.items (length image.callees.items) r x rests in
      let found : (g : CodeFunction) × (slice_get image.functions.items (innermost r.frames).unit ≡ Some g) = some image.functions.items (innermost r.frames).unit here.inside in
      image.prints (innermost r.frames).unit found.0 found.1 (innermost r.frames).place x (rests.there found.0 found.1)

  module _ (run : RunState) (slot : ℕ) (there : slice_get run.slots.items slot ≡ Some r) (enough : HasEnough image run slot) where
    not_too_deep : suc r.depth < 2 ^ 64
    not_too_deep =
        subst (λ (d : ℕ). suc d < 2 ^ 64) (depth_seen image r r.next)
        (enough.numbers.depth (thread_of image r) (slot_is image run slot r there ∙ ap (slot_by image r) rests.live))

    none_lacks : (a : Act) → act_prints (table image.trees) a ≤ image.longest_print
        → ActMayFail (table image.trees) a r.depth run.shared run.output → ⊥
    none_lacks (Shared (New tag)) few lacks = omega (arith, lacks, enough.numbers.creations)
    none_lacks (Shared (Print format count)) few lacks = omega (arith, lacks, few, enough.room)
    none_lacks Begin few lacks = omega (arith, lacks, not_too_deep)
    none_lacks a few lacks = absurd lacks

    pub never_lacks : ActMayFail (table image.trees) x.act r.depth run.shared run.output → ⊥
    never_lacks = none_lacks x.act prints_few
