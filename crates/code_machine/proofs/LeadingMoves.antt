-- Which moves lead to a check-in, by what the thread in a slot does next.
use Rattle.std.proofs.Common.{◌≡◌, ℕ, ◌<◌, ◌≤◌, Bool, true, false, List, Some, refl, ap, subst, ◌∙◌, arith}
use Rattle.std.specs.Prelude.{nat_lt, slice_get}
use Rattle.std.specs.Option.{is_some, option_flatten}
use Rattle.std.proofs.lemmas.Bool.Decides.{nat_tests}
use Rattle.run_types.specs.declared.trap.TrapKind.{TrapKind}
use Rattle.c_tree.specs.BareDef.{BareDef}
use Rattle.resolved_tree.specs.Nodes.{Table}
use Rattle.local_evaluation.specs.Pieces.{stop_of}
use Rattle.thread_state.specs.declared.steps.End.TheVariants.{Rests as RestsThere, Traps as TrapsThere}
use Rattle.code_runs.specs.CodeThreads.{CodeFrame, Live}
use Rattle.code_runs.specs.CodeWaits.{in_slot}
use Rattle.word_frames.specs.declared.frame.Frame.{Frame}
use Rattle.word_frames.specs.Seen.{depth_of, frames_below, innermost}
use Rattle.code_image.specs.declared.act.StopPlace.{StopPlace}
use Rattle.code_image.specs.declared.function.CodeFunction.{CodeFunction}
use Rattle.code_image.specs.declared.image.CodeImage.{CodeImage}
use Rattle.code_image.specs.Images.{names_in}
use Rattle.code_machine.specs.declared.running.Next.TheVariants.{Enters, Stands}
use Rattle.code_machine.specs.declared.running.Running.{Running}
use Rattle.code_machine.specs.declared.running.Stand.TheVariants as stand
use Rattle.code_machine.specs.declared.state.RunState.{RunState}
use Rattle.code_machine.specs.Kept.{FitsImage}
use Rattle.code_machine.specs.Leading.{LeadsNext, entering, is_called, stop_leads, stopping, trapping}
use Rattle.code_machine.specs.Queries.{entered_by, entering_in}
use Rattle.code_machine.specs.Seen.{name_at, slot_by, thread_by, thread_of, words_of, world_of}
use Rattle.code_machine.specs.Stops.{Lives}
use Rattle.code_machine.specs.Versions.{IsRunOf, texts_of}
use Rattle.code_machine.proofs.AskedThreads.{frame_up_is, next_stop_is, no_frame_up, none_traps, stands_none, thread_frames}
use Rattle.code_machine.proofs.Going.{runs_there}
use Rattle.code_machine.proofs.Worlds.{slot_is}

is_less : (a b : ℕ) → nat_lt a b ≡ true → a < b
is_less a b e = grind (arith, nat_tests, e)

is_not_less : (a b : ℕ) → nat_lt a b ≡ false → b ≤ a
is_not_less a b e = grind (arith, nat_tests, e)

-- of so many frames one called the innermost where there are two
called_below : (t : Table) (highest : ℕ) (words : List ℕ) (all : List Frame) (n : ℕ) → is_some (slice_get (frames_below t highest words all n) 1) ≡ nat_lt 1 n
called_below t highest words all n = by (nat_lt 1 n) refl
  where
    by : (b : Bool) → nat_lt 1 n ≡ b → is_some (slice_get (frames_below t highest words all n) 1) ≡ b
    by true e = ap is_some (frame_up_is t highest words all n 1 (is_less 1 n e))
    by false e = ap is_some (no_frame_up t highest words all n 1 (is_not_less 1 n e))

module _ (all : List (List BareDef)) (image : CodeImage) (run : RunState) (slot : ℕ) where
  abbrev texts : List (List BareDef)
  texts = texts_of all run

  -- the thread that lives there
  pub live_is : (r : Running) → slice_get run.slots.items slot ≡ Some r → r.stand ≡ stand.Live
      → in_slot (world_of image run) slot ≡ Live (thread_of image r)
  live_is r there live = slot_is image run slot r there ∙ ap (slot_by image r) live

  -- it enters a function
  pub enter_leads : (n count : ℕ) → Lives run slot (Enters n count) → LeadsNext texts (names_in all) image (world_of image run) slot true
  enter_leads n count l =
      entering (name_at image n)
      (ap entering_in (live_is l.running l.there l.live) ∙ ap (λ x. entered_by (thread_by image l.running x).next) l.does)

  -- an operator traps
  pub trap_leads : (kind : TrapKind) (l : Lives run slot (Stands (TrapsThere kind))) → FitsImage image l.running → IsRunOf all image run
      → LeadsNext texts (names_in all) image (world_of image run) slot false
  trap_leads kind l fits is =
      let lives = live_is l.running l.there l.live in
      let runs = runs_there all image run slot l.running is l.there in
      trapping (none_traps image l.running fits (world_of image run) slot lives all run.versions.items runs kind l.does)
      (ap entering_in lives ∙ stands_none image l.running (TrapsThere kind) l.does)

  -- it makes a stop
  pub rest_leads : (l : Lives run slot (Stands RestsThere)) → FitsImage image l.running → IsRunOf all image run → (g : CodeFunction)
      → slice_get image.functions.items (innermost l.running.frames).unit ≡ Some g → (x : StopPlace)
      → option_flatten (slice_get g.stops.items (innermost l.running.frames).place) ≡ Some x
      → LeadsNext texts (names_in all) image (world_of image run) slot (stop_leads (stop_of (words_of image) x.stop) (nat_lt 1 (depth_of l.running.frames)))
  rest_leads l fits is g found x e =
      let lives = live_is l.running l.there l.live in
      let runs = runs_there all image run slot l.running is l.there in
      let r = l.running in
      let called : is_called (in_slot (world_of image run) slot) ≡ nat_lt 1 (depth_of r.frames) =
      ap is_called lives ∙ ap (λ (fs : List CodeFrame). is_some (slice_get fs 1)) (thread_frames image r fits RestsThere l.does)
      ∙ called_below (words_of image) r.frames.highest_stack r.frames.words.items r.frames.frames.items (depth_of r.frames) in
      subst (λ (b : Bool). LeadsNext texts (names_in all) image (world_of image run) slot (stop_leads (stop_of (words_of image) x.stop) b)) called
      (stopping x (next_stop_is image r fits (world_of image run) slot lives all run.versions.items runs g found l.does x e))
