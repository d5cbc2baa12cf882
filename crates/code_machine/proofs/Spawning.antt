-- A thread starts another.
use Rattle.std.proofs.Common.{◌≡◌, ℕ, ◌<◌, List, [], ◌∷◌, length, Option, Some, None, refl, sym, subst, ap, ◌∙◌}
use Rattle.std.specs.Prelude.{Vec, slice_get, slice_set, unwrap_or}
use Rattle.std.specs.List.{position}
use Rattle.std.specs.declared.alloc.Global.{Global}
use Rattle.std.proofs.lemmas.List.{append-nil}
use Rattle.c_tree.specs.BareExpr.{Bytes}
use Rattle.c_tree.specs.BareDef.{BareDef}
use Rattle.c_semantics.specs.Stops.{Stop, Spawn}
use Rattle.version_laws.specs.Histories.{text_in}
use Rattle.resolved_tree.specs.Nodes.{Table}
use Rattle.local_evaluation.specs.Pieces.{stop_of}
use Rattle.thread_state.specs.Frames.{downward}
use Rattle.thread_state.specs.declared.steps.End.TheVariants.{Rests as RestsThere}
use Rattle.code_runs.specs.CodeData.{Names}
use Rattle.code_runs.specs.CodeThreads.{CodeEnter, CodeFrame, CodeSlot, CodeWorld, Live}
use Rattle.code_runs.specs.CodeMoves.{GoesOn, Spawned, StopMade, going, is_free, with_thread}
use Rattle.code_runs.specs.CodeWaits.{at_stop}
use Rattle.code_runs.specs.SharedStops.{One}
use Rattle.word_frames.specs.declared.frames.Frames.{Frames}
use Rattle.word_frames.specs.Seen.{depth_of, frames_of, innermost, stack_base}
use Rattle.code_image.specs.declared.act.Act.TheVariants.{Spawn as SpawnAct}
use Rattle.code_image.specs.declared.act.StopPlace.{StopPlace}
use Rattle.code_image.specs.declared.image.CodeImage.{CodeImage}
use Rattle.code_image.specs.Acts.{Acts, named}
use Rattle.code_image.specs.Images.{names_in}
use Rattle.code_machine.specs.declared.running.Running.{Running}
use Rattle.code_machine.specs.declared.running.Stand.TheVariants.{Live as LiveStand, Free as FreeStand}
use Rattle.code_machine.specs.declared.state.RunState.{RunState}
use Rattle.code_machine.specs.Kept.{Stood}
use Rattle.code_machine.specs.Seen.{name_at, slot_by, slot_of, words_of, world_of}
use Rattle.code_machine.specs.Steps.{Moved}
use Rattle.code_machine.specs.Stops.{Answered, RestsAt, at, resting}
use Rattle.code_machine.specs.ThreadStops.{Started, first_enter}
use Rattle.code_machine.specs.Versions.{RunsCode, texts_of}
use Rattle.code_machine.proofs.Fitting.{head_is}
use Rattle.code_machine.proofs.Acting.{acts_at}
use Rattle.code_machine.proofs.Worlds.{moves_by, world_set}

-- ---- what is shared with joins

-- the newest word of a thread's stack is the one that was read
pub newest_is : (t : Table) (s : Frames) (f : CodeFrame) (below : List CodeFrame) (w v : ℕ) (rest under : List ℕ) → 0 < depth_of s
    → frames_of t s ≡ f ∷ below → downward s.words.items (stack_base s) (innermost s).height ≡ w ∷ rest
    → f.state.stack ≡ v ∷ under → v ≡ w
newest_is t s f below w v rest under some frames read stack =
    let head : f.state.stack ≡ downward s.words.items (stack_base s) (innermost s).height = ap (λ (x : CodeFrame). x.state.stack) (head_is t s f below some frames) in
    let same : ◌≡◌ {A = List ℕ} (v ∷ under) (w ∷ rest) = sym stack ∙ head ∙ read in
    cc

-- the world in which it goes on
pub went_world : (texts : List (List BareDef)) (image : CodeImage) (mid : RunState) (slots : Vec Running Global) (slot word : ℕ) (x : StopPlace) (before after : Running)
    → slots.items ≡ slice_set mid.slots.items slot after → after.stand ≡ LiveStand → (a : Answered texts image before after x word)
    → world_of image (record mid { slots = slots }) ≡ with_thread slot (going (resting before a.frame a.below) a.next) (world_of image mid)
went_world texts image mid slots slot word x before after set stand a =
    let now : slot_of image after ≡ Live (resting before a.next a.below) = ap (slot_by image after) stand ∙ ap Live a.after in
    world_set image mid (record mid { slots = slots }) slot after set
    ∙ ap (λ (s : CodeSlot). record (world_of image mid) { slots = slice_set (world_of image mid).slots slot s }) now

-- ---- a start

-- the stop that it makes
pub spawn_is : (t : Table) (names : Names) (text : List BareDef) (function : ℕ → Option Bytes) (s : Stop) (n : ℕ) → Acts t names text function s (SpawnAct n)
    → (name : Bytes) × ((s ≡ Spawn name) × (function n ≡ Some name))
spawn_is t names text function (Spawn name) n e = (name, (refl, e))
spawn_is t names text function _ n e = absurd e

-- a slot that is free isn't that of a thread that lives
apart : (r : Running) → r.stand ≡ LiveStand → r.stand ≡ FreeStand → ⊥
apart r live free = cc

module _ (image : CodeImage) (old mid : RunState) (slot : ℕ) (r : Running) (version function argument word : ℕ)
    (there : slice_get old.slots.items slot ≡ Some r) (live : r.stand ≡ LiveStand) where
  -- the thread that starts another is where it was
  pub still_there : (o : Option ℕ) → Started image old mid version function argument o word → slice_get mid.slots.items slot ≡ Some r
  still_there None s = ap (λ (run : RunState). slice_get run.slots.items slot) s.0 ∙ there
  still_there (Some place) s =
      s.others slot (λ same. apart r live (s.free r (ap (slice_get old.slots.items) (sym same) ∙ there))) ∙ there

  pub still_runs : (o : Option ℕ) → Started image old mid version function argument o word → mid.finish ≡ old.finish
  still_runs None s = ap (λ (run : RunState). run.finish) s.0
  still_runs (Some place) s = s.finish

  pub still_printed : (o : Option ℕ) → Started image old mid version function argument o word → mid.output.items ≡ old.output.items
  still_printed None s = ap (λ (run : RunState). run.output.items) s.0
  still_printed (Some place) s = ap (λ v. v.items) s.output

module _ (all : List (List BareDef)) (image : CodeImage) (old mid : RunState) (slot version function argument word : ℕ) (x : StopPlace) (r : Running)
    (code : RunsCode all old.versions.items image r) (there : slice_get old.slots.items slot ≡ Some r)
    (rests : RestsAt image.functions.items (length image.callees.items) r x)
    (runs : old.finish ≡ None) (act : x.act ≡ SpawnAct function) (of : version ≡ (innermost r.frames).version) where
  abbrev texts : List (List BareDef)
  texts = texts_of all old

  pub spawn_moves : (slots : Vec Running Global) (after : Running) (rest : List ℕ)
      → Started image old mid version function argument (position is_free (world_of image old).slots) word
      → slots.items ≡ slice_set mid.slots.items slot after → after.stand ≡ LiveStand → Answered texts image r after x word
      → downward r.frames.words.items (stack_base r.frames) (innermost r.frames).height ≡ argument ∷ rest
      → Moved texts (names_in all) slot (world_of image old) (world_of image (record mid { slots = slots })) old.output.items mid.output.items
  spawn_moves slots after rest started set stand a read =
      let t = words_of image in
      let names = names_in all in
      let callees = named t image.callees.items in
      let w = world_of image old in
      let new = world_of image (record mid { slots = slots }) in
      let s : Stop = stop_of t x.stop in
      let stood : Stood image.functions.items r.frames RestsThere = rests.fits.stood RestsThere rests.next in
      let own = text_in texts a.frame.version in
      let acts = acts_at all old.versions.items image r x code rests a.frame a.below a.before in
      let made = spawn_is t names own callees s function (subst (Acts t names own callees s) act acts) in
      let same : a.newest ≡ argument = newest_is t r.frames a.frame a.below argument a.newest rest a.under stood.some a.before read a.stack in
      let own_version : version ≡ a.frame.version =
      of ∙ sym (ap (λ (f : CodeFrame). f.version) (head_is t r.frames a.frame a.below stood.some a.before)) in
      let name : name_at image function ≡ made.0 = ap (λ (o : Option Bytes). unwrap_or o []) made.1.1 in
      let e : CodeEnter = record { function = made.0; arguments = a.newest ∷ []; version = a.frame.version } in
      let enter : first_enter image version function argument ≡ e =
      ap (λ (f : Bytes). record (first_enter image version function argument) { function = f }) name
      ∙ ap (λ (v : ℕ). record { function = made.0; arguments = v ∷ []; version = version }) (sym same)
      ∙ ap (λ (v : ℕ). record { function = made.0; arguments = a.newest ∷ []; version = v }) own_version in
      let world : new ≡ with_thread slot (going (resting r a.frame a.below) a.next) (world_of image mid) = went_world texts image mid slots slot word x r after set stand a in
      let spawned : Spawned texts (at slot r x a.frame a.below) w e a.under (position is_free w.slots) new =
      subst (λ (d : CodeEnter). Spawned texts (at slot r x a.frame a.below) w d a.under (position is_free w.slots) new) enter
      (by a new world (position is_free w.slots) started) in
      let stop : StopMade texts names (at slot r x a.frame a.below) (Spawn made.0) w new [] =
      (refl, subst (λ (st : List ℕ). One st (λ v under. Spawned texts (at slot r x a.frame a.below) w (record { function = made.0; arguments = v ∷ []; version = a.frame.version }) under (position is_free w.slots) new)) (sym a.stack) spawned) in
      moves_by all old.versions.items image old slot x r a.frame a.below code there rests runs a.before new [] old.output.items mid.output.items
      (ap (λ (q : Stop). at_stop names w slot q a.frame.state.stack) made.1.0)
      (subst (λ (q : Stop). StopMade texts names (at slot r x a.frame a.below) q w new []) (sym made.1.0) stop)
      (still_printed image old mid slot r version function argument word there rests.live (position is_free w.slots) started ∙ sym (append-nil old.output.items))
    where
      by : (a : Answered texts image r after x word) (new : CodeWorld) → new ≡ with_thread slot (going (resting r a.frame a.below) a.next) (world_of image mid)
          → (o : Option ℕ) → Started image old mid version function argument o word
          → Spawned texts (at slot r x a.frame a.below) (world_of image old) (first_enter image version function argument) a.under o new
      by a new world None s = (
        a.next,
        (
          subst (λ (v : ℕ). GoesOn texts a.frame x.after (v ∷ a.under) x.point a.next) s.1 a.goes,
          world ∙ ap (λ (run : RunState). with_thread slot (going (resting r a.frame a.below) a.next) (world_of image run)) s.0,
        ),
      )
      by a new world (Some place) s = (
        a.next,
        (
          subst (λ (v : ℕ). GoesOn texts a.frame x.after (v ∷ a.under) x.point a.next) s.word_is a.goes,
          world ∙ ap (with_thread slot (going (resting r a.frame a.below) a.next)) s.world,
        ),
      )
