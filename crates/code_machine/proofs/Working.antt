-- Private work of a run that is done: it isn't seen. A step with the work around it.
use Rattle.std.proofs.Common.{◌≡◌, ℕ, ◌+◌, ◌<◌, ◌≤◌, Bool, true, false, List, length, Some, Result, Ok, Err, refl, sym, subst, ap, ◌∙◌, arith}
use Rattle.std.specs.Prelude.{All, IfOk, IsOk, OnOk, Vec, slice_get, slice_set, vec_capacity}
use Rattle.std.specs.declared.alloc.AllocError.{AllocError}
use Rattle.std.specs.declared.alloc.Global.{Global}
use Rattle.std.proofs.lemmas.List.{length-set}
use Rattle.c_tree.specs.BareDef.{BareDef}
use Rattle.code_runs.specs.CodeData.{Names}
use Rattle.code_runs.specs.CodeThreads.{CodeWorld}
use Rattle.code_image.specs.declared.image.CodeImage.{CodeImage}
use Rattle.code_image.specs.Images.{names_in}
use Rattle.code_machine.specs.declared.machine.CodeMachine.{CodeMachine}
use Rattle.code_machine.specs.declared.moves.CodeStep.{CodeStep}
use Rattle.code_machine.specs.declared.running.Next.TheVariants.{Continues}
use Rattle.code_machine.specs.declared.running.Running.{Running}
use Rattle.code_machine.specs.declared.state.RunState.{RunState}
use Rattle.code_machine.specs.Enough.{HasEnough, HasNumbers}
use Rattle.code_machine.specs.Keeping.{Keeps, SameRun, UsesNothing}
use Rattle.code_machine.specs.Kept.{FitsImage, IsDueAt, IsKeptRun}
use Rattle.code_machine.specs.Leading.{Led, has_moved}
use Rattle.code_machine.specs.Queries.{IsSettled}
use Rattle.code_machine.specs.Seen.{slot_of, world_of}
use Rattle.code_machine.specs.Steps.{Comes, StepsTo}
use Rattle.code_machine.specs.Versions.{IsOfVersion, IsReady, IsRunOf, MovesWell, RunsCode, texts_of}
use Rattle.code_machine.specs.Working.{IsStep}
use Rattle.code_machine.proofs.Keeping.{all_after, kept_set, leaves_set, none_due, stays_kept, stays_run}
use Rattle.code_machine.proofs.Lists.{get_set_same, inside, one}
use Rattle.code_machine.proofs.Worlds.{slots_same}

-- nothing is done
pub same_run : (image : CodeImage) (run : RunState) → IsKeptRun image run → SameRun image run run
same_run image run kept = record {
  kept = kept;
  world = refl;
  run = λ all is. is;
  same = record { versions = refl; in_force = refl; layouts = refl };
  output = refl;
  used = λ n u. u;
}

pub then_same : (image : CodeImage) (a b c : RunState) → SameRun image a b → SameRun image b c → SameRun image a c
then_same image a b c first next = record {
  kept = next.kept;
  world = next.world ∙ first.world;
  run = λ all is. next.run all (first.run all is);
  same = record {
    versions = next.same.versions ∙ first.same.versions;
    in_force = next.same.in_force ∙ first.same.in_force;
    layouts = next.same.layouts ∙ first.same.layouts;
  };
  output = next.output ∙ first.output;
  used = λ n u. next.used n (first.used n u);
}

-- whether moves leave work isn't seen. They may leave none only where no thread does
pub same_leaving : (image : CodeImage) (run : RunState) (b : Bool) → IsKeptRun image run
    → (b ≡ false → (n : ℕ) (r : Running) → slice_get run.slots.items n ≡ Some r → r.leaves_work ≡ false)
    → SameRun image run (record run { leaves_work = b })
same_leaving image run b kept none = record {
  kept = record { slots = kept.slots; versions = kept.versions; version = kept.version; leaves = none };
  world = refl;
  run = λ all is. stays_run all image run (record run { leaves_work = b }) refl refl refl refl is.frames is;
  same = record { versions = refl; in_force = refl; layouts = refl };
  output = refl;
  used = λ n u. record { creations = u.creations; threads = u.threads; depths = u.depths };
}

-- one slot did its work, or leaves it
pub slot_worked : (image : CodeImage) (old : RunState) (slots : Vec Running Global) (slot : ℕ) (before after : Running)
    → slice_get old.slots.items slot ≡ Some before → slots.items ≡ slice_set old.slots.items slot after → IsKeptRun image old → FitsImage image after
    → slot_of image after ≡ slot_of image before
    → ((all : List (List BareDef)) (versions : List ℕ) → RunsCode all versions image before → RunsCode all versions image after)
    → after.depth ≡ before.depth → (old.leaves_work ≡ false → after.leaves_work ≡ false) → SameRun image old (record old { slots = slots })
slot_worked image old slots slot before after there set kept fits seen runs depth leaves = record {
  kept =
      stays_kept image old (record old { slots = slots }) (record { versions = refl; in_force = refl; layouts = refl }) refl refl
      (kept_set image old.slots.items slots.items old.threads old.threads slot after set kept.slots fits kept.slots.counted)
      (λ e. leaves_set old.slots.items slots.items slot after set (kept.leaves e) (leaves e)) kept;
  world = ap (λ ss. record {
    shared = old.shared;
    slots = ss;
    threads = old.threads;
    finish = (world_of image old).finish;
  }) (slots_same image old (record old { slots = slots }) slot before after there set seen);
  run = λ all is.
      stays_run all image old (record old { slots = slots }) refl refl refl refl
      (all_after (λ (r : Running). All (IsOfVersion image.functions.items old.versions.items) r.frames.frames.items) old.slots.items slots.items slot after set
      is.frames (runs all old.versions.items (record { image_is = is.image_is; frames = is.frames slot before there })).frames) is;
  same = record { versions = refl; in_force = refl; layouts = refl };
  output = refl;
  used = λ n u. record {
    creations = u.creations;
    threads = u.threads;
    depths = all_after (λ (r : Running). r.depth ≤ n) old.slots.items slots.items slot after set u.depths (let deep = u.depths slot before there in omega (arith, deep, depth));
  };
}

-- then it has none left
pub slot_settled : (old new : RunState) (slot : ℕ) (after : Running) → new.slots.items ≡ slice_set old.slots.items slot after
    → (after.next ≡ Continues → ⊥) → IsDueAt new slot → ⊥
slot_settled old new slot after set settled d =
    let slots : List Running = slice_set old.slots.items slot after in
    let there : slice_get slots slot ≡ Some d.running = sym (ap (λ (rs : List Running). slice_get rs slot) set) ∙ d.there in
    let within : slot < length slots = inside slots slot d.running there in
    let room : slot < length old.slots.items = omega (arith, within, length-set old.slots.items slot after) in
    let is : d.running ≡ after = one (slice_get slots slot) d.running after there (get_set_same old.slots.items slot after room) in
    settled (sym (ap (λ (r : Running). r.next) is) ∙ d.due)

-- ---- a step, with work before it

on_ok : {P Q : CodeStep → Type 0} (r : Result CodeStep AllocError) → ((s : CodeStep) → P s → Q s) → IfOk r P → IfOk r Q
on_ok (Ok s) f h = f s h
on_ok (Err e) f h = tt

module _ (image : CodeImage) (slot : ℕ) (old a new : RunState) (result : Result CodeStep AllocError) (first : SameRun image old a) where
  abbrev StepsFrom : RunState → List (List BareDef) → Type 0
  StepsFrom from all = IfOk result (λ step. StepsTo all image slot from new (has_moved step))

  texts_are : (all : List (List BareDef)) → texts_of all a ≡ texts_of all old
  texts_are all = ap (λ (vs : Vec ℕ Global). texts_of all (record a { versions = vs })) first.same.versions

  ready_there : (all : List (List BareDef)) → IsReady all image old slot → IsReady all image a slot
  ready_there all ready = record {
    run_is = first.run all ready.run_is;
    well =
        subst (λ (ts : List (List BareDef)). MovesWell ts (names_in all) (world_of image a) slot) (sym (texts_are all))
        (subst (λ (w : CodeWorld). MovesWell (texts_of all old) (names_in all) w slot) (sym first.world) ready.well);
  }

  enough_there : HasEnough image old slot → HasEnough image a slot
  enough_there e = record {
    numbers = subst (λ (w : CodeWorld). HasNumbers w slot) (sym first.world) e.numbers;
    room = subst (λ (v : Vec ℕ Global). length v.items + image.longest_print ≤ vec_capacity v) (sym first.output) e.room;
  }

  comes_so : (all : List (List BareDef)) (moved : Bool) → StepsTo all image slot a new moved → StepsTo all image slot old new moved
  comes_so all moved h =
      let names : Names = names_in all in
      subst (λ (v : Vec ℕ Global). Comes (texts_of all old) names slot (world_of image old) (world_of image new) v.items new.output.items moved) first.output
      (subst (λ (w : CodeWorld). Comes (texts_of all old) names slot w (world_of image new) a.output.items new.output.items moved) first.world
      (subst (λ (ts : List (List BareDef)). Comes ts names slot (world_of image a) (world_of image new) a.output.items new.output.items moved) (texts_are all) h))

  led_so : (all : List (List BareDef)) (step : CodeStep) → Led (texts_of all a) (names_in all) image (world_of image a) slot step
      → Led (texts_of all old) (names_in all) image (world_of image old) slot step
  led_so all step h =
      subst (λ (w : CodeWorld). Led (texts_of all old) (names_in all) image w slot step) first.world
      (subst (λ (ts : List (List BareDef)). Led ts (names_in all) image (world_of image a) slot step) (texts_are all) h)

  nothing_so : UsesNothing a new → UsesNothing old new
  nothing_so u = record {
    output = u.output ∙ first.output;
    used = λ n x. u.used n (first.used n x);
  }

  pub stepped : a.leaves_work ≡ old.leaves_work → Keeps image a new → IfOk result (λ step. has_moved step ≡ false → UsesNothing a new)
      → ((all : List (List BareDef)) → IsReady all image a slot → StepsFrom a all)
      → ((all : List (List BareDef)) → IsRunOf all image a → IfOk result (Led (texts_of all a) (names_in all) image (world_of image a) slot))
      → OnOk result (length new.output.items ≤ length a.output.items + image.longest_print)
      → vec_capacity a.output ≤ vec_capacity new.output → (HasEnough image a slot → IsOk result)
      → IsStep image slot old new result
  stepped leaves keeps stays came led long capacity enough = record {
    kept = keeps.kept;
    run = λ all is. keeps.run all (first.run all is);
    same = record {
      versions = keeps.same.versions ∙ first.same.versions;
      in_force = keeps.same.in_force ∙ first.same.in_force;
      layouts = keeps.same.layouts ∙ first.same.layouts;
    };
    used = λ n u. keeps.used n (first.used n u);
    leaves = keeps.leaves ∙ leaves;
    stays = on_ok result (λ s h e. nothing_so (h e)) stays;
    came = λ all ready. on_ok result (λ s h. comes_so all (has_moved s) h) (came all (ready_there all ready));
    led = λ all is. on_ok result (λ s h. led_so all s h) (led all (first.run all is));
    long = subst (λ (v : Vec ℕ Global). OnOk result (length new.output.items ≤ length v.items + image.longest_print)) first.output long;
    capacity = subst (λ (v : Vec ℕ Global). vec_capacity v ≤ vec_capacity new.output) first.output capacity;
    enough = λ e. enough (enough_there e);
  }

-- ---- a machine that leaves no work

pub none_left : (m : CodeMachine) → m.run.leaves_work ≡ false → IsSettled m
none_left m leaves = record { none = none_due m.image.value m.run m.kept leaves; leaves = leaves }

pub none_still : (old new : CodeMachine) → new.run.leaves_work ≡ old.run.leaves_work → IsSettled old → IsSettled new
none_still old new same settled = none_left new (same ∙ settled.leaves)
