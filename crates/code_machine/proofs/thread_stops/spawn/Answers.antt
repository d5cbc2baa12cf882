use Rattle.std.proofs.Common.{◌≡◌, length, Some, sym, subst, ap, ◌∙◌, refl, arith}
use Rattle.std.specs.Prelude.{position, slice_get}
use Rattle.std.specs.Vec.{with_item}
use Rattle.code_runs.specs.CodeMoves.{is_free}
use Rattle.code_image.specs.StopHeights.{act_leaves, act_takes, returns}
use Rattle.code_machine.specs.declared.running.Running.{Running}
use Rattle.code_machine.specs.declared.running.Stand.TheVariants.{Live as LiveStand}
use Rattle.code_machine.specs.Seen.{world_of}
use Rattle.code_machine.specs.Stops.{Answered, RestsAt}
use Rattle.code_machine.proofs.Lists.{inside}
use Rattle.code_machine.proofs.Resuming.{stood_there}
use Rattle.code_machine.specs.Versions.{RunsCode, texts_of}
use Rattle.word_frames.specs.declared.frame.Frame.{Frame}
use Rattle.word_frames.specs.Seen.{innermost}
use Rattle.code_machine.proofs.Going.{runs_there}
use Rattle.code_machine.proofs.Keeping.{keeps_also}
use Rattle.code_machine.proofs.Spawning.{spawn_moves, still_there}
use Rattle.code_machine.proofs.ThreadSlots.{HasNewest, function_inside, newest_rest, newest_there, there_as}
use Rattle.code_machine.proofs.thread_stops.spawn.Goals as goal

pub newest-argument-requires : goal.newest-argument-requires
newest-argument-requires c =
    let x = c.args.stop.now in
    let functions = c.args.image.now.functions.items in
    let lives = c.requires.lives in
    let callees = length c.args.image.now.callees.items in
    let rests = subst (λ (r : Running). RestsAt functions callees r x) (there_as c.args.run.now.slots.items c.args.slot lives.running c.index.result.now lives.there c.index.ensures) lives.rests in
    record {
      kept = rests.fits.kept;
      frame = (stood_there functions callees c.index.result.now x rests).some;
      word = newest_there functions callees c.index.result.now x rests (ap act_takes c.requires.act);
    }

pub start-requires-clause-inside : goal.start-requires-clause-inside
start-requires-clause-inside c =
    function_inside c.args.image.now c.requires.lives.running c.args.stop.now c.args.function c.requires.lives.rests c.requires.act

pub index_mut-requires : goal.index_mut-requires
index_mut-requires c =
    let image = c.args.image.now in
    let old = c.args.run.now in
    let mid = c.start.new.run in
    let slot = c.args.slot in
    let lives = c.requires.lives in
    let still = still_there image old mid slot lives.running c.innermost-version.result.version c.args.function c.newest-argument.result c.in_ok-word.word lives.there lives.rests.live
    (position is_free (world_of image old).slots) c.in_ok-word.ensures.started in
    omega (arith, inside mid.slots.items slot lives.running still, mid.slots.ok.0)

pub answer-requires-clause-rests : goal.answer-requires-clause-rests
answer-requires-clause-rests c =
    let image = c.args.image.now in
    let old = c.args.run.now in
    let mid = c.start.new.run in
    let slot = c.args.slot in
    let lives = c.requires.lives in
    let still = still_there image old mid slot lives.running c.innermost-version.result.version c.args.function c.newest-argument.result c.in_ok-word.word lives.there lives.rests.live
    (position is_free (world_of image old).slots) c.in_ok-word.ensures.started in
    subst (λ (r : Running). RestsAt image.functions.items (length image.callees.items) r c.args.stop.now)
    (there_as mid.slots.items slot lives.running c.index_mut.result.now still c.index_mut.ensures.value) lives.rests

pub answer-requires-clause-exchanges : goal.answer-requires-clause-exchanges
answer-requires-clause-exchanges c = record {
  takes = ap act_takes c.requires.act;
  leaves = ap act_leaves c.requires.act;
  returns = ap returns c.requires.act;
}

pub returns-clause-keeps : goal.returns-clause-keeps
returns-clause-keeps c =
    let image = c.args.image.now in
    let old = c.args.run.now in
    let mid = c.start.new.run in
    let slot = c.args.slot in
    let lives = c.requires.lives in
    let still = still_there image old mid slot lives.running c.innermost-version.result.version c.args.function c.newest-argument.result c.in_ok-word.word lives.there lives.rests.live
    (position is_free (world_of image old).slots) c.in_ok-word.ensures.started in
    let here : slice_get mid.slots.items slot ≡ Some c.index_mut.result.now =
    subst (λ (r : Running). slice_get mid.slots.items slot ≡ Some r) (there_as mid.slots.items slot lives.running c.index_mut.result.now still c.index_mut.ensures.value) still in
    keeps_also image old mid _ c.in_ok-word.ensures.keeps (record { versions = refl; in_force = refl; layouts = refl }) refl refl refl slot c.index_mut.result.now
    c.answer.new.self here refl c.answer.ensures.fits c.answer.ensures.runs c.answer.ensures.same.depth c.answer.ensures.same.leaves

pub returns-clause-came : goal.returns-clause-came
returns-clause-came c = λ all ready.
    let image = c.args.image.now in
    let old = c.args.run.now in
    let mid = c.start.new.run in
    let slot = c.args.slot in
    let x = c.args.stop.now in
    let lives = c.requires.lives in
    let r = lives.running in
    let after = c.answer.new.self in
    let started = c.in_ok-word.ensures.started in
    let still = still_there image old mid slot r c.innermost-version.result.version c.args.function c.newest-argument.result c.in_ok-word.word lives.there lives.rests.live
    (position is_free (world_of image old).slots) started in
    let first : r ≡ c.index.result.now = there_as old.slots.items slot r c.index.result.now lives.there c.index.ensures in
    let same : r ≡ c.index_mut.result.now = there_as mid.slots.items slot r c.index_mut.result.now still c.index_mut.ensures.value in
    let stand : after.stand ≡ LiveStand = c.answer.ensures.same.stand ∙ ap (λ (y : Running). y.stand) (sym same) ∙ lives.rests.live in
    let version : c.innermost-version.result.version ≡ (innermost r.frames).version =
    ap (λ (f : Frame). f.version) c.innermost-version.ensures ∙ ap (λ (y : Running). (innermost y.frames).version) (sym first) in
    let runs = runs_there all image old slot r ready.run_is lives.there in
    spawn_moves all image old mid slot c.innermost-version.result.version c.args.function c.newest-argument.result c.in_ok-word.word x r runs lives.there lives.rests lives.going
    c.requires.act version (with_item mid.slots slot after) after (newest_rest r) started refl stand
    (subst (λ (y : Running). RunsCode all old.versions.items image y → Answered (texts_of all old) image y after x c.in_ok-word.word) (sym same)
    (c.answer.ensures.answered all old.versions.items) runs)
    (subst (λ (y : Running). HasNewest y c.newest-argument.result) (sym first) c.newest-argument.ensures)
