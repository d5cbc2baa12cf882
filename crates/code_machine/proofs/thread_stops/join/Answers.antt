use Rattle.std.proofs.Common.{◌≡◌, ℕ, List, length, map, true, false, Option, Some, None, refl, sym, subst, ap, ◌∙◌}
use Rattle.std.specs.Prelude.{is_some, option_map}
use Rattle.source_model.specs.Waits.{ForThread}
use Rattle.code_runs.specs.CodeMoves.{left_from}
use Rattle.code_runs.specs.CodeWaits.{joined_from}
use Rattle.code_image.specs.StopHeights.{act_takes}
use Rattle.code_machine.specs.declared.running.Running.{Running}
use Rattle.code_machine.specs.Seen.{slot_of, world_of}
use Rattle.code_machine.specs.Stops.{RestsAt}
use Rattle.code_machine.proofs.Resuming.{stood_there}
use Rattle.code_machine.proofs.Going.{runs_there}
use Rattle.code_machine.proofs.Keeping.{keeps_all}
use Rattle.code_machine.proofs.Joining.{none_joined, one_joined, waits_for_it}
use Rattle.code_machine.proofs.ThreadSlots.{HasNewest, newest_rest, newest_there, there_as}
use Rattle.code_machine.proofs.thread_stops.join.Goals as goal

pub newest-word-requires : goal.newest-word-requires
newest-word-requires c =
    let x = c.args.stop.now in
    let functions = c.args.image.now.functions.items in
    let lives = c.requires.lives in
    let callees = length c.args.image.now.callees.items in
    let rests = subst (λ (r : Running). RestsAt functions callees r x) (there_as c.args.run.now.slots.items c.args.slot lives.running c.index.result.now lives.there c.index.ensures) lives.rests in
    record {
      kept = rests.fits.kept;
      frame = (stood_there functions callees c.index.result.now x rests).some;
      word = newest_there functions callees c.index.result.now x rests (ap act_takes c.requires.act);
    }

some_of : (o : Option ℕ) → is_some o ≡ true → (n : ℕ) × (o ≡ Some n)
some_of None e = absurd (cc)
some_of (Some n) e = (n, refl)

none_of : (o : Option ℕ) → is_some o ≡ false → o ≡ None
none_of None e = refl
none_of (Some n) e = absurd (cc)

pub returns-then-is_some-clause-keeps : goal.returns-then-is_some-clause-keeps
returns-then-is_some-clause-keeps c =
    keeps_all c.args.image.now c.args.run.now _ (record { versions = refl; in_force = refl; layouts = refl }) refl refl c.requires.kept refl refl refl

pub returns-in-None-clause-keeps : goal.returns-in-None-clause-keeps
returns-in-None-clause-keeps c =
    keeps_all c.args.image.now c.args.run.now _ (record { versions = refl; in_force = refl; layouts = refl }) refl refl c.requires.kept refl refl refl

pub returns-then-is_some-clause-stays : goal.returns-then-is_some-clause-stays
returns-then-is_some-clause-stays c = λ e. record { output = refl; used = λ n u. u }

pub returns-then-is_some-clause-came : goal.returns-then-is_some-clause-came
returns-then-is_some-clause-came c = λ all ready.
    let image = c.args.image.now in
    let old = c.args.run.now in
    let slot = c.args.slot in
    let word = c.newest-word.result in
    let lives = c.requires.lives in
    let r = lives.running in
    let runs = runs_there all image old slot r ready.run_is lives.there in
    let first : r ≡ c.index.result.now = there_as old.slots.items slot r c.index.result.now lives.there c.index.ensures in
    let read : HasNewest r word = subst (λ (y : Running). HasNewest y word) (sym first) c.newest-word.ensures in
    let found = some_of c.live_slot.result (sym c.is_some.ensures ∙ c.if-is_some.true) in
    let live : joined_from word 0 (world_of image old).slots ≡ Some (ForThread found.0) =
    ap (λ (rs : List Running). joined_from word 0 (map (slot_of image) rs)) (sym c.as_slice.ensures.value)
    ∙ sym (c.live_slot.ensures.live image) ∙ ap (option_map ForThread) found.1 in
    record {
      world = refl;
      output = refl;
      cannot = waits_for_it all image old slot word (newest_rest r) c.args.stop.now r runs lives.there lives.rests lives.going c.requires.act read found.0 live;
    }

pub returns-in-Some-clause-came : goal.returns-in-Some-clause-came
returns-in-Some-clause-came c = λ all ready.
    let image = c.args.image.now in
    let old = c.args.run.now in
    let slot = c.args.slot in
    let word = c.newest-word.result in
    let lives = c.requires.lives in
    let r = lives.running in
    let runs = runs_there all image old slot r ready.run_is lives.there in
    let first : r ≡ c.index.result.now = there_as old.slots.items slot r c.index.result.now lives.there c.index.ensures in
    let read : HasNewest r word = subst (λ (y : Running). HasNewest y word) (sym first) c.newest-word.ensures in
    let none : joined_from word 0 (world_of image old).slots ≡ None =
    ap (λ (rs : List Running). joined_from word 0 (map (slot_of image) rs)) (sym c.as_slice.ensures.value)
    ∙ sym (c.live_slot.ensures.live image) ∙ ap (option_map ForThread) (none_of c.live_slot.result (sym c.is_some.ensures ∙ c.if-is_some.false)) in
    let found : left_from word 0 (world_of image old).slots ≡ Some (c.in-Some.left.place, c.in-Some.left.word) =
    ap (λ (rs : List Running). left_from word 0 (map (slot_of image) rs)) (sym c.as_slice-2.ensures.value) ∙ sym (c.in-Some.ensures.left image) in
    one_joined all image old slot word (newest_rest r) c.args.stop.now r runs lives.there lives.rests lives.going c.requires.act read
    c.take.new.run c.in-Some.left.place c.in-Some.left.word none found (c.take.ensures.taken all r ready.run_is lives.there)

pub returns-in-None-clause-came : goal.returns-in-None-clause-came
returns-in-None-clause-came c = λ all ready.
    let image = c.args.image.now in
    let old = c.args.run.now in
    let slot = c.args.slot in
    let word = c.newest-word.result in
    let lives = c.requires.lives in
    let r = lives.running in
    let runs = runs_there all image old slot r ready.run_is lives.there in
    let first : r ≡ c.index.result.now = there_as old.slots.items slot r c.index.result.now lives.there c.index.ensures in
    let read : HasNewest r word = subst (λ (y : Running). HasNewest y word) (sym first) c.newest-word.ensures in
    let none : joined_from word 0 (world_of image old).slots ≡ None =
    ap (λ (rs : List Running). joined_from word 0 (map (slot_of image) rs)) (sym c.as_slice.ensures.value)
    ∙ sym (c.live_slot.ensures.live image) ∙ ap (option_map ForThread) (none_of c.live_slot.result (sym c.is_some.ensures ∙ c.if-is_some.false)) in
    let nothing : left_from word 0 (world_of image old).slots ≡ None =
    ap (λ (rs : List Running). left_from word 0 (map (slot_of image) rs)) (sym c.as_slice-2.ensures.value) ∙ sym (c.in-None.ensures.left image) in
    none_joined all image old slot word (newest_rest r) c.args.stop.now r runs lives.there lives.rests lives.going c.requires.act read none nothing
