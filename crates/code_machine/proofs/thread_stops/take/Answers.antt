use Rattle.std.proofs.Common.{◌≡◌, length, Some, refl, sym, subst, arith}
use Rattle.std.specs.Prelude.{slice_get}
use Rattle.std.specs.Vec.{with_item}
use Rattle.code_machine.specs.declared.running.Running.{Running}
use Rattle.code_machine.specs.declared.running.Stand.TheVariants.{Free as FreeStand, Live as LiveStand}
use Rattle.code_machine.specs.declared.state.RunState.{RunState}
use Rattle.code_machine.specs.Stops.{Answered, RestsAt, SameThread}
use Rattle.code_machine.specs.Versions.{RunsCode, texts_of}
use Rattle.code_machine.proofs.Going.{runs_there}
use Rattle.code_machine.proofs.Keeping.{keeps_also, keeps_thread}
use Rattle.code_machine.proofs.Lists.{one}
use Rattle.code_machine.proofs.ThreadSlots.{fits_free, freed, still_here, there_as, there_read, took}
use Rattle.code_machine.proofs.thread_stops.take.Goals as goal

pub answer-requires-clause-rests : goal.answer-requires-clause-rests
answer-requires-clause-rests c =
    let image = c.args.image.now in
    let old = c.args.run.now in
    let place = c.args.place in
    let slot = c.args.slot in
    let over = c.index_mut.result.now in
    let joins = c.index_mut-2.result.now in
    let lives = c.requires.lives in
    let there : slice_get old.slots.items place ≡ Some over =
    there_read old.slots.items (length old.slots.items) place over refl c.requires.there c.index_mut.ensures.value in
    let still = still_here image old place slot c.args.left over lives.running there (c.requires.over over there) lives.there lives.rests.live in
    let rs = freed image old place slot c.args.left over lives.running there (c.requires.over over there) lives.there lives.rests.live in
    subst (λ (x : Running). RestsAt image.functions.items (length image.callees.items) x c.args.stop.now) (there_as rs slot lives.running joins still c.index_mut-2.ensures.value) lives.rests

pub returns-clause-keeps : goal.returns-clause-keeps
returns-clause-keeps c =
    let image = c.args.image.now in
    let old = c.args.run.now in
    let place = c.args.place in
    let slot = c.args.slot in
    let over = c.index_mut.result.now in
    let joins = c.index_mut-2.result.now in
    let lives = c.requires.lives in
    let kept = c.requires.kept in
    let there : slice_get old.slots.items place ≡ Some over =
    there_read old.slots.items (length old.slots.items) place over refl c.requires.there c.index_mut.ensures.value in
    let rs = freed image old place slot c.args.left over lives.running there (c.requires.over over there) lives.there lives.rests.live in
    let still = still_here image old place slot c.args.left over lives.running there (c.requires.over over there) lives.there lives.rests.live in
    let joined : slice_get rs slot ≡ Some joins =
    subst (λ (r : Running). slice_get rs slot ≡ Some r) (there_as rs slot lives.running joins still c.index_mut-2.ensures.value) still in
    let mid : RunState = record old { slots = with_item old.slots place (record over { stand = FreeStand }) } in
    keeps_also image old mid _
    (keeps_thread image old mid place over (record over { stand = FreeStand }) there refl refl kept (record { versions = refl; in_force = refl; layouts = refl }) refl refl
    (fits_free image over (kept.slots.fit place over there)) (λ all versions runs. record { image_is = runs.image_is; frames = runs.frames })
    (omega arith) (λ n created. omega (arith, created)) refl)
    (record { versions = refl; in_force = refl; layouts = refl }) refl refl refl slot joins c.answer.new.self joined refl c.answer.ensures.fits
    c.answer.ensures.runs c.answer.ensures.same.depth c.answer.ensures.same.leaves

pub returns-clause-taken : goal.returns-clause-taken
returns-clause-taken c = λ all r is here.
    let image = c.args.image.now in
    let old = c.args.run.now in
    let place = c.args.place in
    let slot = c.args.slot in
    let over = c.index_mut.result.now in
    let joins = c.index_mut-2.result.now in
    let after = c.answer.new.self in
    let there : slice_get old.slots.items place ≡ Some over =
    there_read old.slots.items (length old.slots.items) place over refl c.requires.there c.index_mut.ensures.value in
    let ended = c.requires.over over there in
    let live : r.stand ≡ LiveStand =
    subst (λ (x : Running). x.stand ≡ LiveStand) (one (slice_get old.slots.items slot) c.requires.lives.running r c.requires.lives.there here) c.requires.lives.rests.live in
    let still = still_here image old place slot c.args.left over r there ended here live in
    let rs = freed image old place slot c.args.left over r there ended here live in
    let same : r ≡ joins = there_as rs slot r joins still c.index_mut-2.ensures.value in
    took image old place slot c.args.left over r there ended here live (texts_of all old) c.args.stop.now after
    (with_item (with_item old.slots place (record over { stand = FreeStand })) slot after) refl
    (subst (λ (x : Running). SameThread x after) (sym same) c.answer.ensures.same)
    (subst (λ (x : Running). Answered (texts_of all old) image x after c.args.stop.now c.args.left) (sym same)
    (c.answer.ensures.answered all old.versions.items
    (subst (RunsCode all old.versions.items image) same (runs_there all image old slot r is here))))
