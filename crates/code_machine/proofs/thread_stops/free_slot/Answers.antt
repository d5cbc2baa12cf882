use Rattle.std.proofs.Common.{◌≡◌, length, Some, refl, sym, subst, ◌∙◌}
use Rattle.std.specs.Prelude.{slice_get}
use Rattle.code_machine.specs.declared.running.Running.{Running}
use Rattle.code_machine.specs.declared.running.Stand.TheVariants.{Free as FreeStand}
use Rattle.code_machine.specs.Seen.{slot_of}
use Rattle.code_machine.proofs.Lists.{one}
use Rattle.code_machine.proofs.SlotWalks.{free_here, free_later, free_nowhere, search_begins}
use Rattle.code_machine.proofs.ThreadSlots.{there_read}
use Rattle.code_machine.proofs.thread_stops.free_slot.Goals as goal

pub returns-then-is_free-clause-least : goal.returns-then-is_free-clause-least
returns-then-is_free-clause-least c = λ image.
    let rs = c.args.slots.now in
    let place = c.loop-place.place in
    let r = c.index-slots-place.result in
    let there : slice_get rs place ≡ Some r = there_read rs (length rs) place r refl c.loop-place-test.true c.index-slots-place.is in
    sym (search_begins (slot_of image) rs ∙ c.loop-place.invariant image ∙ free_here (slot_of image) rs place r there (sym (c.if-is_free.ensures.free image)))

pub returns-then-is_free-clause-free : goal.returns-then-is_free-clause-free
returns-then-is_free-clause-free c = λ x found.
    let rs = c.args.slots.now in
    let place = c.loop-place.place in
    let r = c.index-slots-place.result in
    let there : slice_get rs place ≡ Some r = there_read rs (length rs) place r refl c.loop-place-test.true c.index-slots-place.is in
    subst (λ (y : Running). y.stand ≡ FreeStand) (one (slice_get rs place) r x there found) (c.is_free.ensures.stand c.if-is_free.true)

pub loop-place-preserved : goal.loop-place-preserved
loop-place-preserved c = λ image.
    let rs = c.args.slots.now in
    let place = c.loop-place.place in
    let r = c.index-slots-place.result in
    let there : slice_get rs place ≡ Some r = there_read rs (length rs) place r refl c.loop-place-test.true c.index-slots-place.is in
    c.loop-place.invariant image ∙ free_later (slot_of image) rs place r there (sym (c.if-is_free.ensures.free image))

pub returns-clause-least : goal.returns-clause-least
returns-clause-least c = λ image.
    let rs = c.args.slots.now in
    sym (search_begins (slot_of image) rs ∙ c.loop-place.invariant image ∙ free_nowhere (slot_of image) rs c.loop-place.place c.loop-place-test.false)
