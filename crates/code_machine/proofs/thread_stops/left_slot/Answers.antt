use Rattle.std.proofs.Common.{◌≡◌, length, Some, refl, sym, subst, ◌∙◌}
use Rattle.std.specs.Prelude.{slice_get}
use Rattle.code_machine.specs.declared.running.Running.{Running}
use Rattle.code_machine.specs.declared.running.Stand.TheVariants.{Over as OverStand}
use Rattle.code_machine.specs.Seen.{slot_of}
use Rattle.code_machine.proofs.Lists.{one}
use Rattle.code_machine.proofs.SlotWalks.{left_here, left_later}
use Rattle.code_machine.proofs.ThreadSlots.{there_read}
use Rattle.code_machine.proofs.thread_stops.left_slot.Goals as goal

pub returns-in-Some-clause-left : goal.returns-in-Some-clause-left
returns-in-Some-clause-left c = λ image.
    let rs = c.args.slots.now in
    let place = c.loop-place.place in
    let r = c.index-slots-place.result in
    let there : slice_get rs place ≡ Some r = there_read rs (length rs) place r refl c.loop-place-test.true c.index-slots-place.is in
    sym (c.loop-place.invariant image ∙ left_here (slot_of image) rs c.args.word place c.in-Some.left r there (sym (c.in-Some.ensures.left image)))

pub returns-in-Some-clause-over : goal.returns-in-Some-clause-over
returns-in-Some-clause-over c = λ x found.
    let rs = c.args.slots.now in
    let place = c.loop-place.place in
    let r = c.index-slots-place.result in
    let there : slice_get rs place ≡ Some r = there_read rs (length rs) place r refl c.loop-place-test.true c.index-slots-place.is in
    subst (λ (y : Running). y.stand ≡ OverStand c.in-Some.left) (one (slice_get rs place) r x there found) c.in-Some.ensures.over

pub loop-place-preserved : goal.loop-place-preserved
loop-place-preserved c = λ image.
    let rs = c.args.slots.now in
    let place = c.loop-place.place in
    let r = c.index-slots-place.result in
    let there : slice_get rs place ≡ Some r = there_read rs (length rs) place r refl c.loop-place-test.true c.index-slots-place.is in
    c.loop-place.invariant image ∙ left_later (slot_of image) rs c.args.word place r there (sym (c.left_in.ensures.left image) ∙ c.in_default.is)
