use Rattle.std.proofs.Common.{◌≡◌, length, map, Some, option_map, refl, sym, ap, ◌∙◌, arith}
use Rattle.std.specs.Prelude.{slice_get}
use Rattle.std.specs.Int.{trailing_zeros, w64}
use Rattle.std.proofs.lemmas.List.{length-map}
use Rattle.std.proofs.lemmas.Option.{slice_get-map}
use Rattle.code_machine.specs.Seen.{slot_of}
use Rattle.code_machine.proofs.SlotOfWords.{joined_none, joined_there}
use Rattle.code_machine.proofs.ThreadSlots.{there_read}
use Rattle.code_machine.proofs.thread_stops.live_slot.Goals as goal

pub returns-then-place-slots-clause-live : goal.returns-then-place-slots-clause-live
returns-then-place-slots-clause-live c = λ image.
    let rs = c.args.slots.now in
    sym (joined_none c.args.word (omega (arith, c.ranges.word)) (map (slot_of image) rs)
    (omega (arith, length-map rs (slot_of image), c.if-place-slots.true)))

pub returns-then-lives_as-clause-live : goal.returns-then-lives_as-clause-live
returns-then-lives_as-clause-live c = λ image.
    let rs = c.args.slots.now in
    let place = trailing_zeros w64 c.args.word in
    let r = c.index-slots-place.result in
    let there : slice_get rs place ≡ Some r = there_read rs (length rs) place r refl (omega (arith, c.if-place-slots.false)) c.index-slots-place.is in
    sym (joined_there c.args.word (omega (arith, c.ranges.word)) (map (slot_of image) rs) (slot_of image r) _
    (slice_get-map (slot_of image) rs place ∙ ap (option_map (slot_of image)) there) (sym (c.if-lives_as.ensures image)))

pub returns-else-lives_as-clause-live : goal.returns-else-lives_as-clause-live
returns-else-lives_as-clause-live c = λ image.
    let rs = c.args.slots.now in
    let place = trailing_zeros w64 c.args.word in
    let r = c.index-slots-place.result in
    let there : slice_get rs place ≡ Some r = there_read rs (length rs) place r refl (omega (arith, c.if-place-slots.false)) c.index-slots-place.is in
    sym (joined_there c.args.word (omega (arith, c.ranges.word)) (map (slot_of image) rs) (slot_of image r) _
    (slice_get-map (slot_of image) rs place ∙ ap (option_map (slot_of image)) there) (sym (c.if-lives_as.ensures image)))
