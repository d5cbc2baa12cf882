use Rattle.std.proofs.Common.{◌∙◌, ◌==◌, ap, refl, arith, slice_index_or, if◌then◌else◌}
use Rattle.slot_sets.specs.Members.{is_in}
use Rattle.plain_engine.specs.Kept.{empty}
use Rattle.plain_engine.proofs.Threads.{all_slots, none_so_far, one_slot_more}
use Rattle.plain_engine.proofs.seats.Seats.of.Goals as goal

pub loop-slot-init : goal.loop-slot-init
loop-slot-init c = none_so_far c.args.seats c.empty-live.result c.empty-live.ensures

pub loop-slot-preserved : goal.loop-slot-preserved
loop-slot-preserved c =
    let seats = c.args.seats in
    let k = c.loop-slot.slot in
    one_slot_more seats k c.loop-slot.live c.set.new.self (slice_index_or seats k empty) c.loop-slot.invariant refl
    (λ n. c.set.ensures n ∙ ap (λ b. if n == k then b else is_in c.loop-slot.live n) c.is_there.ensures)

pub invariant_of-result : goal.invariant_of-result
invariant_of-result c =
    all_slots c.args.seats c.loop-slot.slot c.loop-slot.live (omega arith) (omega (arith, c.loop-slot-test.false)) (omega arith)
    c.loop-slot.invariant
