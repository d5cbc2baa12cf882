use Rattle.std.proofs.Common.{◌<◌, length, sym, ◌∙◌, arith}
use Rattle.source_model.specs.Runs.{can_move}
use Rattle.source_runner.proofs.Looking.{none_at_all, none_more, one_of_all}
use Rattle.source_runner.proofs.machine.Machine.some_can_move.Goals as goal

pub returns-then-can_move : goal.returns-then-can_move
returns-then-can_move c = λ w h.
    let count = h.all.count in
    let slot = c.loop-slot.slot in
    let below : slot < length w.slots = omega arith in
    one_of_all (can_move w) (length w.slots) slot below (sym (c.can_move.ensures w h) ∙ c.if-can_move.true)

pub loop-slot-preserved : goal.loop-slot-preserved
loop-slot-preserved c = λ w h.
    let count = h.all.count in
    let slot = c.loop-slot.slot in
    let below : slot < length w.slots = omega arith in
    none_more (can_move w) (length w.slots) slot below (c.loop-slot.invariant w h)
    (sym (c.can_move.ensures w h) ∙ c.if-can_move.false)

pub returns : goal.returns
returns c = λ w h.
    let count = h.all.count in
    none_at_all (can_move w) (length w.slots) c.loop-slot.slot (omega arith) (c.loop-slot.invariant w h)
