use Rattle.trace_lines.specs.Lines.{pin_words}
use Rattle.trace_lines.proofs.Adding.{items_more}
use Rattle.trace_lines.proofs.line.add_pins.Goals as goal

pub loop-slot-preserved : goal.loop-slot-preserved
loop-slot-preserved c =
    items_more pin_words _ _ _ c.args.pinned.now c.loop-slot.slot-index _ c.loop-slot-test.true c.loop-slot.invariant
    c.in_ok-add_pin.ensures
