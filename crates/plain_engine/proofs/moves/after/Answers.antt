use Rattle.std.proofs.Common.{true, false, eq-eqb}
use Rattle.std.specs.Prelude.{◌==◌}
use Rattle.source_model.specs.Worlds.{in_slot, is_over}
use Rattle.plain_engine.proofs.SlotsAfter.{after_as, differs}
use Rattle.plain_engine.proofs.moves.after.Goals as goal

pub returns-then-slot-mover : goal.returns-then-slot-mover
returns-then-slot-mover g c = λ texts limits moves w run reached.
    let slot = c.args.slot in
    after_as (slot == c.args.mover) true (g.M.Machine.shown c.args.run.now).words (is_over w) (in_slot w slot) c.args.leads c.args.seat c.moved.result
    (eq-eqb slot c.args.mover c.if-slot-mover.true) (c.moved.ensures texts limits moves w run reached)

pub returns-else-slot-mover : goal.returns-else-slot-mover
returns-else-slot-mover g c = λ texts limits moves w run reached.
    let slot = c.args.slot in
    after_as (slot == c.args.mover) false (g.M.Machine.shown c.args.run.now).words (is_over w) (in_slot w slot) c.args.leads c.args.seat c.other.result
    (differs slot c.args.mover c.if-slot-mover.false) (c.other.ensures texts limits moves w run reached)
