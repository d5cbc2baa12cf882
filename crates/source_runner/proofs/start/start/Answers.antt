use Rattle.std.proofs.Common.{false, refl}
use Rattle.source_runner.proofs.Beginning.{begun}
use Rattle.source_runner.proofs.start.start.Goals as goal

pub returns-clause-stands : goal.returns-clause-stands
returns-clause-stands c = λ sound begins.
    begun _ (record { objects = c.args.objects; slots = c.args.slots }) c.main_slot.result sound begins c.in_ok-globals.ensures c.new.ensures.items refl
    c.new-2.ensures.items c.new-3.ensures.items c.in_ok-slots.ensures refl refl refl
    (c.main_slot.ensures _ false (c.main.ensures sound))
