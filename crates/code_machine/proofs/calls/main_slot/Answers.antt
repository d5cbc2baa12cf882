use Rattle.std.proofs.Common.{[], refl}
use Rattle.code_machine.specs.declared.running.Stand.TheVariants.{Live}
use Rattle.code_machine.proofs.Starting.{starts}
use Rattle.code_machine.proofs.calls.main_slot.Goals as goal

pub returns-clause-fresh : goal.returns-clause-fresh
returns-clause-fresh c =
    let f = c.in_ok-running.ensures.fresh in
    record { next = f.next; serial = f.serial; depth = f.depth; version = f.version; none = f.none; leaves = f.leaves }

pub returns-clause-seen : goal.returns-clause-seen
returns-clause-seen c =
    let r = c.in_ok-running.running in
    let f = c.in_ok-running.ensures.fresh in
    starts c.args.image.now r.frames (record r { stand = Live }) 1 c.args.image.now.main 0 [] 0 refl f.none refl refl f.serial f.depth f.version f.next
