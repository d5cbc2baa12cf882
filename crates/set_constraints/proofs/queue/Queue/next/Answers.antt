use Rattle.set_constraints.proofs.WaitLemmas.{none_if_none}
use Rattle.set_constraints.proofs.queue.Queue.next.Goals as goal

pub returns-in-None-clause-none : goal.returns-in-None-clause-none
returns-in-None-clause-none c = none_if_none c.args.self.now.waits.items c.args.order.now c.scan-in-None.result c.requires c.scan-in-None.ensures.none
