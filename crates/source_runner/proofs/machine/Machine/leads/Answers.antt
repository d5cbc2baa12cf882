use Rattle.std.proofs.Common.{rules}
use Rattle.source_runner.proofs.Looking.{thread_leads}
use Rattle.source_runner.proofs.machine.Machine.leads.Goals as goal

pub returns-in-Some-Live : goal.returns-in-Some-Live
returns-in-Some-Live c = λ w h going.
    thread_leads c.args.self.now w c.args.slot c.in-Some-Live.thread c.in-Some-Live.next _ h going (search rules)
    c.next_leads.ensures
