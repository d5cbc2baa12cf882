use Rattle.std.proofs.Common.{◌∙◌, sym}
use Rattle.threaded_vm.proofs.Keeping.{finds, there_seen}
use Rattle.threaded_vm.proofs.shared.Shared.act.Goals as goal

pub check_in-requires-clause-at : goal.check_in-requires-clause-at
check_in-requires-clause-at g c κs within = λ setup first x at comes.
    let e = g.E.Engine in
    let there = there_seen e.is_at e.told e.faults g.O.Opening.opened _ c.args.self.now c.self.invariant.0 c.self.view_is c.requires.going setup first x at comes in
    sym (c.stands.ensures setup x there (c.requires.unfinished setup first x at comes)) ∙ c.in-AtCheckIn.is

pub rest-requires-clause-says : goal.rest-requires-clause-says
rest-requires-clause-says g c κs within =
    let e = g.E.Engine in
    finds e.is_at e.told e.faults g.O.Opening.opened _ c.args.self.now _ c.self.invariant.0 c.self.view_is c.requires.going
    (λ setup first x at comes there. sym (c.stands.ensures setup x there (c.requires.unfinished setup first x at comes)) ∙ c.in-NoThread.is)
