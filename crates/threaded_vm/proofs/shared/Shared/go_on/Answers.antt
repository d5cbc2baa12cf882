use Rattle.std.proofs.Common.{◌∙◌, refl, sym}
use Rattle.dsu_runs.specs.declared.ran.StopCause.TheVariants.{Ended}
use Rattle.threaded_vm.proofs.Ending.{goes}
use Rattle.threaded_vm.proofs.Keeping.{there_seen}
use Rattle.threaded_vm.proofs.Logs.{ends_turn, is_on, over_after}
use Rattle.threaded_vm.proofs.shared.Shared.go_on.Goals as goal

pub returns-in-Some-clause-own : goal.returns-in-Some-clause-own
returns-in-Some-clause-own g c =
    let v = c.args.self.now in
    ends_turn v v c.end.new.self c.args.slot (Ended c.in-Some.ending) (is_on v.course c.requires.going) refl c.end.ensures

pub returns-in-Some-clause-says : goal.returns-in-Some-clause-says
returns-in-Some-clause-says g c = over_after c.args.self.now c.end.new.self c.args.slot (Ended c.in-Some.ending) c.end.ensures

pub without_moves-requires-clause-unfinished : goal.without_moves-requires-clause-unfinished
without_moves-requires-clause-unfinished g c κs within = λ setup first x at comes.
    let e = g.E.Engine in
    let there = there_seen e.is_at e.told e.faults g.O.Opening.opened _ c.args.self.now c.self.invariant.0 c.self.view_is c.requires.going setup first x at comes in
    goes x (sym c.in_default.is ∙ c.finish.ensures setup x there)

pub act-requires-clause-unfinished : goal.act-requires-clause-unfinished
act-requires-clause-unfinished g c κs within = λ setup first x at comes.
    let e = g.E.Engine in
    let there = there_seen e.is_at e.told e.faults g.O.Opening.opened _ c.args.self.now c.self.invariant.0 c.self.view_is c.requires.going setup first x at comes in
    goes x (sym c.in_default.is ∙ c.finish.ensures setup x there)

pub act-requires-clause-none_due : goal.act-requires-clause-none_due
act-requires-clause-none_due g c κs within = λ setup first x at comes.
    let e = g.E.Engine in
    let there = there_seen e.is_at e.told e.faults g.O.Opening.opened _ c.args.self.now c.self.invariant.0 c.self.view_is c.requires.going setup first x at comes in
    sym (c.due.ensures setup x there) ∙ c.in-None.is
