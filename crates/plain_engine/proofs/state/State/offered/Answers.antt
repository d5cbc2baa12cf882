use Rattle.plain_engine.specs.Plain.{state_shown}
use Rattle.plain_engine.proofs.Deciding.{found, no_last, no_offer, not_found}
use Rattle.plain_engine.proofs.Preparing.{can_be_prepared}
use Rattle.plain_engine.proofs.state.State.offered.Goals as goal

pub returns-in_default-clause-none : goal.returns-in_default-clause-none
returns-in_default-clause-none g c = λ setup x at some.
    let s = state_shown g.M.Machine.shown c.args.self.now in
    no_last setup x s at (not_found c.text.result s.run.trees s.last c.text.ensures c.in_default.is)

pub returns-in_default-text-clause-none : goal.returns-in_default-text-clause-none
returns-in_default-text-clause-none g c = λ setup x at some.
    let s = state_shown g.M.Machine.shown c.args.self.now in
    no_offer setup x s.run c.args.k at.run some (not_found c.text-2.result s.run.trees c.args.k c.text-2.ensures c.in_default-text.is)

pub returns-clause-offered : goal.returns-clause-offered
returns-clause-offered g c = λ setup x at.
    let s = state_shown g.M.Machine.shown c.args.self.now in
    can_be_prepared s c.args.k _
    (record {
      last = c.in-Some.last.now;
      last_at = found c.text.result c.in-Some.last s.run.trees s.last c.text.ensures c.in-Some.is;
      next_at = found c.text-2.result c.in-Some-text.text s.run.trees c.args.k c.text-2.ensures c.in-Some-text.is;
      same = c.versions.ensures.same;
      are = c.versions.ensures.versions;
    })
    c.rows.ensures at.versions.rows

pub returns-clause-text : goal.returns-clause-text
returns-clause-text g c =
    let s = state_shown g.M.Machine.shown c.args.self.now in
    found c.text-2.result c.in-Some-text.text s.run.trees c.args.k c.text-2.ensures c.in-Some-text.is
