use Rattle.std.proofs.Common.{Err, ap}
use Rattle.std.proofs.lemmas.Result.{err_from_is_err_and}
use Rattle.plain_engine.specs.Plain.{state_shown}
use Rattle.plain_engine.proofs.Deciding.{none_there, some_there}
use Rattle.plain_engine.proofs.Withholding.{withheld}
use Rattle.plain_engine.proofs.state.State.prepared.Goals as goal

pub returns-clause-prepared : goal.returns-clause-prepared
returns-clause-prepared g c = λ setup x at.
    let can = some_there _ c.offered.result c.in-Some.offered c.in-Some.is (c.offered.ensures.offered setup x at) in
    record {
      versions = c.in-Some.offered.versions;
      next = c.in-Some.offered.text.now;
      at = can.at;
      is = c.in_ok-prepared.ensures.prepared can.rows;
    }

pub returns-in_default-clause-none : goal.returns-in_default-clause-none
returns-in_default-clause-none g c = none_there c.offered.result c.in_default.is c.offered.ensures.none

pub returns-in_err-prepared-clause-why : goal.returns-in_err-prepared-clause-why
returns-in_err-prepared-clause-why g c =
    let s = state_shown g.M.Machine.shown c.args.self.now in
    let p = err_from_is_err_and c.from_residual.result c.from_residual.ensures.1 in
    rw (p.1, p.2)
    (withheld s c.args.k c.in-Some.offered.text.now (some_there _ c.offered.result c.in-Some.offered c.in-Some.is c.offered.ensures.text)
    c.in_err-prepared.field-0.0 (λ is. c.in_err-prepared.ensures.undefined (ap Err is)))
