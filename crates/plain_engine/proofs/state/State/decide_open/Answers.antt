use Rattle.std.proofs.Common.{ap}
use Rattle.std.proofs.lemmas.Result.{IfErr-weaker, err_from_is_err_and, on_err_weaker}
use Rattle.source_model.specs.Guards.{decide}
use Rattle.plain_engine.specs.Plain.{state_shown}
use Rattle.plain_engine.proofs.Deciding.{never_decides, none_there, some_there}
use Rattle.plain_engine.proofs.Withholding.{for_memory}
use Rattle.plain_engine.proofs.state.State.decide_open.Goals as goal

pub returns-in-None-clause-made : goal.returns-in-None-clause-made
returns-in-None-clause-made g c = λ setup x at going right offered some.
    let k = c.args.k in
    never_decides setup x k (state_shown g.M.Machine.shown c.args.self.now) at
    (λ on there rules rows.
    ap (decide rules x k) (none_there c.in_ok-prepared.prepared c.in-None.is c.in_ok-prepared.ensures.none setup x at some))

pub returns-in-Some-clause-made : goal.returns-in-Some-clause-made
returns-in-Some-clause-made g c = λ setup x at going right offered some.
    c.decide_on.ensures.made setup x at going right offered some
    (some_there _ c.in_ok-prepared.prepared c.in-Some.prepared c.in-Some.is (c.in_ok-prepared.ensures.prepared setup x at))

pub returns-in_err-prepared-clause-why : goal.returns-in_err-prepared-clause-why
returns-in_err-prepared-clause-why g c =
    let p = err_from_is_err_and c.from_residual.result c.from_residual.ensures.1 in rw (p.1, p.2) c.in_err-prepared.ensures.why

pub returns-in-Some-clause-why : goal.returns-in-Some-clause-why
returns-in-Some-clause-why g c =
    IfErr-weaker c.decide_on.result _ _ (for_memory (state_shown g.M.Machine.shown c.args.self.now) c.args.k) c.decide_on.ensures.memory

pub returns-in-Some-clause-stays : goal.returns-in-Some-clause-stays
returns-in-Some-clause-stays g c =
    on_err_weaker c.decide_on.result
    (λ stays setup x at. stays setup x at
    (some_there _ c.in_ok-prepared.prepared c.in-Some.prepared c.in-Some.is (c.in_ok-prepared.ensures.prepared setup x at)))
    c.decide_on.ensures.stays
