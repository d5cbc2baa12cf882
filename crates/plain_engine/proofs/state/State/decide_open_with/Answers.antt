use Rattle.std.proofs.lemmas.Result.{IfErr-weaker, on_err_weaker}
use Rattle.offer_preparations.specs.Preparations.{trees_of}
use Rattle.plain_engine.specs.Plain.{state_shown}
use Rattle.plain_engine.proofs.Preparing.{prepared_elsewhere}
use Rattle.plain_engine.proofs.Withholding.{for_memory}
use Rattle.plain_engine.proofs.state.State.decide_open_with.Goals as goal

pub returns-in-Some-clause-made : goal.returns-in-Some-clause-made
returns-in-Some-clause-made g c = λ setup x of at going right offered some.
    let s = state_shown g.M.Machine.shown c.args.self.now in
    c.decide_on.ensures.made setup x at going right offered some
    (prepared_elsewhere setup x s (trees_of c.args.preparation) c.args.k c.in-Some.prepared at of.texts (c.in-Some.ensures of.is))

pub returns-in-Some-clause-stays : goal.returns-in-Some-clause-stays
returns-in-Some-clause-stays g c =
    let s = state_shown g.M.Machine.shown c.args.self.now in
    on_err_weaker c.decide_on.result
    (λ stays setup x of at. stays setup x at
    (prepared_elsewhere setup x s (trees_of c.args.preparation) c.args.k c.in-Some.prepared at of.texts (c.in-Some.ensures of.is)))
    c.decide_on.ensures.stays

pub returns-in-Some-clause-why : goal.returns-in-Some-clause-why
returns-in-Some-clause-why g c =
    IfErr-weaker c.decide_on.result _ _ (for_memory (state_shown g.M.Machine.shown c.args.self.now) c.args.k) c.decide_on.ensures.memory

pub returns-in-None-clause-made : goal.returns-in-None-clause-made
returns-in-None-clause-made g c = λ setup x of at. c.decide_open.ensures.made setup x at

pub returns-in-None-clause-stays : goal.returns-in-None-clause-stays
returns-in-None-clause-stays g c =
    on_err_weaker c.decide_open.result (λ stays setup x of at. stays setup x at) c.decide_open.ensures.stays
