use Rattle.plain_engine.proofs.state.State.decide_prepared.Goals as goal

pub returns-in-Ok-true-clause-made : goal.returns-in-Ok-true-clause-made
returns-in-Ok-true-clause-made g c = λ setup x at fits.
    let may = c.in-Ok-true.ensures.open c.in-Ok-true.field-0-test setup x at in
    c.decide_if_present.ensures.made setup x at may.0 may.1 may.2 (c.in-Ok-true.ensures.some c.in-Ok-true.field-0-test) fits

pub returns-in-Ok-false-clause-made : goal.returns-in-Ok-false-clause-made
returns-in-Ok-false-clause-made g c = λ setup x at fits. c.in-Ok-false.ensures.never c.in-Ok-false.field-0-test setup x at

pub returns-in-Err-clause-misused : goal.returns-in-Err-clause-misused
returns-in-Err-clause-misused g c = λ e. c.in-Err.ensures.misused.1
