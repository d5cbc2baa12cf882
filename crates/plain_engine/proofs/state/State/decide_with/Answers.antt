use Rattle.std.proofs.lemmas.Result.{MatchResult-at_err}
use Rattle.plain_engine.specs.Plain.{state_shown}
use Rattle.plain_engine.specs.Steps.{MayWithhold}
use Rattle.dsu_runs.specs.declared.engine.Undecided.TheVariants.{Misused, UndefinedName}
use Rattle.plain_engine.proofs.state.State.decide_with.Goals as goal

pub returns-in-Ok-true-clause-made : goal.returns-in-Ok-true-clause-made
returns-in-Ok-true-clause-made g c = λ setup x of at.
    let may = c.in-Ok-true.ensures.open c.in-Ok-true.field-0-test setup x at in
    c.decide_open_with.ensures.made setup x of at may.0 may.1 may.2 (c.in-Ok-true.ensures.some c.in-Ok-true.field-0-test)

pub returns-in-Ok-false-clause-made : goal.returns-in-Ok-false-clause-made
returns-in-Ok-false-clause-made g c = λ setup x of at. c.in-Ok-false.ensures.never c.in-Ok-false.field-0-test setup x at

pub returns-in-Ok-true-clause-misused : goal.returns-in-Ok-true-clause-misused
returns-in-Ok-true-clause-misused g c = λ e setup x at.
    absurd
    (MatchResult-at_err _ (MayWithhold (state_shown g.M.Machine.shown c.args.self.now) c.args.k) Misused e c.decide_open_with.ensures.why)

pub returns-in-Ok-true-clause-undefined : goal.returns-in-Ok-true-clause-undefined
returns-in-Ok-true-clause-undefined g c = λ e setup x at.
    MatchResult-at_err _ (MayWithhold (state_shown g.M.Machine.shown c.args.self.now) c.args.k) UndefinedName e c.decide_open_with.ensures.why
    (c.in-Ok-true.ensures.some c.in-Ok-true.field-0-test) setup x at

pub returns-in-Err-clause-misused : goal.returns-in-Err-clause-misused
returns-in-Err-clause-misused g c = λ e. c.in-Err.ensures.misused.1

pub returns-in-Err-clause-undefined : goal.returns-in-Err-clause-undefined
returns-in-Err-clause-undefined g c = λ e. let m = c.in-Err.ensures.misused.0 in absurd cc
