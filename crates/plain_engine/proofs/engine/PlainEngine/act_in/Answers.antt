use Rattle.std.proofs.Common.{◌≡◌, ◌∙◌, sym}
use Rattle.std.specs.Prelude.{Ok}
use Rattle.run_types.specs.declared.run.Event.TheVariants.{Move}
use Rattle.dsu_runs.specs.Engines.{MakesAt}
use Rattle.dsu_runs.specs.declared.engine.Made.TheVariants as made
use Rattle.dsu_runs.specs.declared.engine.Turn.TheVariants.{NoneActs, SinkFailed}
use Rattle.plain_engine.specs.Plain.{IsEngineAt, state_shown}
use Rattle.plain_engine.proofs.Turning.{broke, check_in_turn, ok_is, rested, went}
use Rattle.plain_engine.proofs.engine.PlainEngine.act_in.Goals as goal

pub returns-then-is_at_check_in-clause-turned : goal.returns-then-is_at_check_in-clause-turned
returns-then-is_at_check_in-clause-turned g c = λ setup x at going none.
    let new = c.check_in.new.self in
    let there = sym (c.is_at_check_in.ensures.value x at.state.seats going) ∙ c.if-is_at_check_in.true in
    check_in_turn (λ y. IsEngineAt setup y (state_shown g.M.Machine.shown new.state) new.printed new.written) setup x c.args.slot
    (g.S.Sink.told c.args.self.now.sink) (g.S.Sink.told new.sink) c.check_in.result c.passed.result there going none
    (c.check_in.ensures.made setup x at) c.check_in.ensures.written c.passed.ensures.done

pub returns-in-Done-clause-turned : goal.returns-in-Done-clause-turned
returns-in-Done-clause-turned g c = λ setup x at going none.
    let new = c.act.new.self in
    let told = g.S.Sink.told c.args.self.now.sink in
    let now = g.S.Sink.told new.sink in
    let there = sym (c.is_at_check_in.ensures.value x at.state.seats going) ∙ c.if-is_at_check_in.false in
    let is : c.act.result ≡ Ok made.Done = cc in
    let m = ok_is c.act.result (MakesAt (λ y. IsEngineAt setup y (state_shown g.M.Machine.shown new.state) new.printed new.written) setup (Move c.args.slot) x told now) made.Done (c.act.ensures.made setup x at) is in
    went (λ y. IsEngineAt setup y (state_shown g.M.Machine.shown new.state) new.printed new.written) setup x c.args.slot told now
    c.turn_after.result c.args.self.now.printed there m at.printed (c.turn_after.ensures.turned setup m.after m.there)

pub returns-in-CannotHappen-clause-turned : goal.returns-in-CannotHappen-clause-turned
returns-in-CannotHappen-clause-turned g c = λ setup x at going none.
    let new = c.act.new.self in
    let told = g.S.Sink.told c.args.self.now.sink in
    let now = g.S.Sink.told new.sink in
    let there = sym (c.is_at_check_in.ensures.value x at.state.seats going) ∙ c.if-is_at_check_in.false in
    let is : c.act.result ≡ Ok made.CannotHappen = cc in
    rested (λ y. IsEngineAt setup y (state_shown g.M.Machine.shown new.state) new.printed new.written) setup x c.args.slot told now there going
    (ok_is c.act.result (MakesAt (λ y. IsEngineAt setup y (state_shown g.M.Machine.shown new.state) new.printed new.written) setup (Move c.args.slot) x told now) made.CannotHappen (c.act.ensures.made setup x at) is)

pub returns-in-SinkFailed-clause-turned : goal.returns-in-SinkFailed-clause-turned
returns-in-SinkFailed-clause-turned g c = λ setup x at going none.
    let new = c.act.new.self in
    let told = g.S.Sink.told c.args.self.now.sink in
    let now = g.S.Sink.told new.sink in
    let there = sym (c.is_at_check_in.ensures.value x at.state.seats going) ∙ c.if-is_at_check_in.false in
    let is : c.act.result ≡ Ok made.SinkFailed = cc in
    broke (λ y. IsEngineAt setup y (state_shown g.M.Machine.shown new.state) new.printed new.written) setup x c.args.slot told now there
    (ok_is c.act.result (MakesAt (λ y. IsEngineAt setup y (state_shown g.M.Machine.shown new.state) new.printed new.written) setup (Move c.args.slot) x told now) made.SinkFailed (c.act.ensures.made setup x at) is)

pub returns-in-Done-clause-cause : goal.returns-in-Done-clause-cause
returns-in-Done-clause-cause g c = λ n failed.
    let is : c.turn_after.result ≡ SinkFailed n = cc in
    absurd (c.turn_after.ensures.written n is)

pub returns-in-Done-clause-lasts : goal.returns-in-Done-clause-lasts
returns-in-Done-clause-lasts g c = λ n lasts none.
    let is : c.turn_after.result ≡ NoneActs = cc in
    absurd (c.turn_after.ensures.acted is)

pub returns-in-Done-clause-rested : goal.returns-in-Done-clause-rested
returns-in-Done-clause-rested g c = λ none.
    let is : c.turn_after.result ≡ NoneActs = cc in
    absurd (c.turn_after.ensures.acted is)
