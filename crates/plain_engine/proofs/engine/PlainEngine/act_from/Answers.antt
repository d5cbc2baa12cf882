use Rattle.std.proofs.Common.{◌≡◌, length}
use Rattle.std.specs.Prelude.{Ok}
use Rattle.source_model.specs.Schedules.{act_of, first_act, slots_after}
use Rattle.dsu_runs.specs.Engines.{TurnsTo}
use Rattle.dsu_runs.specs.declared.engine.Turn.TheVariants as turn
use Rattle.plain_engine.specs.Plain.{IsEngineAt, state_shown}
use Rattle.plain_engine.proofs.Turning.{ok_is, told_since, turned}
use Rattle.plain_engine.proofs.engine.PlainEngine.act_from.Goals as goal

pub returns-in-NoneActs-clause-turned : goal.returns-in-NoneActs-clause-turned
returns-in-NoneActs-clause-turned g c = λ asks setup x at going none fits next.
    let mid = c.act_in.new.self in
    let new = c.others_act-in-NoneActs.new.self in
    let told = g.S.Sink.told c.args.self.now.sink in
    let is : c.act_in.result ≡ Ok turn.NoneActs = cc in
    let rests = (ok_is c.act_in.result (TurnsTo (λ y. IsEngineAt setup y (state_shown g.M.Machine.shown mid.state) mid.printed mid.written) setup (act_of x c.args.slot) x told (g.S.Sink.told mid.sink)) turn.NoneActs
    (c.act_in.ensures.turned setup x at going none) is).1 in
    told_since (λ y. IsEngineAt setup y (state_shown g.M.Machine.shown new.state) new.printed new.written) setup x told (g.S.Sink.told new.sink) c.others_act-in-NoneActs.result
    (first_act x (slots_after (length x.seats) c.args.last)) (g.S.Sink.told mid.sink) rests.silent
    (c.others_act-in-NoneActs.ensures.turned (c.act_in.ensures.asked asks) setup x rests.stays going none fits)

pub returns-then-ne-clause-turned : goal.returns-then-ne-clause-turned
returns-then-ne-clause-turned g c = λ asks setup x at going none fits next. c.others_act.ensures.turned asks setup x at going none fits

pub returns-in_default-clause-turned : goal.returns-in_default-clause-turned
returns-in_default-clause-turned g c = λ asks setup x at going none fits next.
    let mid = c.act_in.new.self in
    turned (λ y. IsEngineAt setup y (state_shown g.M.Machine.shown mid.state) mid.printed mid.written) setup x (act_of x c.args.slot)
    (first_act x (slots_after (length x.seats) c.args.last)) (g.S.Sink.told c.args.self.now.sink) (g.S.Sink.told mid.sink)
    c.in_ok-turn.turn c.in_default.not-NoneActs next (c.in_ok-turn.ensures.turned setup x at going none)
