use Rattle.std.proofs.Common.{◌∙◌, length, refl, sym}
use Rattle.source_model.specs.Schedules.{act_of, first_act, slots_after}
use Rattle.plain_engine.specs.Plain.{IsEngineAt, state_shown}
use Rattle.plain_engine.proofs.Turning.{named}
use Rattle.plain_engine.proofs.engine.PlainEngine.others_act.Goals as goal

pub returns-in-Some-clause-turned : goal.returns-in-Some-clause-turned
returns-in-Some-clause-turned g c = λ asks setup x at going none fits.
    let new = c.act_in.new.self in
    let slots = slots_after (length x.seats) c.args.last in
    let first = sym (c.next_act.ensures asks setup x at.state going fits) ∙ c.in-Some.is in
    named (λ y. IsEngineAt setup y (state_shown g.M.Machine.shown new.state) new.printed new.written) setup x (g.S.Sink.told c.args.self.now.sink) (g.S.Sink.told new.sink)
    c.act_in.result (act_of x c.slot_of.result) (first_act x slots)
    (c.slot_of.ensures x slots first ∙ sym first)
    (c.act_in.ensures.turned setup x at going none)

pub returns-in-None-clause-turned : goal.returns-in-None-clause-turned
returns-in-None-clause-turned g c = λ asks setup x at going none fits.
    (sym (c.next_act.ensures asks setup x at.state going fits) ∙ c.in-None.is, record { stays = at; silent = refl })
