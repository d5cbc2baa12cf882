use Rattle.std.proofs.Common.{◌-◌, ◌≤◌, ◌∙◌, Some, None, refl, subst, sym}
use Rattle.std.specs.List.{range_with_len}
use Rattle.source_model.specs.Schedules.{first_act}
use Rattle.plain_engine.proofs.Threads.{first_within, next_in_turn}
use Rattle.plain_engine.proofs.state.State.next_act.Goals as goal

pub returns-in-Some : goal.returns-in-Some
returns-in-Some g c = λ asks setup x at going same.
    next_in_turn x c.args.last c.first_after-first.result (Some c.in-Some.act)
    (first_act x (range_with_len 0 (c.first_after-first.result - 0))) same at.seats.many c.first_after-first.ensures
    (sym (c.act_within.ensures asks setup x at going) ∙ c.in-Some.is) refl

pub returns-in-None : goal.returns-in-None
returns-in-None g c = λ asks setup x at going same.
    next_in_turn x c.args.last c.first_after-first.result None c.act_within-in-None.result same at.seats.many c.first_after-first.ensures
    (sym (c.act_within.ensures asks setup x at going) ∙ c.in-None.is) (sym (c.act_within-in-None.ensures asks setup x at going))

pub act_within-requires-in-None : goal.act_within-requires-in-None
act_within-requires-in-None g c = subst (λ n. n ≤ 16) (sym c.first_after-first.ensures) (first_within c.args.last)
