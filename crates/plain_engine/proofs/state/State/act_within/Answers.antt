use Rattle.std.proofs.Common.{◌<◌, ◌∙◌, arith, sym}
use Rattle.plain_engine.specs.Plain.{state_shown}
use Rattle.dsu_runs.proofs.Slots.{acts_first, none_at}
use Rattle.plain_engine.proofs.Threads.{none_left, none_up_to, passed_over}
use Rattle.plain_engine.proofs.state.State.act_within.Goals as goal

pub returns-then-slot-to : goal.returns-then-slot-to
returns-then-slot-to g c = λ asks setup x at going.
    let s = state_shown g.M.Machine.shown c.args.self.now in
    let first = c.first_thread.ensures in
    sym (c.loop-slot.invariant asks setup x at going
    ∙ none_up_to x s.run s.seats c.loop-slot.rest c.in-Some.slot c.args.to at.seats going first.many c.requires c.in-Some.ensures.first
    (omega (arith, c.if-slot-to.true)))

pub returns-in-Some-act_of : goal.returns-in-Some-act_of
returns-in-Some-act_of g c = λ asks setup x at going.
    let s = state_shown g.M.Machine.shown c.args.self.now in
    let below : c.in-Some.slot < c.args.to = omega (arith, c.if-slot-to.false) in
    sym (c.loop-slot.invariant asks setup x at going
    ∙ passed_over x s.run s.seats c.loop-slot.rest c.in-Some.slot c.args.to at.seats going c.first_thread.ensures.many c.requires
    c.in-Some.ensures.first below
    ∙ acts_first x c.in-Some.slot c.args.to _ below (sym (c.act_of.ensures asks setup x at going) ∙ c.in-Some-act_of.is))

pub loop-slot-preserved : goal.loop-slot-preserved
loop-slot-preserved g c = λ asks setup x at going.
    let s = state_shown g.M.Machine.shown c.args.self.now in
    let below : c.in-Some.slot < c.args.to = omega (arith, c.if-slot-to.false) in
    c.loop-slot.invariant asks setup x at going
    ∙ passed_over x s.run s.seats c.loop-slot.rest c.in-Some.slot c.args.to at.seats going c.first_thread.ensures.many c.requires
    c.in-Some.ensures.first below
    ∙ none_at x c.in-Some.slot c.args.to below (sym (c.act_of.ensures asks setup x at going) ∙ c.in_default-act_of.is)

pub returns : goal.returns
returns g c = λ asks setup x at going.
    let s = state_shown g.M.Machine.shown c.args.self.now in
    sym (c.loop-slot.invariant asks setup x at going
    ∙ none_left x s.run s.seats c.loop-slot.rest c.args.to at.seats going c.first_thread.ensures.many c.requires c.in_default.ensures.first)
