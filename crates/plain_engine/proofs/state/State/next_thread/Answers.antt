use Rattle.plain_engine.specs.Plain.{state_shown}
use Rattle.plain_engine.proofs.Turning.{from_first, none_or_0}
use Rattle.plain_engine.proofs.state.State.next_thread.Goals as goal

pub returns-in-Some : goal.returns-in-Some
returns-in-Some g c = λ setup x at going same act acts.
    let s = state_shown g.M.Machine.shown c.args.self.now in
    from_first x s.run s.seats c.args.last c.first_after-first.result at.seats going c.first_thread.ensures.many same c.first_after-first.ensures
    c.in-Some.slot act c.in-Some.ensures.first acts

pub returns-in-None : goal.returns-in-None
returns-in-None g c = λ setup x at going same.
    let s = state_shown g.M.Machine.shown c.args.self.now in
    none_or_0 x s.run s.seats c.args.last c.first_after-first.result at.seats going c.first_thread.ensures.many same c.first_after-first.ensures
    c.in-None.ensures.first c.first_thread-in-None.result c.first_thread-in-None.ensures.first
