use Rattle.std.proofs.Common.{rules}
use Rattle.pass_lock.proofs.Giving.{carried, give_serves, give_own}
use Rattle.pass_lock.proofs.lock.PassLock.give.Goals as goal

pub fetch_add-served-requires : goal.fetch_add-served-requires
fetch_add-served-requires g c = let t = c.requires.turn in (
  search rules,
  search rules,
  give_serves g.W.Told.history c.args.pass.now c.pass.inside.seat c.exchange-taken.new.seat.me c.args.turn.value c.pass.view_is c.pass.invariant c.exchange-taken.ensures.3 _ _ _ t.0 t.1 t.2 t.3.0,
)

pub returns-clause-own : goal.returns-clause-own
returns-clause-own g c = let t = c.requires.turn in let put = c.exchange-taken.ensures.3 in λ o added turn adds.
    give_own g.W.Told.history c.args.pass.now c.pass.inside.seat c.exchange-taken.new.seat.me c.args.turn.value c.pass.view_is c.pass.invariant put c.fetch_add-served.new.seat
    (c.fetch_add-served.ensures.2 c.args.turn.value (carried g.W.Told.history c.args.pass.now c.pass.inside.seat c.exchange-taken.new.seat.me c.args.turn.value c.pass.view_is c.pass.invariant put t.0 t.2)) o added turn adds.0
