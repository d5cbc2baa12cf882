use Rattle.std.proofs.Common.{rules, ap, ◌∙◌}
use Rattle.pass_lock.proofs.Kept.{draws_one}
use Rattle.pass_lock.proofs.Calls.{idle}
use Rattle.pass_lock.proofs.lock.PassLock.take.Goals as goal

pub fetch_add-ticket-requires : goal.fetch_add-ticket-requires
fetch_add-ticket-requires g c = (
  search rules,
  search rules,
  draws_one g.W.Told.history _ _ _ c.pass.inside.seat.me (idle c.pass.inside.seat.me.0.stage (ap (λ k. k.turn) c.pass.view_is ∙ c.requires.1) c.pass.invariant.rests) c.pass.invariant.single,
)
