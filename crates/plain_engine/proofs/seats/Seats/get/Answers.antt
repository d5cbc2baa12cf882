use Rattle.std.proofs.Common.{◌≡◌, length, subst}
use Rattle.plain_engine.proofs.seats.Seats.get.Goals as goal

pub returns-clause-many : goal.returns-clause-many
returns-clause-many c = subst (λ seats. length seats ≡ 16) c.self.view_is c.self.invariant.many
