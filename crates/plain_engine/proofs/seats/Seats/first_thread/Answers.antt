use Rattle.std.proofs.Common.{◌≡◌, length, subst}
use Rattle.std.specs.Prelude.{MatchOption}
use Rattle.plain_engine.specs.Kept.{HasNoThreadFrom, IsFirstThreadFrom}
use Rattle.plain_engine.proofs.Threads.{first_thread_is}
use Rattle.plain_engine.proofs.seats.Seats.first_thread.Goals as goal

pub returns-clause-first : goal.returns-clause-first
returns-clause-first c =
    subst (λ seats. MatchOption c.first_from.result (HasNoThreadFrom seats c.args.slot) (IsFirstThreadFrom seats c.args.slot)) c.self.view_is
    (first_thread_is c.self.inside.seats c.self.inside.live c.args.slot c.first_from.result c.self.invariant c.first_from.ensures)

pub returns-clause-many : goal.returns-clause-many
returns-clause-many c = subst (λ seats. length seats ≡ 16) c.self.view_is c.self.invariant.many
