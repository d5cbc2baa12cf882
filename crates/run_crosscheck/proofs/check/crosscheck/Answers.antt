use Rattle.std.proofs.Common.{[], subst}
use Rattle.run_crosscheck.specs.Following.{HasFollowed}
use Rattle.run_crosscheck.proofs.check.crosscheck.Goals as goal

pub returns-in-Done-clause-answer : goal.returns-in-Done-clause-answer
returns-in-Done-clause-answer c = λ setup g j.
    c.in_ok-check-in-Done.ensures setup g.answers c.args.events.now
    (subst (HasFollowed setup g.answers c.args.events.now [] c.follow.new.self) c.in-Done.is
    (c.in_ok-follow.ensures setup g j.names j.answered (c.in_ok-source.ensures setup g c.args.events.now c.args.given.now j)))

pub returns-clause-memory : goal.returns-clause-memory
returns-clause-memory c = λ setup g j.
    absurd
    (subst (HasFollowed setup g.answers c.args.events.now [] c.follow.new.self) c.in-CannotMove.is
    (c.in_ok-follow.ensures setup g j.names j.answered (c.in_ok-source.ensures setup g c.args.events.now c.args.given.now j)))
