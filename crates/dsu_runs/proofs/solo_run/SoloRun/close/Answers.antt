use Rattle.std.proofs.Common.{refl}
use Rattle.dsu_runs.proofs.Offering.{undecided, withdrawn}
use Rattle.dsu_runs.proofs.solo_run.SoloRun.close.Goals as goal

pub returns-in-CannotHappen-clause-turned : goal.returns-in-CannotHappen-clause-turned
returns-in-CannotHappen-clause-turned g c = λ setup x at going opened.
    let e = g.E.Engine in
    let old = c.args.self.now in
    let first = c.make.ensures in
    let next = c.make-in-CannotHappen.ensures in
    let still =
    undecided (e.is_at setup) e.told setup x old c.make.new.self c.args.k c.make.result c.in-CannotHappen.is
    (first.made setup x at, first.history, first.moves) (λ is. first.stays is refl setup x at) in
    withdrawn (e.is_at setup) e.told setup x old c.make.new.self c.make-in-CannotHappen.new.self c.args.k c.make-in-CannotHappen.result
    c.requires.unknown still going opened (next.made setup x still.there, next.history, next.moves)
