use Rattle.std.proofs.Common.{◌≤◌, arith, refl}
use Rattle.plain_engine.proofs.engine.PlainEngine.over.Goals as goal

pub returns-in-Ok-clause-start : goal.returns-in-Ok-clause-start
returns-in-Ok-clause-start g c = λ text offers objects equal trees run kept meets.
    let same = c.in-Ok.ensures.kept in
    let none : (g.M.Machine.shown c.in-Ok.state.run).kept ≤ 0 = omega (arith, same, kept) in
    record { state = c.in-Ok.ensures.start text offers objects equal trees run meets; kept = none; printed = refl; written = refl }
