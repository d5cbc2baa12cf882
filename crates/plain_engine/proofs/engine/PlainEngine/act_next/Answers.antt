use Rattle.std.proofs.Common.{refl}
use Rattle.plain_engine.proofs.engine.PlainEngine.act_next.Goals as goal

pub returns-in-Some-clause-turned : goal.returns-in-Some-clause-turned
returns-in-Some-clause-turned g c = λ asks setup x at going none fits.
    c.act_from.ensures.turned asks setup x at going none fits (c.in-Some.ensures setup x at.state going fits)

pub returns-in-None-clause-turned : goal.returns-in-None-clause-turned
returns-in-None-clause-turned g c = λ asks setup x at going none fits.
    (c.in-None.ensures setup x at.state going fits, record { stays = at; silent = refl })
