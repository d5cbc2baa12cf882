use Rattle.std.proofs.Common.{◌∙◌}
use Rattle.plain_engine.specs.Plain.{state_shown}
use Rattle.plain_engine.proofs.Preparing.{preparation_in}
use Rattle.plain_engine.proofs.engine.PlainEngine.preparation_over.Goals as goal

pub returns-in-Ok : goal.returns-in-Ok
returns-in-Ok g c = λ texts setup x at.
    let s = state_shown g.M.Machine.shown c.args.self.now.state in
    preparation_in setup x s c.in-Ok.preparation at.state c.in-Ok.ensures.is (c.in-Ok.ensures.texts ∙ texts)
