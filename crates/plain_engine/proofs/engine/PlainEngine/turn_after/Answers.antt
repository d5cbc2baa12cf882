use Rattle.std.proofs.Common.{◌∙◌, refl, sym}
use Rattle.plain_engine.proofs.engine.PlainEngine.turn_after.Goals as goal

pub returns-else-has_ended-clause-turned : goal.returns-else-has_ended-clause-turned
returns-else-has_ended-clause-turned g c = λ setup x at.
    (refl, sym (c.has_ended.ensures setup x at.state.run) ∙ c.if-has_ended.false, sym at.printed ∙ c.if-self-printed.false)
