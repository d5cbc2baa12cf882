use Rattle.std.proofs.Common.{◌&&◌, ◌∙◌, ap, not, sym}
use Rattle.source_model.specs.Guards.{can_open}
use Rattle.plain_engine.proofs.events.PlainEngineEngine.may_offer.Goals as goal

pub returns-then-has_ended : goal.returns-then-has_ended
returns-then-has_ended g c = λ setup x at.
    ap (λ b. not b && can_open setup x c.args.k) (sym c.if-has_ended.true ∙ c.has_ended.ensures setup x at.state.run)

pub returns : goal.returns
returns g c = λ setup x at.
    c.may_offer.ensures.value setup x c.args.self.now.state.installed.names at.state.book at.written
    ∙ ap (λ b. not b && can_open setup x c.args.k) (sym c.if-has_ended.false ∙ c.has_ended.ensures setup x at.state.run)
