use Rattle.std.proofs.Common.{◌∙◌, sym}
use Rattle.plain_engine.proofs.engine.PlainEngine.version.Goals as goal

pub returns : goal.returns
returns g c = λ setup x at. c.count.ensures ∙ sym at.state.versions.installed.count_is
