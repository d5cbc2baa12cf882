use Rattle.std.proofs.Common.{◌∙◌, ap, sym}
use Rattle.std.specs.Prelude.{option_copied}
use Rattle.std.proofs.lemmas.Option.{none-some}
use Rattle.plain_engine.specs.Plain.{state_shown}
use Rattle.plain_engine.proofs.Querying.{last_is}
use Rattle.plain_engine.proofs.engine.PlainEngine.versions.Goals as goal

pub returns-in-Some : goal.returns-in-Some
returns-in-Some g c = λ setup x at.
    let s = state_shown g.M.Machine.shown c.args.self.now.state in
    let are = at.state.versions in
    c.versions.ensures.versions x.versions are.before are.installed
    (last_is x s.run s.installed s.last c.in-Some.last.now are (sym (ap option_copied c.in-Some.is) ∙ c.text.ensures))

pub returns-in-None : goal.returns-in-None
returns-in-None g c = λ setup x at.
    let are = at.state.versions in
    absurd (none-some are.tree (sym (ap option_copied c.in-None.is) ∙ c.text.ensures ∙ are.numbered))
