use Rattle.std.proofs.Common.{◌∙◌, ap}
use Rattle.std.specs.Prelude.{option_map}
use Rattle.c_semantics.specs.SourceTexts.{text_of}
use Rattle.plain_engine.proofs.Querying.{text_at}
use Rattle.plain_engine.proofs.engine.PlainEngine.text.Goals as goal

pub returns : goal.returns
returns g c = λ setup x at.
    ap (option_map text_of) c.text.ensures ∙ text_at setup x (g.M.Machine.shown c.args.self.now.state.run) c.args.number at.state.run
