use Rattle.std.proofs.Common.{ap, ◌∙◌, slice_get}
use Rattle.std.specs.Prelude.{option_and_then}
use Rattle.c_definitions.proofs.Index.{found}
use Rattle.type_transformers.specs.Newer.{target_name}
use Rattle.type_transformers.proofs.newer.Newer.transformer.Goals as goal

pub returns : goal.returns
returns c =
    c.at.ensures ∙ ap (option_and_then (slice_get c.args.self.now)) c.place_of.ensures
    ∙ found (λ d. target_name c.args.target d.kind) c.args.name.now c.args.self.now
