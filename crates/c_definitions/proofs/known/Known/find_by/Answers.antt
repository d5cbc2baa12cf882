use Rattle.std.proofs.Common.{◌∙◌, ap, option_and_then, slice_get}
use Rattle.c_definitions.specs.Index.{key_of}
use Rattle.c_definitions.proofs.Index.{found}
use Rattle.c_definitions.proofs.known.Known.find_by.Goals as goal

pub returns : goal.returns
returns c =
    c.at.ensures ∙ ap (option_and_then (slice_get c.args.self.now)) c.place_of.ensures
    ∙ found (λ d. key_of c.args.by d.kind) c.args.name.now c.args.self.now
