use Rattle.std.proofs.Common.{◌∙◌, ap, option_copied, option_and_then, slice_get}
use Rattle.c_definitions.specs.Index.{earlier}
use Rattle.c_definitions.proofs.Index.{declared_found}
use Rattle.c_definitions.proofs.known.Known.declared.Goals as goal

pub returns : goal.returns
returns c =
    c.at.ensures
    ∙ ap (option_and_then (slice_get c.args.self.now))
    (c.earlier.ensures ∙ ap (λ o. earlier o c.place_of_struct-tagged.result) c.place_of.ensures
    ∙ ap (earlier _) c.place_of_struct-tagged.ensures)
    ∙ declared_found c.args.name.now (option_copied c.tag_in.result) c.tag_in.ensures c.args.self.now
