use Rattle.std.proofs.Common.{◌∙◌, ap}
use Rattle.c_definitions.specs.Index.{key_of, stands_before}
use Rattle.c_definitions.proofs.Index.{found_before}
use Rattle.c_definitions.proofs.known.Known.is_found_before.Goals as goal

pub returns : goal.returns
returns c =
    c.stands_before.ensures ∙ ap (λ o. stands_before o c.args.place) c.place_of.ensures
    ∙ found_before (λ d. key_of c.args.by d.kind) c.args.name.now c.args.self.now c.args.place
