use Rattle.std.proofs.Common.{map, ◌∙◌}
use Rattle.c_tree.specs.Bare.{bare_def}
use Rattle.patch_compare.proofs.Found.{among_found}
use Rattle.patch_compare.proofs.lookup.is_defined.Goals as goal

pub returns : goal.returns
returns c =
    c.is_some.ensures
    ∙ among_found (map bare_def c.args.known.now) c.args.name.now c.definition.result c.definition.ensures.found
