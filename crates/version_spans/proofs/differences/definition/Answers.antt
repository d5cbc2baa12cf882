use Rattle.std.proofs.Common.{◌∙◌, ap, map, option_map}
use Rattle.c_tree.specs.Bare.{bare_def}
use Rattle.patch_compare.proofs.Found.{with_copied, declared_is, named_found}
use Rattle.version_spans.proofs.differences.definition.Goals as goal

pub returns-clause-found : goal.returns-clause-found
returns-clause-found c =
    with_copied bare_def c.declared.result ∙ ap (option_map bare_def) c.declared.ensures
    ∙ declared_is c.args.known.now c.args.name.now

pub returns-clause-named : goal.returns-clause-named
returns-clause-named c =
    named_found (map bare_def c.args.known.now) c.args.name.now c.declared.result (returns-clause-found c)
