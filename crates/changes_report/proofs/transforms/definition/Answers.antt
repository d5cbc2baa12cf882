use Rattle.std.proofs.Common.{◌∙◌, ap, option_map}
use Rattle.c_tree.specs.Bare.{bare_def}
use Rattle.changes_report.proofs.Declared.{declared_is}
use Rattle.changes_report.proofs.transforms.definition.Goals as goal

pub returns : goal.returns
returns c = ap (option_map bare_def) c.declared.ensures ∙ declared_is c.args.known.now c.args.name.now
