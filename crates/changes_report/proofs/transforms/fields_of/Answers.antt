use Rattle.std.proofs.Common.{◌∙◌, ap}
use Rattle.c_semantics.specs.Texts.{members_of}
use Rattle.changes_report.proofs.transforms.fields_of.Goals as goal

pub returns : goal.returns
returns c = c.fields_in.ensures ∙ ap members_of c.definition.ensures
