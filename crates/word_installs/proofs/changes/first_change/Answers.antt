use Rattle.std.proofs.Common.{ap, ◌∙◌, slice_get}
use Rattle.std.specs.Prelude.{option_and_then}
use Rattle.c_definitions.proofs.Index.{found}
use Rattle.source_install.specs.declared.changes.Data.TheVariants.{Global}
use Rattle.source_install.specs.FoundChanges.{key_of}
use Rattle.word_installs.proofs.changes.first_change.Goals as goal

pub returns : goal.returns
returns c =
    c.at.ensures ∙ ap (option_and_then (slice_get c.args.changes.now)) c.place_of.ensures
    ∙ found (key_of Global) c.args.name.now c.args.changes.now
