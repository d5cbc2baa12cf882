-- The bodies of an accepted text.
use Rattle.std.specs.Prelude.{◌≡◌}
use Rattle.c_semantics.specs.SourceTexts.{Text}
use Rattle.resolved_tree.specs.Nodes.{word}
use Rattle.bytecode.specs.Seen.{code_of}
use Rattle.text_code.specs.declared.body.Body.{Body}
use Rattle.accepted_code.specs.AcceptedCode.{coded_in}
use Rattle.image_load.specs.Numbering.{Meaning}
use Rattle.image_load.specs.NamedStops.{AreAmong}

-- a body has the code of the function with its name, under the text's definitions, whose names have numbers
pub record IsOwnBody (whole : Text) (m : Meaning) (b : Body) : Type 0 where
  pub text : whole.definitions ≡ m.text
  pub among : AreAmong m
  pub code : code_of m.words b.code.items ≡ (coded_in whole (word m.words b.name)).code
