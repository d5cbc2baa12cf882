-- What is known while a function is resolved: the definitions of its text, and its local variables.
use Rattle.std.specs.Prelude.{List, map, reverse}
use Rattle.c_tree.specs.declared.def.Def.{Def}
use Rattle.c_tree.specs.BareDef.{BareBinding}
use Rattle.c_tree.specs.Bare.{bare_type, bare_def}
use Rattle.c_semantics.specs.Texts.{Definitions, definition}
use Rattle.name_resolution.specs.declared.known.Local.{Local}

-- the definitions by name
abbrev pub known_of : List Def → Definitions
known_of text = definition (map bare_def text)

-- a local variable
abbrev pub binding_of : Local → BareBinding
binding_of l = record { declared = bare_type l.declared.now; name = l.name.now }

-- those in scope, the innermost first
abbrev pub locals_of : List Local → List BareBinding
locals_of locals = reverse (map binding_of locals)
