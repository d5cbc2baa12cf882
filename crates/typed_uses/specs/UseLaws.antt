-- A text that types defines each name that its functions use.
use Rattle.std.specs.Prelude.{◌≡◌, IsTrue, List, map, None, is_some, Contains}
use Rattle.c_tree.specs.BareExpr.{Bytes}
use Rattle.c_tree.specs.Bare.{bare_def}
use Rattle.c_tree.specs.declared.def.Def.{Def}
use Rattle.c_tree.specs.declared.def.Program.{Program}
use Rattle.c_definitions.specs.Lookup.{defined, members_of}
use Rattle.c_types.specs.Definitions.{Types}
use Rattle.c_front.specs.Accepted.{Accepted, IsReadAs}
use Rattle.c_semantics.specs.Names.{struct_name}
use Rattle.c_semantics.specs.Texts.{definition, names}
use Rattle.c_semantics.specs.Skeletons.{skeleton_of, direct_uses}

-- each name that a function of the program uses at its points is one that the program defines
abbrev pub DefinesItsUses : Program → Type 0
DefinesItsUses program =
    (name used : Bytes)
    → let text = map bare_def program.definitions in
    Contains (direct_uses (skeleton_of (definition text) (definition text name))) used → Contains (names text) used

-- no function, global, array or mutex has the name of a struct that is defined: `struct `, then the tag
abbrev pub NamesApart : List Def → Type 0
NamesApart text = (tag : Bytes) → IsTrue (is_some (members_of text tag)) → defined text (struct_name tag) ≡ None

-- where these names are apart, a program that types defines its uses
abbrev pub EachUseIsDefined : Type 0
EachUseIsDefined = (program : Program) → Types program → NamesApart program.definitions → DefinesItsUses program

-- they are apart in a text that is read from bytes: no identifier has a space
abbrev pub NamesOfTextsAreApart : Type 0
NamesOfTextsAreApart = (bytes : Bytes) (program : Program) → IsReadAs bytes program → NamesApart program.definitions

-- so a text that is accepted defines its uses
abbrev pub AcceptedTextsDefineTheirUses : Type 0
AcceptedTextsDefineTheirUses = (bytes : Bytes) (program : Program) → Accepted bytes program → DefinesItsUses program
