-- Names of a text. All names are texts in one space: a struct's tag comes after the word `struct`.
use Rattle.std.specs.Prelude.{◌++◌, codes}
use Rattle.c_tree.specs.BareExpr.{Bytes}

-- the name of the struct with a tag
abbrev pub struct_name : Bytes → Bytes
struct_name tag = codes "struct " ++ tag
