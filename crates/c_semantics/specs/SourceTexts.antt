-- A text as a run takes it.
use Rattle.std.specs.Prelude.{ℕ, List, map, filter_map, Option, Some, None}
use Rattle.c_tree.specs.declared.def.DefKind.{DefKind}
use Rattle.c_tree.specs.declared.def.DefKind.TheVariants.{Struct, Forward, Mutex, Function, Prototype, Global, Array, TransformStruct, TransformGlobal}
use Rattle.c_tree.specs.declared.def.Program.{Program}
use Rattle.c_tree.specs.BareExpr.{Bytes}
use Rattle.c_tree.specs.BareDef.{BareDef}
use Rattle.c_tree.specs.Bare.{bare_def}

-- a function with its number of tokens
pub record Tokens : Type 0 where
  pub function : Bytes
  pub count : ℕ

-- a text: its definitions in order, the numbers of tokens of its functions, and the tree from which both come, whose
-- places tell where a fault stands
pub record Text : Type 0 where
  pub definitions : List BareDef
  pub tokens : List Tokens
  pub tree : Program

abbrev pub tokens_of_kind : DefKind → Option Tokens
tokens_of_kind (Function f) = Some (record { function = f.name.text; count = f.tokens })
tokens_of_kind (Struct name members) = None
tokens_of_kind (Forward name) = None
tokens_of_kind (Mutex name) = None
tokens_of_kind (Prototype p) = None
tokens_of_kind (Global d) = None
tokens_of_kind (Array a) = None
tokens_of_kind (TransformStruct t) = None
tokens_of_kind (TransformGlobal name e) = None

-- the text of a program's tree
abbrev pub text_of : Program → Text
text_of p = record {
  definitions = map bare_def p.definitions;
  tokens = filter_map (λ d. tokens_of_kind d.kind) p.definitions;
  tree = p;
}
