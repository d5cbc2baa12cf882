-- What is known of a text that follows another, and of a new body.
use Rattle.std.specs.Prelude.{◌≡◌, ℕ, List, map, Option, Some, None}
use Rattle.name_sets.specs.Texts.{text_of}
use Rattle.c_tree.specs.BareExpr.{Bytes}
use Rattle.c_tree.specs.Bare.{bare_def}
use Rattle.c_tree.specs.declared.def.DefKind.{DefKind}
use Rattle.c_tree.specs.declared.def.DefKind.TheVariants.{Function}
use Rattle.c_tree.specs.declared.def.Function.{Function as FunctionTree}
use Rattle.c_semantics.specs.Changes.{changed, interface}
use Rattle.code_store.specs.declared.body.StoredBody.{StoredBody}
use Rattle.code_store.specs.Stored.{IsNamed}
use Rattle.brought_bodies.specs.declared.patch.Patch.{Patch}
use Rattle.brought_bodies.specs.Sets.{IsSetOf}

-- its sets are those of the names whose definitions and whose interfaces change
pub record HasSets (patch : Patch) : Type 0 where
  pub changed_is : IsSetOf patch.names.now patch.changed.now (changed (map bare_def patch.old.now) (map bare_def patch.new.now))
  pub interface_is : IsSetOf patch.names.now patch.interface.now (interface (map bare_def patch.old.now) (map bare_def patch.new.now))

-- a body of a function that a version brings
pub record IsBodyOf (names : List Bytes) (version : ℕ) (name : Bytes) (b : StoredBody) : Type 0 where
  pub named : IsNamed names b
  pub of_version : b.generation ≡ version
  pub of_function : text_of names b.function ≡ name

-- the function that a definition defines
abbrev pub function_of : DefKind → Option FunctionTree
function_of (Function f) = Some f
function_of _ = None

-- a body of the function that a definition defines
pub record IsBodyIn (names : List Bytes) (version : ℕ) (kind : DefKind) (b : StoredBody) : Type 0 where
  pub tree : FunctionTree
  pub defined : function_of kind ≡ Some tree
  pub body : IsBodyOf names version tree.name.text b
