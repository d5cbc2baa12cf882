-- What the code of an expression depends on besides its tree, as the definitions see it.
use Rattle.std.specs.Prelude.{◌≡◌, List, [], ◌∷◌, ◌++◌, map, reverse, Option, Some, None}
use Rattle.c_tree.specs.BareDef.{BareBinding}
use Rattle.c_semantics.specs.Texts.{Definitions}
use Rattle.resolved_tree.specs.Nodes.{Table, word, type_of}
use Rattle.resolved_tree.specs.Trees.{table}
use Rattle.name_resolution.specs.Known.{known_of}
use Rattle.typed_trees.specs.ValueTypes.{Environment}
use Rattle.bytecode.specs.declared.instr.Instr.{Instr}
use Rattle.bytecode.specs.Seen.{instruction_of, code_of}
use Rattle.tree_code.specs.Code.{Code}
use Rattle.expr_gen.specs.declared.context.Variable.{Variable}
use Rattle.expr_gen.specs.declared.context.Context.{Context}

-- a variable
abbrev pub binding_of : Table → Variable → BareBinding
binding_of t v = record { declared = type_of t v.declared; name = word t v.name }

-- the variables in scope, the newest first
abbrev pub variables_of : Table → List Variable → List BareBinding
variables_of t vs = reverse (map (binding_of t) vs)

-- the words and trees, the definitions by name, and the variables in one scope
abbrev pub trees_of : Context → Table
trees_of c = table c.trees.now

abbrev pub look_of : Context → Definitions
look_of c = known_of c.known.now

abbrev pub scope_of : Context → Environment
scope_of c = variables_of (trees_of c) c.variables.now ∷ []

-- some code has been added at the end
pub record Adds (t : Table) (old new : List Instr) (added : Code) : Type 0 where
  pub code : code_of t new ≡ code_of t old ++ added

-- an instruction where there is one
abbrev pub code_if : Table → Option Instr → Code
code_if t None = []
code_if t (Some i) = instruction_of t i ∷ []
