-- What contracts see of shapes, of tables of them, and of bodies.
use Rattle.std.specs.Prelude.{ℕ, suc, ◌+◌, ◌-◌, List, [], ◌∷◌, map, reverse, slice_get, Option, option_map, Vec}
use Rattle.std.specs.Option.{option_flatten}
use Rattle.resolved_tree.specs.Nodes.{Table}
use Rattle.resolved_tree.specs.Trees.{table}
use Rattle.name_resolution.specs.Known.{known_of}
use Rattle.c_semantics.specs.Texts.{Definitions}
use Rattle.skeletons.specs.Meaning.{check_in_of}
use Rattle.bytecode.specs.Seen.{code_of}
use Rattle.code_kinds.specs.declared.kind.WordKind.{WordKind}
use Rattle.code_kinds.specs.StopKinds.{Words}
use Rattle.code_kinds.specs.Shapes.{Due, Shape}
use Rattle.code_kinds.specs.WellFormed.{FunctionCode, Shapes}
use Rattle.code_verify.specs.declared.shape.Due.{Due as DueNode}
use Rattle.code_verify.specs.declared.shape.Shape.{Shape as ShapeNode}
use Rattle.code_verify.specs.declared.source.Source.{Source}
use Rattle.code_verify.specs.declared.source.Body.{Body}

-- the words on a stack; the newest is the last that is kept
abbrev pub stack_of : List WordKind → Words
stack_of words = reverse words

-- a check-in that comes next, a shape
abbrev pub due_of : DueNode → Due
due_of d = record { kind = check_in_of d.kind; number = d.number }

abbrev pub shape_of : ShapeNode → Shape
shape_of s = record {
  stack = stack_of s.stack.items;
  variables = s.variables.items;
  transactions = s.transactions;
  due = option_map due_of s.due;
}

-- the shapes of places
abbrev pub shapes_of : List (Option ShapeNode) → Shapes
shapes_of known q = option_map shape_of (option_flatten (slice_get known q))

-- how many variables places keep where loops begin
abbrev pub keeps_of : List (Option ℕ) → ℕ → Option ℕ
keeps_of keeps q = option_flatten (slice_get keeps q)

-- the words and trees of a text, and its definitions by name
abbrev pub trees_of : Source → Table
trees_of s = table s.trees.now

abbrev pub look_of : Source → Definitions
look_of s = known_of s.known.now

-- a body under the definitions of its text
abbrev pub function_code : Source → Body → FunctionCode
function_code s b = record {
  look = look_of s;
  parameters = b.parameters.items;
  result = b.result;
  room = b.room;
  code = code_of (trees_of s) b.code.items;
}

-- fewer than two words
abbrev pub IsShort : Words → Type 0
IsShort [] = Unit {0}
IsShort (a ∷ []) = Unit {0}
IsShort (b ∷ a ∷ under) = ⊥
