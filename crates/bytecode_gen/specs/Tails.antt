-- The code from some place to the end of a function, which grows at its beginning.
use Rattle.std.specs.Prelude.{◌≡◌, ℕ, ◌-◌, ◌≤◌, List, ◌∷◌, ◌++◌, length, map, reverse, Option, Some, None}
use Rattle.c_semantics.specs.Texts.{Definitions}
use Rattle.c_semantics.specs.Resolved.{Statement, Statements, NoStatements}
use Rattle.resolved_tree.specs.declared.node.NodeId.{NodeId}
use Rattle.resolved_tree.specs.Nodes.{Table, statement_at, type_of, word}
use Rattle.name_resolution.specs.Found.{before}
use Rattle.resolved_tree.specs.Trees.{table}
use Rattle.name_resolution.specs.Known.{known_of}
use Rattle.typed_trees.specs.StatementTypes.{with_variable}
use Rattle.typed_trees.specs.ValueTypes.{Environment, in_scope}
use Rattle.bytecode.specs.declared.instr.Instr.{Instr}
use Rattle.bytecode.specs.Instructions.{Instruction, Back}
use Rattle.bytecode.specs.Seen.{code_of}
use Rattle.tree_code.specs.Code.{Code, statement, statements}
use Rattle.expr_gen.specs.declared.context.Variable.{Variable}
use Rattle.expr_gen.specs.Scope.{variables_of}
use Rattle.bytecode_gen.specs.declared.part.Source.{Source}
use Rattle.bytecode_gen.specs.declared.part.Jumps.{Jumps}

-- the code of a tail, whose last instruction is kept first
abbrev pub tail_of : Table → List Instr → Code
tail_of t tail = code_of t (reverse tail)

-- some code has been put in front of a tail
pub record Precedes (t : Table) (old new : List Instr) (added : Code) : Type 0 where
  pub code : tail_of t new ≡ added ++ tail_of t old

-- the words and trees, and the definitions by name
abbrev pub trees_of : Source → Table
trees_of s = table s.trees.now

abbrev pub look_of : Source → Definitions
look_of s = known_of s.known.now

-- the variables that are declared are those in scope, the newest last
pub record InScope (t : Table) (env : Environment) (variables : List Variable) : Type 0 where
  pub same : in_scope env ≡ variables_of t variables

-- code that depends on what is declared has been put in front of a tail
pub record Emits (t : Table) (variables : List Variable) (old new : List Instr) (added : Environment → Code) : Type 0 where
  pub code : (env : Environment) → InScope t env variables → Precedes t old new (added env)

-- and the variables in scope are as they were
pub record Walks (t : Table) (before after : List Variable) (old new : List Instr) (added : Environment → Code) : Type 0 where
  pub emits : Emits t before old new added
  pub keeps : variables_of t after ≡ variables_of t before

-- the back edge with a point, after which a tail had so much code, leads to the beginning of the tail, where so many variables
-- are in scope
pub record LeadsBack (t : Table) (old new : List Instr) (after point variables : ℕ) : Type 0 where
  pub code : (inside rest : Code) (i : Instruction) → tail_of t old ≡ inside ++ i ∷ rest → length rest ≡ after
      → tail_of t new ≡ inside ++ Back (length inside) point variables ∷ rest

-- the targets of jumps are in the tail
pub record AreInside (jumps : Jumps) (tail : List Instr) : Type 0 where
  pub broken : jumps.broken ≤ length tail
  pub continued : jumps.continued ≤ length tail

-- the code of a statement, and of several, in front of a tail
abbrev pub statement_code : Definitions → Statement → ℕ → Jumps → List Instr → Environment → Code
statement_code look s n jumps tail env = statement look env s n (length tail - jumps.broken) (length tail - jumps.continued)

abbrev pub statements_code : Definitions → Statements → ℕ → Jumps → List Instr → Environment → Code
statements_code look ss n jumps tail env = statements look env ss n (length tail - jumps.broken) (length tail - jumps.continued)

-- the statements with some numbers, one after the other
abbrev pub in_a_row : Table → List NodeId → Statements
in_a_row t ids = before (map (statement_at t) ids) NoStatements

-- a variable is declared, if there is one
abbrev pub with_variable_if : Table → Option Variable → Environment → Environment
with_variable_if t None env = env
with_variable_if t (Some v) env = with_variable (type_of t v.declared) (word t v.name) env
