-- What an expression was found to be while trees are added to a table: a value or a place, with its type.
use Rattle.std.specs.Prelude.{◌≡◌, IsTrue, List, [], ◌∷◌, ◌++◌, length, map, Option, Some, None}
use Rattle.c_tree.specs.BareExpr.{Bytes}
use Rattle.c_tree.specs.BareDef.{BareBinding}
use Rattle.c_semantics.specs.Resolved.{Expression, Expressions, Statement, Statements, Convert, NoExpressions, ExpressionThen, StatementThen}
use Rattle.c_semantics.specs.Resolution.{Resolved, value, located}
use Rattle.resolved_tree.specs.declared.node.NodeId.{NodeId}
use Rattle.name_resolution.specs.declared.found.Found.{Found}
use Rattle.name_resolution.specs.declared.found.Found.TheVariants.{Value, Located}
use Rattle.resolved_tree.specs.Nodes.{Tree, Table, expression_at, place_of, type_of}
use Rattle.resolved_tree.specs.Parts.{Named, a_node, both, in_place, in_type, below}

-- a table that has grown: its words and its trees begin with those that were there
pub record Grows (t u : Table) : Type 0 where
  pub words : (more : List Bytes) × (u.words ≡ t.words ++ more)
  pub trees : (more : List Tree) × (u.trees ≡ t.trees ++ more)

-- each word and each node that is named is there
pub record IsIn (t : Table) (n : Named) : Type 0 where
  pub words : IsTrue (below (length t.words) n.words)
  pub nodes : IsTrue (below (length t.trees) n.nodes)

-- an expression that was resolved
abbrev pub found : Table → Found → Resolved
found t (Value id type) = value (expression_at t id) (type_of t type)
found t (Located p type) = located (place_of t p) (type_of t type)

-- what it names
abbrev pub in_found : Found → Named
in_found (Value id type) = both (a_node id) (in_type type)
in_found (Located p type) = both (in_place p) (in_type type)

-- an argument as its parameter takes it
abbrev pub given : Option BareBinding → Expression → Expression
given None e = e
given (Some p) e = Convert p.declared e

-- arguments in order
abbrev pub listed : List Expression → Expressions
listed [] = NoExpressions
listed (e ∷ es) = ExpressionThen e (listed es)

-- each of some nodes
abbrev pub each_node : List NodeId → Named
each_node ids = record { words = []; nodes = map (λ id. id.0) ids }

-- statements in order, before others
abbrev pub before : List Statement → Statements → Statements
before [] others = others
before (s ∷ ss) others = StatementThen s (before ss others)
