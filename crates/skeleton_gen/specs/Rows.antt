-- Statements as a list of their numbers.
use Rattle.std.specs.Prelude.{List, map}
use Rattle.c_semantics.specs.Resolved.{Statements, NoStatements}
use Rattle.resolved_tree.specs.declared.node.NodeId.{NodeId}
use Rattle.name_resolution.specs.Found.{before}
use Rattle.resolved_tree.specs.Nodes.{Table, statement_at}

-- the statements with some numbers, one after the other
abbrev pub in_a_row : Table → List NodeId → Statements
in_a_row t ids = before (map (statement_at t) ids) NoStatements
