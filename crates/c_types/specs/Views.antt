-- What the code keeps apart, as the definitions see it.
use Rattle.std.specs.Prelude.{List, take}
use Rattle.c_tree.specs.declared.def.Def.{Def}
use Rattle.c_types.specs.declared.context.Context.{Context}
use Rattle.c_types.specs.declared.statement.Around.{Around as KeptAround}
use Rattle.c_definitions.specs.Lookup.{Scopes}
use Rattle.c_types.specs.Statements.{Around}

-- what surrounds a statement, with the scopes, which the code keeps apart
abbrev pub around_seen : KeptAround → Scopes → Around
around_seen around scopes = record {
  text = around.text.now;
  result = around.result.now;
  loop = around.loops;
  in_transaction = around.in_transaction;
  scopes = scopes;
}

-- the definitions before a definition
abbrev pub before_seen : Context → List Def
before_seen at = take at.index at.known.now
