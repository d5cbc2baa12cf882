use Rattle.std.proofs.Common.{◌≡◌, take}
use Rattle.c_definitions.specs.Index.{member_tables}
use Rattle.c_definitions.proofs.known.member_tables.Given as goal

abbrev pub invariant-loop-definition : goal.invariant-loop-definition
invariant-loop-definition l = l.tables.items ≡ member_tables (take l.definition-index l.definitions)
