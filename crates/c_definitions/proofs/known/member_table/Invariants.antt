use Rattle.std.proofs.Common.{◌≡◌, drop}
use Rattle.c_definitions.specs.Index.{with_names, member_keys, table_of}
use Rattle.c_definitions.proofs.known.member_table.Given as goal

abbrev pub invariant-loop-place : goal.invariant-loop-place
invariant-loop-place l = with_names (member_keys (drop l.place l.members)) l.place l.table ≡ table_of (member_keys l.members)
