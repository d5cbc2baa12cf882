use Rattle.std.proofs.Common.{◌≡◌, drop}
use Rattle.c_definitions.specs.Index.{with_names, keys, table_of}
use Rattle.c_definitions.proofs.known.table_of.Given as goal

abbrev pub invariant-loop-place : goal.invariant-loop-place
invariant-loop-place l = with_names (keys l.by (drop l.place l.definitions)) l.place l.table ≡ table_of (keys l.by l.definitions)
