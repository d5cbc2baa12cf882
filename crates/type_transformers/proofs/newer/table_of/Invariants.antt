use Rattle.std.proofs.Common.{◌≡◌, drop}
use Rattle.c_definitions.specs.Index.{with_names, table_of}
use Rattle.type_transformers.specs.Newer.{keys}
use Rattle.type_transformers.proofs.newer.table_of.Given as goal

abbrev pub invariant-loop-place : goal.invariant-loop-place
invariant-loop-place l = with_names (keys l.target (drop l.place l.definitions)) l.place l.table ≡ table_of (keys l.target l.definitions)
