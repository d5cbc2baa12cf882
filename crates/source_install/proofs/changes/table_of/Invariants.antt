use Rattle.std.proofs.Common.{◌≡◌, drop}
use Rattle.c_definitions.specs.Index.{with_names, table_of}
use Rattle.source_install.specs.FoundChanges.{keys}
use Rattle.source_install.proofs.changes.table_of.Given as goal

abbrev pub invariant-loop-place : goal.invariant-loop-place
invariant-loop-place l = with_names (keys l.kind (drop l.place l.changes)) l.place l.table ≡ table_of (keys l.kind l.changes)
