use Rattle.std.proofs.Common.{◌≡◌, map, take, string_bytes}
use Rattle.effects_report.proofs.table.table_of.Given as goal

-- the texts so far, in their order
abbrev pub invariant-loop-text : goal.invariant-loop-text
invariant-loop-text l = l.names ≡ map string_bytes (take l.text-index l.texts)
