use Rattle.std.proofs.Common.{◌≡◌, ◌*◌, ◌^◌, ◌≤◌, length, take}
use Rattle.std.specs.Prelude.{count_by}
use Rattle.std.specs.List.{flat_map}
use Rattle.std.specs.Option.{is_none}
use Rattle.admits_report.specs.Shown.{ids_of}
use Rattle.admits_report.proofs.counts.counts_of.Given as goal

-- those of the functions so far
abbrev pub invariant-loop-function : goal.invariant-loop-function
invariant-loop-function l =
    (l.counts.admitted ≡ count_by is_none (flat_map ids_of (take l.function-index l.functions)))
    × (l.counts.all ≡ length (flat_map ids_of (take l.function-index l.functions)))
    × (l.counts.admitted ≤ l.function-index * 2 ^ 64)
    × (l.counts.all ≤ l.function-index * 2 ^ 64)
