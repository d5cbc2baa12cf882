use Rattle.std.proofs.Common.{◌≡◌, ◌++◌, map}
use Rattle.std.specs.Prelude.{drop}
use Rattle.std.specs.List.{filter_map}
use Rattle.dsu_cli.specs.Words.{offer_of}
use Rattle.dsu_cli.proofs.read.offers_of.Given as goal

-- the offers so far and those of the values that are left are the offers of all
abbrev pub invariant-loop-value : goal.invariant-loop-value
invariant-loop-value l = l.offers.items ++ filter_map offer_of (drop l.value-index (map (λ value. value.now) l.values)) ≡ filter_map offer_of (map (λ value. value.now) l.values)
