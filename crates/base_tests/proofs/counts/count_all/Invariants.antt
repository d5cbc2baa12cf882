use Rattle.std.proofs.Common.{◌≡◌}
use Rattle.pass_lock.specs.Passes.{IsFreePassOf}
use Rattle.base_tests.proofs.counts.count_all.Given as goal

abbrev pub invariant-loop : goal.invariant-loop
invariant-loop g l = IsFreePassOf l.lock l.pass × (l.pass.number ≡ l.number)
