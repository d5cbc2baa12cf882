use Rattle.std.proofs.Common.{◌≡◌, ◌++◌, drop}
use Rattle.effect_flow.specs.Parts.{points_from}
use Rattle.effect_flow.proofs.adding.points_of.Given as goal

abbrev pub invariant-loop-number : goal.invariant-loop-number
invariant-loop-number l =
    l.made.items ++ points_from l.function l.generation l.number (drop l.number l.points)
    ≡ points_from l.function l.generation 0 l.points
