use Rattle.std.proofs.Common.{◌≡◌, ◌++◌, drop}
use Rattle.effect_flow.specs.Parts.{ways_from}
use Rattle.effect_flow.proofs.adding.ways_of.Given as goal

abbrev pub invariant-loop-number : goal.invariant-loop-number
invariant-loop-number l =
    l.ways.items ++ ways_from l.before l.size l.number (drop l.number l.next) ≡ ways_from l.before l.size 0 l.next
