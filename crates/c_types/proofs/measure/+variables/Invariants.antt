use Rattle.std.proofs.Common.{◌≡◌, ◌+◌, ◌≤◌, map, drop, min}
use Rattle.c_types.specs.Statements.{total, variables}
use Rattle.c_types.proofs.measure.+variables.Given as goal

abbrev pub invariant-variables-loop-stmt : goal.invariant-variables-loop-stmt
invariant-variables-loop-stmt l = record {
  within : l.count ≤ 65;
  rest :
      min (l.count + total (map variables (drop l.stmt-index l.body))) 65 ≡ min (total (map variables l.body)) 65;
}
