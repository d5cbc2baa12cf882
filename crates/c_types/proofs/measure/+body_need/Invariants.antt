use Rattle.std.proofs.Common.{◌≡◌, ◌≤◌, drop, min, max}
use Rattle.c_expr_types.specs.Need.{body_need}
use Rattle.c_types.proofs.measure.+body_need.Given as goal

abbrev pub invariant-body_need-loop-stmt : goal.invariant-body_need-loop-stmt
invariant-body_need-loop-stmt l = record {
  within : l.most ≤ 65;
  rest : min (max l.most (body_need (drop l.stmt-index l.body))) 65 ≡ min (body_need l.body) 65;
}
