use Rattle.std.proofs.Common.{◌≡◌, map, drop}
use Rattle.c_expr_types.specs.Faults.{first, sooner}
use Rattle.c_types.specs.Statements.{in_order, walk}
use Rattle.c_types.specs.Views.{around_seen}
use Rattle.c_types.proofs.walk.+walk.Given as goal

abbrev pub invariant-statements-loop-stmt : goal.invariant-statements-loop-stmt
invariant-statements-loop-stmt l = record {
  faults :
      sooner l.fault (first (in_order (map walk (drop l.stmt-index l.body)) (around_seen l.around l.scopes)).faults)
      ≡ first (in_order (map walk l.body) (around_seen l.around l.initial.scopes)).faults;
  scopes :
      (in_order (map walk (drop l.stmt-index l.body)) (around_seen l.around l.scopes)).scopes
      ≡ (in_order (map walk l.body) (around_seen l.around l.initial.scopes)).scopes;
}
