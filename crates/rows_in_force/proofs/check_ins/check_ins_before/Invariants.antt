use Rattle.std.proofs.Common.{◌≡◌, ◌≤◌, ℕ, List, map, take}
use Rattle.std.specs.Prelude.{count_by}
use Rattle.skeletons.specs.Meaning.{point_of}
use Rattle.c_semantics.specs.Skeletons.{is_check_in_kind}
use Rattle.rows_in_force.proofs.check_ins.check_ins_before.Given as goal

abbrev pub invariant-loop-point : goal.invariant-loop-point
invariant-loop-point l = record {
  number : (names : List (List ℕ)) → l.count ≡ count_by (λ p. is_check_in_kind p.kind) (map (point_of names) (take l.point-index l.point-items));
  bound : l.count ≤ l.point-index;
}
