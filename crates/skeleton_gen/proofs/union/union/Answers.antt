use Rattle.std.proofs.Common.{◌∙◌, arith}
use Rattle.skeleton_gen.proofs.Unions.{union_from_last}
use Rattle.skeleton_gen.proofs.union.union.Goals as goal

pub loop-left-preserved : goal.loop-left-preserved
loop-left-preserved c = record {
  within = omega arith;
  rest = union_from_last _ _ _ c.loop-left.left (omega arith) (omega arith) c.in_ok-put.ensures ∙ c.loop-left.invariant.rest;
}
