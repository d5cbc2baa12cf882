use Rattle.std.proofs.Common.{◌-◌, length, arith}
use Rattle.std.proofs.lemmas.List.Elements.{All-push}
use Rattle.std.proofs.lemmas.Result.{err_from_is_err_and}
use Rattle.resolved_tree.specs.Trees.{table}
use Rattle.skeleton_gen.specs.Drawn.{spot_of}
use Rattle.skeleton_gen.specs.Naming.{IsKnown}
use Rattle.skeleton_gen.proofs.NamedSpots.{named_more, has_unknown, unknown_name}
use Rattle.skeleton_gen.proofs.naming.named.Goals as goal

pub returns-in_err-kind-clause-unknown : goal.returns-in_err-kind-clause-unknown
returns-in_err-kind-clause-unknown c =
    let p = err_from_is_err_and c.from_residual-in_err-kind.result c.from_residual-in_err-kind.ensures.1 in
    rw (p.1, p.2)
    (unknown_name c.args.names.now _ c.in_err-kind.field-0.0 c.in_err-kind.ensures
    (has_unknown c.args.names.now (spot_of (table c.args.trees.now)) c.args.spots.now (c.loop-left.left - 1) _ (omega arith)))

pub loop-left-preserved : goal.loop-left-preserved
loop-left-preserved c = record {
  within = omega arith;
  points = named_more c.args.names.now (table c.args.trees.now) _ _ c.in_ok-kind.kind c.args.spots.now c.loop-left.left _
      c.in-Ok.ensures.items c.in_ok-kind.ensures.0 c.loop-left.invariant.points (omega arith) (omega arith);
  known = rw c.in-Ok.ensures.items (All-push (λ p. IsKnown (length c.args.names.now) p.kind) _ _ c.loop-left.invariant.known c.in_ok-kind.ensures.1);
}
