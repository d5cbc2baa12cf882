use Rattle.std.proofs.Common.{map, arith}
use Rattle.local_evaluation.specs.Values.{seen}
use Rattle.source_programs.proofs.Entering.{bound_none, bound_more}
use Rattle.source_programs.proofs.frame.bind.Goals as goal

pub loop-left-init : goal.loop-left-init
loop-left-init c = record {
  within = omega arith;
  scopes = λ t. bound_none t c.args.scopes.now.items c.push.new.self.items c.args.parameters.now (map seen c.args.arguments.now) c.in_ok-push.ensures.items;
}

pub loop-left-preserved : goal.loop-left-preserved
loop-left-preserved c = record {
  within = omega (arith, c.loop-left.invariant.within);
  scopes = λ t.
      bound_more t c.loop-left.scopes.items c.push-in-loop-left.new.self.items c.args.parameters.now (map seen c.args.arguments.now) c.loop-left.left _ c.argument_at-value.result _
      c.in_ok-push-2.ensures.items c.loop-left-test.true c.loop-left.invariant.within (c.argument_at-value.ensures t) (c.loop-left.invariant.scopes t);
}
