use Rattle.c_tree.specs.Bare.{bare_binding}
use Rattle.expr_gen.specs.Scope.{binding_of}
use Rattle.name_resolution.proofs.Kept.{grows_refl, grows_trans, mapped_once}
use Rattle.text_code.proofs.outline.in_order.Goals as goal

pub loop-one-preserved : goal.loop-one-preserved
loop-one-preserved c = record {
  grows = grows_trans _ _ _ c.loop-one.invariant.grows c.variable.ensures.grows;
  made = λ u g.
      mapped_once (binding_of u) bare_binding c.loop-one.variables.items c.push.new.self.items c.in_ok-variable.variable c.args.declared.now c.loop-one.one-index c.one-item.result
      c.in_ok-push.ensures.items c.loop-one-test.true c.one-item.is (c.loop-one.invariant.made u (grows_trans _ _ u c.variable.ensures.grows g))
      (c.in_ok-variable.ensures.variable u g);
}

pub returns-in_err-variables-clause-grows : goal.returns-in_err-variables-clause-grows
returns-in_err-variables-clause-grows c = grows_refl _

pub returns-in_err-variable-clause-grows : goal.returns-in_err-variable-clause-grows
returns-in_err-variable-clause-grows c = grows_trans _ _ _ c.loop-one.invariant.grows c.in_err-variable.ensures.grows

pub returns-in_err-push-clause-grows : goal.returns-in_err-push-clause-grows
returns-in_err-push-clause-grows c = grows_trans _ _ _ c.loop-one.invariant.grows c.in_ok-variable.ensures.grows

pub returns-clause-grows : goal.returns-clause-grows
returns-clause-grows c = c.loop-one.invariant.grows
