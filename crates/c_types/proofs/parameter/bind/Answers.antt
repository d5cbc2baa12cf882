use Rattle.std.proofs.Common.{ap, ◌∙◌}
use Rattle.c_expr_types.specs.Faults.{first, sooner}
use Rattle.c_types.specs.Definitions.{with_parameters}
use Rattle.c_types.proofs.Bindings.{along_bound, along_parameters, bound_by, bound_behind_none}
use Rattle.c_types.proofs.parameter.bind.Goals as goal

pub loop-binding-init : goal.loop-binding-init
loop-binding-init c = record {
  faults = ap (λ s. first (bound_by c.args.known.now s c.args.list.now)) c.requires ∙ ap first (bound_behind_none c.args.known.now c.args.list.now);
  scopes = ap (with_parameters c.args.list.now) c.requires;
}

pub loop-binding-preserved : goal.loop-binding-preserved
loop-binding-preserved c =
    let b = c.binding-item.result in
    let made = c.in_ok-bind_one.ensures.scopes in
    record {
      faults =
          along_bound c.args.known.now c.args.list.now c.loop-binding.binding-index b c.loop-binding.scopes c.bind_one.new.scopes
          c.loop-binding.fault c.sooner-fault.result c.loop-binding-test.true c.binding-item.is made
          (c.sooner-fault.ensures ∙ ap (sooner c.loop-binding.fault) c.in_ok-bind_one.ensures.fault)
          ∙ c.loop-binding.invariant.faults;
      scopes =
          along_parameters c.args.list.now c.loop-binding.binding-index b c.loop-binding.scopes c.bind_one.new.scopes
          c.loop-binding-test.true c.binding-item.is made
          ∙ c.loop-binding.invariant.scopes;
    }
