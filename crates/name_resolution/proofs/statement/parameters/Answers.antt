use Rattle.std.proofs.Common.{ap}
use Rattle.c_tree.specs.BareExpr.{Bytes}
use Rattle.c_tree.specs.BareDef.{BareBinding}
use Rattle.c_tree.specs.Bare.{bare_type, bare_binding}
use Rattle.name_resolution.specs.Known.{binding_of}
use Rattle.name_resolution.proofs.Kept.{mapped_once}
use Rattle.name_resolution.proofs.statement.parameters.Goals as goal

pub loop-binding-preserved : goal.loop-binding-preserved
loop-binding-preserved c =
    let named : Bytes → BareBinding = λ name. record { declared = bare_type c.binding-item.result.declared; name = name } in
    mapped_once binding_of bare_binding c.loop-binding.locals.items c.push.new.self.items _ c.args.list.now c.loop-binding.binding-index c.binding-item.result
    c.in_ok-push.ensures.items c.loop-binding-test.true c.binding-item.is c.loop-binding.invariant (ap named c.as_str.ensures)
