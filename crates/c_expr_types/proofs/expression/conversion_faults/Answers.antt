use Rattle.std.proofs.Common.{ap, sym, ◌∙◌, arith}
use Rattle.c_expr_types.specs.Faults.{first, sooner}
use Rattle.c_expr_types.specs.Found.{converts, required}
use Rattle.c_expr_types.proofs.Firsts.{conversion_faults_step}
use Rattle.c_expr_types.proofs.expression.conversion_faults.Goals as goal

pub loop-i-preserved : goal.loop-i-preserved
loop-i-preserved c =
    let x = c.index-arguments-i.result in
    conversion_faults_step c.args.parameters.now c.args.arguments.now c.loop-i.i c.index-parameters-i.result x c.loop-i.fault c.sooner-fault.result
    (omega (arith, c.loop-i-test.true, c.requires)) c.loop-i-test.true c.index-parameters-i.is c.index-arguments-i.is
    (c.sooner-fault.ensures
    ∙ ap (sooner c.loop-i.fault)
    (c.required.ensures
    ∙ ap (λ holds. first (required holds x)) c.converts-fits.ensures
    ∙ ap (λ b. first (required (converts b.declared x.found) x)) (sym c.index-parameters-i.is)))
    ∙ c.loop-i.invariant
