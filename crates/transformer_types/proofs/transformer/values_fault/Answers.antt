use Rattle.std.proofs.Common.{ap, ◌∙◌}
use Rattle.transformer_types.specs.Alone.{field_faults_alone, sooner}
use Rattle.transformer_types.proofs.FirstFaults.{faults_step}
use Rattle.transformer_types.proofs.transformer.values_fault.Goals as goal

pub loop-given-preserved : goal.loop-given-preserved
loop-given-preserved c =
    faults_step (field_faults_alone c.args.old.now c.args.new.now) c.args.values.now c.loop-given.given-index c.given-item.result
    c.loop-given.fault c.sooner-fault.result c.loop-given-test.true c.given-item.is
    (c.sooner-fault.ensures ∙ ap (sooner c.loop-given.fault) c.field_fault.ensures)
    ∙ c.loop-given.invariant
