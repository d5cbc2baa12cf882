use Rattle.std.proofs.Common.{ap, ◌∙◌}
use Rattle.transformer_types.specs.Alone.{faults_at_alone, sooner}
use Rattle.transformer_types.proofs.FirstFaults.{faults_step}
use Rattle.transformer_types.proofs.text.definitions_fault.Goals as goal

pub loop-definition-preserved : goal.loop-definition-preserved
loop-definition-preserved c =
    faults_step (λ d. faults_at_alone c.args.old.now c.args.new.now d.place d.kind) c.args.definitions.now c.loop-definition.definition-index
    c.definition-item.result c.loop-definition.fault c.sooner-fault.result c.loop-definition-test.true c.definition-item.is
    (c.sooner-fault.ensures ∙ ap (sooner c.loop-definition.fault) c.fault_at.ensures)
    ∙ c.loop-definition.invariant
