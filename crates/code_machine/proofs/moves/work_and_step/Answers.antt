use Rattle.code_machine.proofs.Working.{stepped}
use Rattle.code_machine.proofs.moves.work_and_step.Goals as goal

pub returns : goal.returns
returns c =
    stepped c.args.image.now c.args.slot c.args.run.now c.run_on.new.self c.step.new.run c.step.result c.run_on.ensures.same c.run_on.ensures.leaves
    c.step.ensures.keeps c.step.ensures.stays c.step.ensures.came c.step.ensures.led c.step.ensures.long c.step.ensures.capacity c.step.ensures.enough
