use Rattle.source_model.specs.Runs.{Install}
use Rattle.run_machine.proofs.Stepping.{came_ok}
use Rattle.run_machine.proofs.source.SourceRunMachine.install.Goals as goal

pub returns-clause-made : goal.returns-clause-made
returns-clause-made c = λ texts limits moves run needs names are.
    came_ok texts limits moves (Install c.args.number) c.install.new.self c.install.result (c.install.ensures.made texts limits moves run names are)
