use Rattle.code_image.specs.Images.{names_in}
use Rattle.code_machine.specs.Seen.{code_world}
use Rattle.code_machine.specs.Versions.{texts_of}
use Rattle.code_machine.proofs.AskedWaits.{none_waits}
use Rattle.code_machine.proofs.machine.CodeMachine.waits.Goals as goal

pub returns-in-None : goal.returns-in-None
returns-in-None c = λ settled all is.
    none_waits (texts_of all c.args.self.now.run) (names_in all) (code_world c.args.self.now) c.args.slot (c.in-None.ensures settled all is)
