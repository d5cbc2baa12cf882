use Rattle.std.proofs.Common.{sym}
use Rattle.local_evaluation.specs.Pieces.{stop_of}
use Rattle.code_image.specs.Acts.{named}
use Rattle.code_machine.specs.Seen.{code_world, words_of}
use Rattle.code_machine.proofs.AskedWaits.{awaits_lock}
use Rattle.code_machine.proofs.machine.CodeMachine.held_for.Goals as goal

pub returns-in_default : goal.returns-in_default
returns-in_default c = λ names text stack a.
    let t = words_of c.args.self.now.image.value in
    sym (awaits_lock t names text (named t c.args.self.now.image.value.callees.items) (code_world c.args.self.now) c.args.slot (stop_of t c.args.stop) c.args.shared stack a c.in_default.not-Lock)
