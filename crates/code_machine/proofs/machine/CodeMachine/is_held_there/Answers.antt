use Rattle.std.proofs.Common.{◌∙◌}
use Rattle.std.specs.Prelude.{option_map}
use Rattle.code_machine.specs.Queries.{waiting_of}
use Rattle.code_machine.specs.Seen.{words_of}
use Rattle.code_machine.proofs.AskedWaits.{still_some}
use Rattle.code_machine.proofs.machine.CodeMachine.is_held_there.Goals as goal

pub returns : goal.returns
returns c = λ settled all is.
    let names = waiting_of (words_of c.args.self.now.image.value) in
    (option_map names c.waits.result, c.waits.ensures settled all is, c.is_some.ensures ∙ still_some names c.waits.result)
