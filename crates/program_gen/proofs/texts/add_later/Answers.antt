use Rattle.std.proofs.Common.{rules, append_assoc}
use Rattle.program_gen.proofs.texts.add_later.Goals as goal

pub returns : goal.returns
returns c = search (rules, append_assoc)
