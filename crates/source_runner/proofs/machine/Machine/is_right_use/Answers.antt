use Rattle.std.proofs.Common.{sym, ◌∙◌}
use Rattle.source_programs.specs.Programs.{name_of, table_of, versions_of}
use Rattle.version_laws.proofs.TableHistories.{right_by_texts}
use Rattle.source_runner.proofs.machine.Machine.is_right_use.Goals as goal

pub returns : goal.returns
returns c = λ table sound history.
    let program = c.args.self.now.program in
    c.is_right.ensures.right sound
    ∙ sym (right_by_texts (versions_of program) table history c.args.version (name_of (table_of program) c.args.name))
