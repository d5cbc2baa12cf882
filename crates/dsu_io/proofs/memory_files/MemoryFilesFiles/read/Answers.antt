use Rattle.std.proofs.Common.{rules}
use Rattle.dsu_io.specs.declared.memory_files.MemoryFiles.TheView.{view}
use Rattle.dsu_io.proofs.Reading.{no_failure}
use Rattle.dsu_io.proofs.memory_files.MemoryFilesFiles.read.Goals as goal

pub returns-clause-fails : goal.returns-clause-fails
returns-clause-fails c =
    rw (← c.self.view_is)
    (λ fails. absurd (no_failure (view c.self.inside) c.args.name.now c.in-Some.content.now (search rules) (search rules) fails))
