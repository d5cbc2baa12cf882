use Rattle.std.proofs.Common.{List, ℕ, subst}
use Rattle.dsu_io.specs.Sinks.{PutAppends}
use Rattle.journal_versions.proofs.print.put_first.Goals as goal

pub returns-clause-bytes : goal.returns-clause-bytes
returns-clause-bytes g c =
    subst {A = List ℕ} (λ bytes. PutAppends (g.S.Sink.told c.args.sink.now) (g.S.Sink.told c.put.new.sink) c.put.result bytes)
    c.write_first-len.ensures.line c.put.ensures.bytes
