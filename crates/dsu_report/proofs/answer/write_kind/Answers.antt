use Rattle.std.proofs.Common.{codes, List, ℕ, subst}
use Rattle.dsu_io.specs.Sinks.{PutAppends}
use Rattle.dsu_report.proofs.Parts.{two}
use Rattle.dsu_report.proofs.answer.write_kind.Goals as goal

pub returns-clause-bytes : goal.returns-clause-bytes
returns-clause-bytes g c =
    subst {A = List ℕ} (PutAppends (g.S.Sink.told c.args.sink.now) (g.S.Sink.told c.put_all.new.sink) c.put_all.result)
    (two (codes "not a patch: kind ") c.as_bytes.ensures.value) c.put_all.ensures.bytes
