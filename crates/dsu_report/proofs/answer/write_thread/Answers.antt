use Rattle.std.proofs.Common.{codes, List, ℕ, subst, ◌∙◌}
use Rattle.dsu_io.specs.Sinks.{PutAppends}
use Rattle.dsu_report.proofs.Parts.{three}
use Rattle.dsu_report.proofs.answer.write_thread.Goals as goal

pub returns-clause-bytes : goal.returns-clause-bytes
returns-clause-bytes g c =
    subst {A = List ℕ} (PutAppends (g.S.Sink.told c.args.sink.now) (g.S.Sink.told c.put_all.new.sink) c.put_all.result)
    (three (codes "refused: thread ") (codes " ") (c.as_bytes.ensures.value ∙ c.format.ensures.text)) c.put_all.ensures.bytes
