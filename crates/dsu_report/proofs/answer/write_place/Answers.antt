use Rattle.std.proofs.Common.{codes, List, ℕ, ap, subst, ◌∙◌}
use Rattle.std.specs.Fmt.{decimal}
use Rattle.dsu_io.specs.Sinks.{PutAppends}
use Rattle.dsu_report.proofs.Parts.{four}
use Rattle.dsu_report.proofs.answer.write_place.Goals as goal

pub returns-clause-bytes : goal.returns-clause-bytes
returns-clause-bytes g c =
    let place = c.line_and_column-line in
    subst {A = List ℕ} (PutAppends (g.S.Sink.told c.args.sink.now) (g.S.Sink.told c.put_all.new.sink) c.put_all.result)
    (four (codes "not a patch: transform ") (codes ":")
    (c.as_bytes-line.ensures.value ∙ c.format.ensures.text ∙ ap decimal place.ensures.line)
    (c.as_bytes-column.ensures.value ∙ c.format-2.ensures.text ∙ ap decimal place.ensures.column))
    c.put_all.ensures.bytes
