use Rattle.std.proofs.Common.{◌++◌, codes, sym, subst, List, ℕ}
use Rattle.source_model.specs.declared.patch.NotPatch.{NotPatch}
use Rattle.dsu_io.specs.Sinks.{PutAppends}
use Rattle.dsu_report.specs.Answers.{cause_words}
use Rattle.dsu_report.proofs.answer.write_cause.Goals as goal

pub returns-in-Versions-clause-bytes : goal.returns-in-Versions-clause-bytes
returns-in-Versions-clause-bytes g c =
    subst {A = NotPatch}
    (λ e. PutAppends (g.S.Sink.told c.args.sink.now) (g.S.Sink.told c.put.new.sink) c.put.result (codes "not a patch: " ++ cause_words e c.args.text.now))
    (sym c.in-Versions.is) c.put.ensures.bytes

pub returns-in-Names-clause-bytes : goal.returns-in-Names-clause-bytes
returns-in-Names-clause-bytes g c =
    let put = c.put-in-Names in
    subst {A = NotPatch}
    (λ e. PutAppends (g.S.Sink.told c.args.sink.now) (g.S.Sink.told put.new.sink) put.result (codes "not a patch: " ++ cause_words e c.args.text.now))
    (sym c.in-Names.is) put.ensures.bytes

pub returns-in-Kind-clause-bytes : goal.returns-in-Kind-clause-bytes
returns-in-Kind-clause-bytes g c =
    let put = c.write_kind in
    subst {A = NotPatch}
    (λ e. PutAppends (g.S.Sink.told c.args.sink.now) (g.S.Sink.told put.new.sink) put.result (codes "not a patch: " ++ cause_words e c.args.text.now))
    (sym c.in-Kind.is)
    (subst {A = List ℕ} (λ name. PutAppends (g.S.Sink.told c.args.sink.now) (g.S.Sink.told put.new.sink) put.result (codes "not a patch: kind " ++ name))
    c.as_str.ensures put.ensures.bytes)

pub returns-in-StoreFull-clause-bytes : goal.returns-in-StoreFull-clause-bytes
returns-in-StoreFull-clause-bytes g c =
    let put = c.put-in-StoreFull in
    subst {A = NotPatch}
    (λ e. PutAppends (g.S.Sink.told c.args.sink.now) (g.S.Sink.told put.new.sink) put.result (codes "not a patch: " ++ cause_words e c.args.text.now))
    (sym c.in-StoreFull.is) put.ensures.bytes
