use Rattle.std.proofs.Common.{[], subst}
use Rattle.std.proofs.lemmas.Option.{slice_get_within, get_or_from_slice_get}
use Rattle.c_tree.specs.BareExpr.{Bytes}
use Rattle.c_semantics.specs.Store.{Start}
use Rattle.checkin_rows.specs.Rows.{IsRow}
use Rattle.admits_report.proofs.Named.{answer_is}
use Rattle.admits_report.proofs.tested.start_answer.Goals as goal

pub returns : goal.returns
returns c = λ f at bodies changed interface over.
    let a = c.args.admission.now in
    let id = c.args.function in
    answer_is a bodies changed interface (Start f) c.row_of-row.result c.answer.result over
    (subst {A = Bytes} (λ z. IsRow a.names.now bodies (Start z) c.row_of-row.result) (get_or_from_slice_get a.names.now id f [] at)
    (c.row_of-row.ensures a.names.now bodies over.store over.rows (slice_get_within a.names.now id f at)))
    c.answer.ensures
