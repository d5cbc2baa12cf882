use Rattle.std.proofs.Common.{sym, subst}
use Rattle.c_semantics.specs.Store.{CheckInOf}
use Rattle.con_freeness.specs.declared.row.Row.{Row}
use Rattle.checkin_rows.specs.Rows.{IsRow}
use Rattle.admits_report.proofs.Named.{answer_is}
use Rattle.admits_report.proofs.tested.check_in_answer.Goals as goal

pub returns : goal.returns
returns c = λ f at bodies changed interface over.
    let a = c.args.admission.now in
    let number = c.args.spot.before in
    answer_is a bodies changed interface (CheckInOf f 1 number) c.row.result.now c.answer.result over
    (subst {A = Row} (IsRow a.names.now bodies (CheckInOf f 1 number)) (sym c.row.ensures)
    (over.rows.check_in f c.args.function 1 number c.row_id-number.result at c.row_id-number.ensures))
    c.answer.ensures
