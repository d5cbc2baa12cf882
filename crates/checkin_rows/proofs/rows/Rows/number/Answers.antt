use Rattle.std.proofs.Common.{◌≡◌, suc, ◌+◌, sym, subst, ◌∙◌, arith}
use Rattle.checkin_rows.specs.Rows.{IsNumber}
use Rattle.checkin_rows.proofs.Inserting.{at_position}
use Rattle.checkin_rows.proofs.KeyTests.{mark_test, marks_same}
use Rattle.checkin_rows.proofs.rows.Rows.number.Goals as goal

pub returns-in-Some : goal.returns-in-Some
returns-in-Some c =
    let next : suc c.in-Some.place ≡ c.in-Some.place + 1 = omega arith in
    rw (c.at.ensures, ← c.self.view_is)
    (subst (IsNumber c.self.inside.marks.keys c.args.mark) next
    (at_position mark_test c.self.inside.marks.keys c.args.mark c.in-Some.place marks_same (sym c.get_index_of.ensures.index ∙ c.in-Some.is)))
