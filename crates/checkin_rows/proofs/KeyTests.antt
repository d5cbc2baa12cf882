-- The tests of equality of marks and of rows are equality.
use Rattle.std.proofs.Common.{◌≡◌, ℕ, Bool, true, ap, ◌∙◌}
use Rattle.std.specs.Prelude.{◌==◌, ◌&&◌}
use Rattle.con_freeness.specs.declared.row.Row.{Row}
use Rattle.checkin_rows.specs.declared.row.Mark.{Mark}
use Rattle.checkin_rows.specs.declared.row.Mark.TheVariants.{Start, CheckIn}
use Rattle.checkin_rows.specs.contracts.row.MarkPartialEq.TheImpl.{eq-value as mark_value}
use Rattle.con_freeness.specs.contracts.row.RowPartialEq.TheImpl.{eq-value as row_value}
use Rattle.checkin_rows.proofs.Inserting.{IsSameness}
use Rattle.checkin_rows.proofs.MarkLemmas.{num, itself, both, and_true}

abbrev pub mark_test : Mark → Mark → Bool
mark_test = mark_value.it

abbrev pub row_test : Row → Row → Bool
row_test = row_value.it

pub marks_same : IsSameness mark_value.it
marks_same = record { same = same; itself = own }
  where
    same : (x y : Mark) → mark_value.it x y ≡ true → x ≡ y
    same (Start f) (Start g) e = ap Start (num f g e)
    same (Start f) (CheckIn g n j) e = cc
    same (CheckIn f m i) (Start g) e = cc
    same (CheckIn f m i) (CheckIn g n j) e =
        let p = both (f == g) (m == n && i == j) e in
        let q = both (m == n) (i == j) p.1 in
        ap (λ f. CheckIn f m i) (num f g p.0) ∙ ap (λ m. CheckIn g m i) (num m n q.0) ∙ ap (CheckIn g n) (num i j q.1)

    own : (x : Mark) → mark_value.it x x ≡ true
    own (Start f) = itself f
    own (CheckIn f m i) = and_true (f == f) (m == m && i == i) (itself f) (and_true (m == m) (i == i) (itself m) (itself i))

pub rows_same : IsSameness row_value.it
rows_same = record { same = same; itself = own }
  where
    row : ℕ → ℕ → ℕ → Row
    row p f c = record { prior = p; future = f; concrete = c }

    same : (x y : Row) → row_value.it x y ≡ true → x ≡ y
    same x y e =
        let p = both (x.prior == y.prior) (x.future == y.future && x.concrete == y.concrete) e in
        let q = both (x.future == y.future) (x.concrete == y.concrete) p.1 in
        ap (λ n. row n x.future x.concrete) (num x.prior y.prior p.0)
        ∙ ap (λ n. row y.prior n x.concrete) (num x.future y.future q.0)
        ∙ ap (row y.prior y.future) (num x.concrete y.concrete q.1)

    own : (x : Row) → row_value.it x x ≡ true
    own x =
        and_true (x.prior == x.prior) (x.future == x.future && x.concrete == x.concrete) (itself x.prior)
        (and_true (x.future == x.future) (x.concrete == x.concrete) (itself x.future) (itself x.concrete))
