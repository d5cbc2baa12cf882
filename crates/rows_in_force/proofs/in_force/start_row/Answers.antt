use Rattle.std.proofs.Common.{[], sym, subst, ◌∙◌}
use Rattle.std.proofs.lemmas.Bool.{true≢false}
use Rattle.std.proofs.lemmas.Option.{slice_get-get_or}
use Rattle.name_sets.specs.Texts.{text_of}
use Rattle.c_semantics.specs.Store.{Start}
use Rattle.checkin_rows.specs.Rows.{IsRow}
use Rattle.rows_in_force.proofs.Entries.{entering_is_row}
use Rattle.rows_in_force.proofs.in_force.start_row.Goals as goal

pub returns-then-has_entry : goal.returns-then-has_entry
returns-then-has_entry c = λ names all store rows known.
    let f = text_of names c.args.function in
    let e = (c.has_entry.ensures names all store known).0 c.if-has_entry.true in
    subst (IsRow names all (Start f)) (sym c.row.ensures)
    (rows.start f c.args.function c.start_row.result e.0 (slice_get-get_or names c.args.function [] known) e.1 c.start_row.ensures)

pub returns-else-has_entry : goal.returns-else-has_entry
returns-else-has_entry c = λ names all store rows known.
    entering_is_row names all c.args.function c.entering.result known
    (λ e is_entry. true≢false (sym ((c.has_entry.ensures names all store known).1 (e, is_entry)) ∙ c.if-has_entry.false))
    c.entering.ensures
