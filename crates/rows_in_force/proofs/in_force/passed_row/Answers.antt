use Rattle.std.proofs.Common.{◌≡◌, sym, ap, ◌∙◌}
use Rattle.std.specs.Prelude.{option_map, option_copied}
use Rattle.name_sets.specs.Texts.{text_of}
use Rattle.c_semantics.specs.Store.{body_in}
use Rattle.code_store.specs.Stored.{meant_body}
use Rattle.rows_in_force.proofs.PassedRows.{number_in, passed_is_row}
use Rattle.rows_in_force.proofs.in_force.passed_row.Goals as goal
use Rattle.rows_in_force.proofs.in_force.passed_row.Goals.{in-Some, in-None}

pub returns : goal.returns
returns c = λ names all store rows known.
    let f = text_of names c.args.function in
    let generation = c.generation_by-generation.result in
    let found = c.body_in.ensures names all store known in
    let number : c.match-body_in.number ≡ number_in c.args.point (body_in all f generation) =
    elim c.match-body_in.branch [
      | in-Some w ↦
          w.number-is ∙ w.number_after-number.ensures names
          ∙ ap (number_in c.args.point) (ap (λ o. option_map (meant_body names) (option_copied o)) (sym w.in-Some.is) ∙ found)
      | in-None w ↦
          w.number-is
          ∙ ap (number_in c.args.point) (ap (λ o. option_map (meant_body names) (option_copied o)) (sym w.in-None.is) ∙ found)
    ] in
    passed_is_row names all c.args.rows.now c.args.function c.args.version c.args.point generation c.match-body_in.number
    c.row_id.result c.row.result.now rows known (c.generation_by-generation.ensures names all store known) number c.row_id.ensures
    c.row.ensures
