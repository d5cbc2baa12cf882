use Rattle.std.proofs.Common.{List, map, ap, subst, ◌∙◌}
use Rattle.std.specs.Prelude.{slice_get, string_bytes}
use Rattle.c_tree.specs.Bare.{bare_def}
use Rattle.c_tree.specs.BareExpr.{Bytes}
use Rattle.code_runs.specs.CodeData.{number_of}
use Rattle.word_installs.specs.TextRows.{IsRowOf}
use Rattle.word_layouts.specs.TextLayouts.{IsLayoutOf}
use Rattle.image_load.specs.TextTables.{HaveRows}
use Rattle.image_load.proofs.NameLists.{at_number}
use Rattle.image_load.proofs.Rows.{rows_at}
use Rattle.image_load.proofs.text_tables.known_tables.Goals as goal

pub returns-clause-tables : goal.returns-clause-tables
returns-clause-tables c = λ names tables listed.
    let text = map bare_def c.args.known.now in
    let rows = c.in_ok-rows.rows.items in
    let layouts = c.in_ok-layouts.layouts.items in
    let cells = ap (map string_bytes) c.as_slice.ensures.value ∙ tables.cells.same in
    let tags = ap (map string_bytes) c.as_slice-2.ensures.value ∙ tables.tags.same in
    let mutexes = ap (map string_bytes) c.as_slice-3.ensures.value ∙ tables.mutexes.same in
    let own_rows : HaveRows (IsRowOf text) names.cells rows = subst (λ (ns : List Bytes). HaveRows (IsRowOf text) ns rows) cells c.in_ok-rows.ensures.rows in
    let own_layouts : HaveRows (IsLayoutOf text) names.tags layouts =
    subst (λ (ns : List Bytes). HaveRows (IsLayoutOf text) ns layouts) tags c.in_ok-layouts.ensures.layouts in
    record {
      rows = record { count = own_rows.many; numbered = listed.cells; each = rows_at (IsRowOf text) names.cells rows own_rows };
      layouts = record { count = own_layouts.many; numbered = listed.tags; each = rows_at (IsLayoutOf text) names.tags layouts own_layouts };
      gone = λ name there.
          c.in_ok-gone.ensures (number_of names.mutexes name) name
          (ap (λ (ns : List Bytes). slice_get ns (number_of names.mutexes name)) mutexes ∙ at_number names.mutexes name there);
    }
